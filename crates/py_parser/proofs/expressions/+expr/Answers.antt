use Rattle.std.proofs.Common.{rules, sym, SFits}
use Rattle.std.specs.Int.{w128}
use Rattle.std.proofs.lemmas.Int.{to_z-of_z}
use Rattle.std.proofs.lemmas.Result.{err_from_is_err_and}
use Rattle.py_tree.specs.PlainExpressions.{plain_links}
use Rattle.py_tree.specs.ExpressionGrammar.{atom_int}
use Rattle.py_parser.proofs.Loops.{sums_fails, terms_fails}
use Rattle.py_parser.proofs.expressions.+expr.Goals as goal

pub sums-returns-in_err-right-clause-comes : goal.sums-returns-in_err-right-clause-comes
sums-returns-in_err-right-clause-comes t c =
    let p = err_from_is_err_and c.from_residual.result c.from_residual.ensures.1 in
    rw (p.1, p.2) (sums_fails c.args.levels c.args.reader.now c.sums.reader c.pass.new.self c.term.new.reader c.term.new.reader (plain_links c.sums.items) c.in-Some.op c.in_err-right.field-0.0 c.sums.invariant.so_far c.in-Some.ensures.value c.pass.ensures.next c.in_err-right.ensures.comes)

pub terms-returns-in_err-right-clause-comes : goal.terms-returns-in_err-right-clause-comes
terms-returns-in_err-right-clause-comes t c =
    let p = err_from_is_err_and c.from_residual.result c.from_residual.ensures.1 in
    rw (p.1, p.2) (terms_fails c.args.levels c.args.reader.now c.terms.reader c.pass.new.self c.unary.new.reader c.unary.new.reader (plain_links c.terms.items) c.in-Some.op c.in_err-right.field-0.0 c.terms.invariant.so_far c.in-Some.ensures.value c.pass.ensures.next c.in_err-right.ensures.comes)

pub atom-returns-in-Int-clause-comes : goal.atom-returns-in-Int-clause-comes
atom-returns-in-Int-clause-comes t c =
    let fits : SFits w128 c.int_value-value.result = search rules in
    let made = simp to_z-of_z at c.int_of.ensures in
    rw (made, c.here-place.ensures, c.int_value-value.ensures, c.pass.ensures.next) (atom_int (sym c.in-Int.ensures.start))

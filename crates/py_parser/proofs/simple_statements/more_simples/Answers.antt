use Rattle.std.proofs.Common.{sym}
use Rattle.std.proofs.lemmas.Result.{err_from_is_err_and}
use Rattle.py_tree.specs.PlainStatements.{plain_stmts}
use Rattle.py_parser.proofs.BlockLoops.{more_simples_fails}
use Rattle.py_parser.proofs.simple_statements.more_simples.Goals as goal

pub returns-in_err-simple-clause-comes : goal.returns-in_err-simple-clause-comes
returns-in_err-simple-clause-comes c =
    let p = err_from_is_err_and c.from_residual.result c.from_residual.ensures.1 in
    rw (p.1, p.2) (more_simples_fails c.args.levels c.args.reader.now c.more_simples.reader c.pass.new.self c.simple.new.reader c.simple.new.reader (plain_stmts c.more_simples.items) c.in_err-simple.field-0.0 c.more_simples.invariant.so_far (sym c.more_simples-test.ensures.sees) (sym c.if-ends.ensures.ends) c.pass.ensures.next c.in_err-simple.ensures.comes)

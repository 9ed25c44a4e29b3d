use Rattle.std.proofs.Common.{sym}
use Rattle.std.proofs.lemmas.Result.{err_from_is_err_and}
use Rattle.py_tree.specs.PlainProgram.{plain_methods}
use Rattle.py_parser.proofs.BlockLoops.{methods_refuses, methods_fails}
use Rattle.py_parser.proofs.classes.methods.Goals as goal

pub returns-then-not-is_at-clause-comes : goal.returns-then-not-is_at-clause-comes
returns-then-not-is_at-clause-comes c =
    methods_refuses c.args.column c.args.reader.now c.methods.reader c.begin_line.new.self c.begin_line.new.self (plain_methods c.methods.items) c.refusal.result c.methods.invariant.so_far (sym c.methods-test.ensures.is_deeper) (sym c.if-not-is_at.ensures.is_at) c.begin_line.ensures.next_line c.refusal.ensures

pub returns-in_err-method-clause-comes : goal.returns-in_err-method-clause-comes
returns-in_err-method-clause-comes c =
    let p = err_from_is_err_and c.from_residual.result c.from_residual.ensures.1 in
    rw (p.1, p.2) (methods_fails c.args.column c.args.reader.now c.methods.reader c.begin_line-in-methods.new.self c.method.new.reader c.method.new.reader (plain_methods c.methods.items) c.in_err-method.field-0.0 c.methods.invariant.so_far (sym c.methods-test.ensures.is_deeper) (sym c.if-not-is_at.ensures.is_at) c.begin_line-in-methods.ensures.next_line c.in_err-method.ensures.comes)

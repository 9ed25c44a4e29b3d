use Rattle.std.proofs.Common.{sym, ap, ◌∙◌}
use Rattle.std.proofs.lemmas.Result.{err_from_is_err_and}
use Rattle.py_tree.specs.PlainProgram.{plain_params}
use Rattle.py_tree.specs.Reading.{sees_name, named}
use Rattle.py_parser.proofs.BlockLoops.{params_fails}
use Rattle.py_parser.proofs.classes.params.Goals as goal

pub returns-in_err-ty-clause-comes : goal.returns-in_err-ty-clause-comes
returns-in_err-ty-clause-comes c =
    let p = err_from_is_err_and c.from_residual-in_err-ty.result c.from_residual-in_err-ty.ensures.1 in
    rw (p.1, p.2) (params_fails c.args.levels c.args.reader.now c.params.reader c.take_name.new.self c.annotation.new.reader c.annotation.new.reader (plain_params c.params.items) c.in_err-ty.field-0.0 c.params.invariant.so_far (sym c.params-test.ensures.sees) (ap sees_name (sym c.pass.ensures.next) ∙ sym c.if-not-sees_name.ensures.sees) (c.in_ok-name.ensures.named ∙ ap named c.pass.ensures.next) c.in_err-ty.ensures.comes)

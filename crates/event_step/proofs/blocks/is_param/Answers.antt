use Rattle.std.proofs.Common.{ap, sym, ◌∙◌}
use Rattle.std.specs.Prelude.{◌==◌}
use Rattle.std.specs.List.{list_any}
use Rattle.block_code.specs.declared.vars.VarType.{VarType}
use Rattle.block_code.specs.PlainVars.{PlainVar}
use Rattle.block_code.specs.EventsFit.{params_if_there}
use Rattle.event_step.proofs.FrameLaws.{name_among}
use Rattle.event_step.proofs.blocks.is_param.Goals as goal

pub returns-in-Some : goal.returns-in-Some
returns-in-Some c =
    c.is_among.ensures
    ∙ ap (list_any (λ (p : VarType). p.name.0 == c.args.name.0)) c.as_slice.ensures
    ∙ sym (name_among c.in-Some.block.now.params c.args.name.0)
    ∙ ap (λ o. list_any (λ (p : PlainVar). p.name == c.args.name.0) (params_if_there o)) c.in-Some.ensures

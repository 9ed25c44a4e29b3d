use Rattle.std.proofs.Common.{◌-◌, ◌∙◌, ap, refl}
use Rattle.std.specs.Prelude.{nat_lt}
use Rattle.event_step.proofs.StepLaws.{can_run, finish_fits, run_comes}
use Rattle.event_step.proofs.entering.run_from.Goals as goal

pub run_part-requires-clause-due : goal.run_part-requires-clause-due
run_part-requires-clause-due c = can_run c.args.code.now c.args.entered _ c.args.number c.args.running _ refl refl (c.depth_behind.ensures.left ∙ ap (λ n. 63 - n) c.len.ensures) (c.depth_behind.ensures.room ∙ ap (λ n. nat_lt n 63) c.len.ensures) c.requires.unwritten c.method-blocks.ensures c.requires.due

pub finish-requires : goal.finish-requires
finish-requires c = finish_fits c.args.code.now c.args.entered _ c.args.number c.args.running _ refl refl (c.depth_behind.ensures.left ∙ ap (λ n. 63 - n) c.len.ensures) (c.depth_behind.ensures.room ∙ ap (λ n. nat_lt n 63) c.len.ensures) c.requires.unwritten c.method-blocks.ensures c.requires.due c.in-Ok.part c.run_part.new.running c.in-Ok.ensures

pub returns-in-Ok : goal.returns-in-Ok
returns-in-Ok c = run_comes c.args.code.now c.args.entered _ c.args.number c.args.running _ refl refl (c.depth_behind.ensures.left ∙ ap (λ n. 63 - n) c.len.ensures) (c.depth_behind.ensures.room ∙ ap (λ n. nat_lt n 63) c.len.ensures) c.requires.unwritten c.method-blocks.ensures c.requires.due c.in-Ok.part c.run_part.new.running c.in-Ok.ensures c.finish.result c.finish.ensures

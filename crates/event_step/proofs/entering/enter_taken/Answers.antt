use Rattle.block_code.specs.declared.event.EventKind.TheVariants as kind
use Rattle.event_step.specs.Steps.{fields_of, step_in}
use Rattle.event_step.proofs.StepLaws.{ok_comes_as}
use Rattle.event_step.proofs.entering.enter_taken.Goals as goal

pub returns-in-Ok : goal.returns-in-Ok
returns-in-Ok c =
    ok_comes_as c.enter.result _ (step_in c.args.code.now (kind.Enter c.args.to.now c.args.method c.args.args) c.args.tx c.args.frames c.args.steps (fields_of c.args.held))
    (λ fuel i. step_in c.args.code.now (kind.Enter (c.in-Ok.ensures i) c.args.method c.args.args) c.args.tx c.args.frames c.args.steps (fields_of c.args.held) fuel) c.enter.ensures

use Rattle.std.proofs.Common.{ap, sym, ◌∙◌}
use Rattle.block_code.specs.declared.event.EventKind.TheVariants as kind
use Rattle.event_step.specs.Steps.{fields_of, step_in}
use Rattle.event_step.proofs.StepLaws.{ok_comes_as}
use Rattle.event_step.proofs.handling.handle_kind.Goals as goal

pub returns-in-Enter : goal.returns-in-Enter
returns-in-Enter c =
    ok_comes_as c.enter_taken.result _ (step_in c.args.code.now c.args.asked.now c.args.tx c.args.frames c.args.steps (fields_of c.args.held))
    (λ fuel.
    (λ i. step_in c.args.code.now (kind.Enter c.in-Enter.to c.in-Enter.method (c.take_values-args.ensures i)) c.args.tx c.args.frames c.args.steps (fields_of c.args.held) fuel)
    ∙ ap (λ k. step_in c.args.code.now k c.args.tx c.args.frames c.args.steps (fields_of c.args.held) fuel) (sym c.in-Enter.is)) c.enter_taken.ensures

pub returns-in-Some : goal.returns-in-Some
returns-in-Some c =
    ok_comes_as c.resume.result _ (step_in c.args.code.now c.args.asked.now c.args.tx c.args.frames c.args.steps (fields_of c.args.held))
    (λ fuel.
    (λ i. step_in c.args.code.now (kind.Resume (c.replace-outcome.ensures.value i)) c.args.tx c.args.frames c.args.steps (fields_of (sym c.in-Some.is i)) fuel)
    ∙ ap (λ k. step_in c.args.code.now k c.args.tx c.args.frames c.args.steps (fields_of c.args.held) fuel) (sym c.in-Resume.is)) c.resume.ensures

use Rattle.std.proofs.Common.{ap, sym, ◌∙◌}
use Rattle.block_runs.specs.EventStep.{lasts, target_of}
use Rattle.event_step.proofs.FrameLaws.{resumes_entity}
use Rattle.event_step.proofs.handling.target.Goals as goal

pub returns-in-Resume : goal.returns-in-Resume
returns-in-Resume c = c.last_entity.ensures ∙ resumes_entity c.in-Resume.field-0 (lasts c.args.event.now.frames) ∙ ap (λ k. target_of k (lasts c.args.event.now.frames)) (sym c.in-Resume.is)

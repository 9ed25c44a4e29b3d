use Rattle.std.proofs.Common.{arith, sym, ◌∙◌}
use Rattle.event_step.proofs.FrameLaws.{no_entity_waits, entity_waits, entity_is_there}
use Rattle.event_step.proofs.frames.last_entity.Goals as goal

pub returns-then-count-eq0 : goal.returns-then-count-eq0
returns-then-count-eq0 c = no_entity_waits c.args.frames.now (sym c.len-count.ensures ∙ c.if-count-eq0.true)

pub returns-in_err-frame : goal.returns-in_err-frame
returns-in_err-frame c = absurd (entity_is_there c.args.frames.now _ (grind (arith, c.len-count.ensures, c.if-count-eq0.false)) c.in_err-frame.ensures.value)

pub returns : goal.returns
returns c = entity_waits c.args.frames.now _ c.in_ok-frame.frame.now (grind (arith, c.len-count.ensures, c.if-count-eq0.false)) c.in_ok-frame.ensures.value

use Rattle.std.proofs.Common.{arith, sym, ◌∙◌}
use Rattle.event_step.proofs.FrameLaws.{none_waits, popped}
use Rattle.event_step.proofs.frames.pop_frame.Goals as goal

pub returns-then-count-eq0 : goal.returns-then-count-eq0
returns-then-count-eq0 c = none_waits c.args.frames.now (sym c.len-count.ensures ∙ c.if-count-eq0.true)

pub returns : goal.returns
returns c = popped c.args.frames.now c.remove.new.self _ c.remove.result (grind (arith, c.len-count.ensures, c.if-count-eq0.false)) c.remove.ensures.value c.remove.ensures.rest

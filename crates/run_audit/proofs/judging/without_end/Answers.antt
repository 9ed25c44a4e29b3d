use Rattle.run_audit.proofs.ReplyLaws.{popped}
use Rattle.run_audit.proofs.judging.without_end.Goals as goal

pub returns : goal.returns
returns c = λ text whole. popped _ _ text _ c.pop-end.ensures.taken c.pop-end.ensures.some whole

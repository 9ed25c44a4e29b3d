use Rattle.engine.proofs.PlanReplays.{plans_replay}
use Rattle.engine.proofs.laws.plans_replay.Goals as goal

pub returns : goal.returns
returns c = plans_replay

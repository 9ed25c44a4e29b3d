use Rattle.block_runs.proofs.WellSteps as well
use Rattle.block_runs.proofs.laws.events_step_well.Goals as goal

pub returns : goal.returns
returns c = well.events_step_well

use Rattle.block_runs.proofs.FallLaws as fall
use Rattle.block_runs.proofs.laws.steps_fall.Goals as goal

pub returns : goal.returns
returns c = fall.steps_fall

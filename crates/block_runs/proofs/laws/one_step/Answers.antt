use Rattle.block_runs.proofs.FuelLaws.{steps_are_one, runs_are_one}
use Rattle.block_runs.proofs.laws.one_step.Goals as goal

pub returns : goal.returns
returns c = record { steps = steps_are_one; runs = runs_are_one }

use Rattle.short_runs.proofs.RunsReal.{first_is_real, runs_are_real, serial_is_real}
use Rattle.short_runs.proofs.laws.runs_are_real.Goals as goal

pub returns : goal.returns
returns c = record { first = first_is_real; runs = runs_are_real; serial = serial_is_real }

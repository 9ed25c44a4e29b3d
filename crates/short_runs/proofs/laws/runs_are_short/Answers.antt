use Rattle.short_runs.proofs.RunsShort.{first_is_short, runs_are_short, serial_is_short}
use Rattle.short_runs.proofs.laws.runs_are_short.Goals as goal

pub returns : goal.returns
returns c = record { first = first_is_short; runs = runs_are_short; serial = serial_is_short }

use Rattle.std.proofs.Common.{◌≡◌, take}
use Rattle.std.specs.FinMap as finite
use Rattle.sf_value.specs.Keys.{Key}
use Rattle.reservations.specs.Accesses.{accesses_of}
use Rattle.reservations.specs.Reservations.{first_writer}
use Rattle.reservations.proofs.rule1.first_writers.Given as goal

abbrev pub invariant-loop-i : goal.invariant-loop-i
invariant-loop-i l = (q : Key) → finite.get l.table q ≡ first_writer (accesses_of (take l.i l.works)) q

use Rattle.std.proofs.Common.{◌≡◌, take}
use Rattle.std.specs.FinMap as finite
use Rattle.std.specs.FinSet as set
use Rattle.sf_value.specs.Keys.{Key}
use Rattle.keyed_state.specs.Works.{keys_of}
use Rattle.reservations.specs.Reservations.{reserved_if}
use Rattle.reservations.proofs.rule1.reserve_all.Given as goal

abbrev pub invariant-loop-at : goal.invariant-loop-at
invariant-loop-at l = (q : Key) → finite.get l.table q ≡ reserved_if (set.contains (keys_of (take l.at-index l.writes)) q) (finite.get l.fn.table q) l.place

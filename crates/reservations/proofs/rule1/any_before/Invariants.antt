use Rattle.std.proofs.Common.{◌≡◌, take, false}
use Rattle.std.specs.List.{list_any}
use Rattle.reservations.specs.Reservations.{is_reserved}
use Rattle.reservations.proofs.rule1.any_before.Given as goal

abbrev pub invariant-loop-at : goal.invariant-loop-at
invariant-loop-at l = list_any (is_reserved l.table l.place) (take l.at-index l.refs) ≡ false

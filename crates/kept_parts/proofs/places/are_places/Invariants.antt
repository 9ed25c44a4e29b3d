use Rattle.std.proofs.Common.{◌≡◌, drop}
use Rattle.keyed_state.specs.Works.{are_places}
use Rattle.kept_parts.proofs.places.are_places.Given as goal

abbrev pub invariant-loop-i : goal.invariant-loop-i
invariant-loop-i l = are_places l.count (drop l.i l.places) ≡ are_places l.count l.places

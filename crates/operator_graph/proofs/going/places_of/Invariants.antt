use Rattle.operator_graph.proofs.PlacesKept.{IsPlaced}
use Rattle.operator_graph.proofs.going.places_of.Given as goal

abbrev pub invariant-loop-place : goal.invariant-loop-place
invariant-loop-place l = IsPlaced l.flights l.place l.places

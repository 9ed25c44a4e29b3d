use Rattle.std.proofs.Common.{◌∙◌, sym, subst}
use Rattle.operator_graph.proofs.PlacesKept.{IsPlaced, placed_none, placed_past, placed_one, placed_all}
use Rattle.operator_graph.proofs.going.places_of.Goals as goal
use Rattle.operator_graph.proofs.going.places_of.Goals.{then-not-is_over+in_ok-push, else-not-is_over}

pub loop-place-init : goal.loop-place-init
loop-place-init c = placed_none c.args.flights.now c.new-places.result c.new-places.ensures

pub loop-place-preserved : goal.loop-place-preserved
loop-place-preserved c =
    elim c.if-not-is_over.branch [
      | then-not-is_over+in_ok-push w ↦ placed_one c.args.flights.now c.loop-place.place c.loop-place.places c.if-not-is_over.places c.index-flights-place.result c.loop-place-test.true c.index-flights-place.is (sym c.is_over.ensures ∙ w.if-not-is_over.true) (w.places-is ∙ w.in_ok-push.ensures.ok) c.loop-place.invariant
      | else-not-is_over w ↦ subst (IsPlaced c.args.flights.now _) (sym w.places-is) (placed_past c.args.flights.now c.loop-place.place c.loop-place.places c.index-flights-place.result c.loop-place-test.true c.index-flights-place.is (sym c.is_over.ensures ∙ w.if-not-is_over.false) c.loop-place.invariant)
    ]

pub returns : goal.returns
returns c = placed_all c.args.flights.now c.loop-place.place c.loop-place.places c.loop-place-test.false c.loop-place.invariant

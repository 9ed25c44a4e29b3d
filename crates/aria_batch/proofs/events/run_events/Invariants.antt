use Rattle.std.proofs.Common.{◌≤◌, ◌+◌, ◌*◌, ◌^◌}
use Rattle.batch_events.specs.Vocabulary.{most_weight, IsUnderWay, flights_in, weight_in_flight}
use Rattle.aria_batch.proofs.BatchLaws.{SoFar}
use Rattle.aria_batch.proofs.events.run_events.Given as goal

abbrev pub invariant-loop-works : goal.invariant-loop-works
invariant-loop-works g l = record {
  under_way : IsUnderWay l.compiled l.state.contents l.in_flight l.works;
  so_far : SoFar l.compiled l.state.contents l.requests l.parts l.events (flights_in l.in_flight) l.works
      (record { choices = g.C.Chooser.choices l.fn.chooser; told = g.W.Watch.told l.fn.watch })
      (record { choices = g.C.Chooser.choices l.chooser; told = g.W.Watch.told l.watch });
  few : l.events + weight_in_flight l.in_flight ≤ 2 ^ 32 * most_weight;
}

abbrev pub decreases-loop-works : goal.decreases-loop-works
decreases-loop-works g l = weight_in_flight l.in_flight

use Rattle.std.proofs.Common.{◌∙◌, length, length-set, sym, ap}
use Rattle.operator_graph.specs.declared.flight.Flight.{Flight}
use Rattle.operator_graph.specs.Going.{all_come_to}
use Rattle.operator_graph.proofs.OutcomeLaws.{is_over_at, over_behind, taken_more}
use Rattle.operator_graph.proofs.landing.take_outcomes.Goals as goal

pub take_outcome-outcome-requires : goal.take_outcome-outcome-requires
take_outcome-outcome-requires c = is_over_at c.loop-place.flights c.loop-place.place c.at_mut.result.now c.at_mut.ensures.value c.loop-place.invariant.over

pub loop-place-preserved : goal.loop-place-preserved
loop-place-preserved c =
    let flights = c.loop-place.flights in
    let place = c.loop-place.place in
    let old : Flight = c.at_mut.result.now in
    let new : Flight = record old { next = record old.next { kind = c.take_outcome-outcome.new.kind } } in
    record {
      end = length-set flights place new ∙ c.loop-place.invariant.end;
      as_many = ap length c.set.ensures ∙ length-set c.loop-place.outcomes place c.take_outcome-outcome.result ∙ c.loop-place.invariant.as_many ∙ sym (length-set flights place new);
      over = over_behind flights place old new c.at_mut.ensures.value c.loop-place.invariant.over;
      so_far =
          taken_more flights c.loop-place.outcomes c.set.new.self (all_come_to c.args.flights) place old new c.take_outcome-outcome.result c.at_mut.ensures.value c.loop-place.invariant.as_many c.take_outcome-outcome.ensures c.set.ensures
          c.loop-place.invariant.so_far;
    }

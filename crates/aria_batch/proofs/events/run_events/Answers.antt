use Rattle.std.proofs.Common.{◌≡◌, ◌≤◌, ◌*◌, ap, sym, ◌∙◌, arith, subst, length, Ok}
use Rattle.batch_events.specs.Vocabulary.{firsts, most_weight, acts_of, EachTransaction, no_works, IsUnderWay, flights_in, weight_in_flight}
use Rattle.aria_batch.specs.BatchRun.{source_of}
use Rattle.aria_batch.proofs.BatchLaws.{uncounted, begins, goes_on, stops, all_told, works_of_runs, outcomes_of_runs, nothing_told}
use Rattle.aria_batch.proofs.events.run_events.Goals as goal

pub returns-in_err-in_flight-clause-told : goal.returns-in_err-in_flight-clause-told
returns-in_err-in_flight-clause-told g c = uncounted _ _ c.from_residual.result _ _ c.from_residual.ensures.0 (nothing_told c.args.compiled.now c.args.state.now.contents c.args.requests.now c.args.parts _)

pub returns-in_err-works-clause-told : goal.returns-in_err-works-clause-told
returns-in_err-works-clause-told g c = uncounted _ _ c.from_residual-in_err-works.result _ _ c.from_residual-in_err-works.ensures.0 (nothing_told c.args.compiled.now c.args.state.now.contents c.args.requests.now c.args.parts _)

pub loop-works-init : goal.loop-works-init
loop-works-init g c =
    let compiled = c.args.compiled.now in
    let snapshot = c.args.state.now.contents in
    let requests = c.args.requests.now in
    let flight = c.in_ok-in_flight.in_flight in
    let works : c.in_ok-works.works ≡ no_works (length requests) = c.in_ok-works.ensures ∙ ap no_works c.len.ensures in
    let light : weight_in_flight flight ≤ length requests * most_weight = c.in_ok-in_flight.ensures.light in
    let few = c.requires.few in
    record {
      under_way = subst (IsUnderWay compiled snapshot flight) (sym works) (c.in_ok-in_flight.ensures.under_way snapshot c.requires.state);
      so_far = begins compiled snapshot requests c.args.parts (flights_in flight) c.in_ok-works.works _
          (subst (EachTransaction snapshot (firsts (source_of compiled) snapshot (acts_of requests)) (flights_in flight)) (sym works) (c.in_ok-in_flight.ensures.first snapshot));
      few = omega arith;
    }

pub loop-works-preserved : goal.loop-works-preserved
loop-works-preserved g c =
    let few = c.loop-works.invariant.few in
    let falls = c.in_ok-turn.ensures.falls c.if-branch.true in
    record {
      under_way = c.in_ok-turn.ensures.still;
      so_far = goes_on c.loop-works.invariant.so_far c.turn.result (flights_in c.turn.new.self) c.turn.new.works _ c.turn.ensures.turns (c.in_ok-turn.was ∙ ap Ok c.if-branch.true);
      few = omega arith;
    }

pub returns-in_err-turn-clause-told : goal.returns-in_err-turn-clause-told
returns-in_err-turn-clause-told g c =
    uncounted _ _ c.from_residual-in_err-turn.result _ _ c.from_residual-in_err-turn.ensures.0
    (stops c.loop-works.invariant.so_far c.turn.result (flights_in c.turn.new.self) c.turn.new.works _ c.turn.ensures.turns c.in_err-turn.field-0.0 c.in_err-turn.was)

pub returns-clause-told : goal.returns-clause-told
returns-clause-told g c = all_told c.loop-works.invariant.so_far c.turn.result (flights_in c.turn.new.self) c.turn.new.works _ c.turn.ensures.turns (c.in_ok-turn.was ∙ ap Ok c.if-branch.false)

pub returns-clause-works : goal.returns-clause-works
returns-clause-works g c =
    works_of_runs c.loop-works.invariant.so_far c.turn.result (flights_in c.turn.new.self) c.turn.new.works _ c.turn.ensures.turns (c.in_ok-turn.was ∙ ap Ok c.if-branch.false) c.requires.whole c.requires.state c.requires.fit

pub returns-clause-outcomes : goal.returns-clause-outcomes
returns-clause-outcomes g c =
    c.outcomes.ensures
    ∙ outcomes_of_runs c.loop-works.invariant.so_far c.turn.result (flights_in c.turn.new.self) c.turn.new.works _ c.turn.ensures.turns (c.in_ok-turn.was ∙ ap Ok c.if-branch.false) c.requires.whole c.requires.state c.requires.fit

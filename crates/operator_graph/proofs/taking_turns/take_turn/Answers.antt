use Rattle.std.proofs.Common.{◌≡◌, ◌∙◌, ◌≤◌, ◌<◌, ℕ, length, arith, refl, sym, ap, subst}
use Rattle.std.specs.Prelude.{slice_get, Some}
use Rattle.std.proofs.lemmas.Option.{slice_get_within}
use Rattle.operator_graph.specs.Going.{going}
use Rattle.operator_graph.proofs.TurnsTaken.{IsPick, gave_up, none_runs, can_turn, has_work, picks_one, took_turn, still_fit, weighs_less}
use Rattle.operator_graph.proofs.PlacesKept.{as_many_places, few_go_on, pick_fits, is_pick, set_there, places_then}
use Rattle.operator_graph.proofs.taking_turns.take_turn.Goals as goal

pub overflow_cast-count : goal.overflow_cast-count
overflow_cast-count g c =
    let fs = c.args.flights.now in
    let few : length fs < 4294967296 = c.requires.few in
    let counted : c.len-count.result ≡ length c.args.places.now = c.len-count.ensures in
    let placed : length c.args.places.now ≡ going fs = ap length c.requires.placed ∙ as_many_places 0 fs in
    let fewer : going fs ≤ length fs = few_go_on fs in
    omega (arith, few, counted, placed, fewer)

pub returns-then-count-eq0-clause-over : goal.returns-then-count-eq0-clause-over
returns-then-count-eq0-clause-over g c = λ over. sym (as_many_places 0 c.args.flights.now) ∙ sym (ap length c.requires.placed) ∙ sym c.len-count.ensures ∙ c.if-count-eq0.true

pub returns-then-count-eq0-clause-turns : goal.returns-then-count-eq0-clause-turns
returns-then-count-eq0-clause-turns g c = λ ts each.
    let none = sym (as_many_places 0 c.args.flights.now) ∙ sym (ap length c.requires.placed) ∙ sym c.len-count.ensures ∙ c.if-count-eq0.true in
    (none_runs c.args.on.now.compiled.now c.args.on.now.parts c.args.on.now.state.now.contents ts c.args.flights.now c.args.works.now each none, each, refl)

pub turn_at-requires-clause-works : goal.turn_at-requires-clause-works
turn_at-requires-clause-works g c =
    let on = c.args.on.now in
    let count : ℕ = c.len-count.result in
    let pick : ℕ = c.pick-pick.result in
    let place : ℕ = c.place_at-place.result in
    let is : IsPick c.args.flights.now count pick place = is_pick c.args.flights.now c.args.places.now count pick place c.requires.placed c.len-count.ensures c.if-count-eq0.false c.place_at-place.ensures in
    has_work on.compiled.now c.requires.whole on.parts on.state.now.contents c.args.flights.now c.args.works.now count pick place is c.requires.fit

pub turn_at-requires-clause-can : goal.turn_at-requires-clause-can
turn_at-requires-clause-can g c =
    let on = c.args.on.now in
    let count : ℕ = c.len-count.result in
    let pick : ℕ = c.pick-pick.result in
    let place : ℕ = c.place_at-place.result in
    let is : IsPick c.args.flights.now count pick place = is_pick c.args.flights.now c.args.places.now count pick place c.requires.placed c.len-count.ensures c.if-count-eq0.false c.place_at-place.ensures in
    can_turn on.compiled.now c.requires.whole on.parts on.state.now.contents c.args.flights.now c.args.works.now count pick place is c.requires.fit

pub returns-in_err-turn_at-clause-turns : goal.returns-in_err-turn_at-clause-turns
returns-in_err-turn_at-clause-turns g c = λ ts each.
    let on = c.args.on.now in
    let count : ℕ = c.len-count.result in
    let pick : ℕ = c.pick-pick.result in
    let place : ℕ = c.place_at-place.result in
    let is : IsPick c.args.flights.now count pick place = is_pick c.args.flights.now c.args.places.now count pick place c.requires.placed c.len-count.ensures c.if-count-eq0.false c.place_at-place.ensures in
    gave_up _ ts on.state.now.contents c.from_residual.result c.turn_at.new.flights c.turn_at.new.works _ _ c.from_residual.ensures.0 (picks_one on.compiled.now c.requires.whole on.parts on.state.now.contents c.args.flights.now c.args.works.now count pick place is ts each _ _ c.pick-pick.ensures c.turn_at.ensures.told)

pub leave-requires-clause-place : goal.leave-requires-clause-place
leave-requires-clause-place g c =
    let gone = c.in_ok-turn_at.ensures.gone in
    slice_get_within c.turn_at.new.flights c.place_at-place.result gone.new (subst (λ fs. slice_get fs c.place_at-place.result ≡ Some gone.new) (sym gone.is_new) (set_there c.args.flights.now c.place_at-place.result gone.old gone.new gone.is_old))

pub returns-clause-still : goal.returns-clause-still
returns-clause-still g c =
    let on = c.args.on.now in
    let count : ℕ = c.len-count.result in
    let pick : ℕ = c.pick-pick.result in
    let place : ℕ = c.place_at-place.result in
    let is : IsPick c.args.flights.now count pick place = is_pick c.args.flights.now c.args.places.now count pick place c.requires.placed c.len-count.ensures c.if-count-eq0.false c.place_at-place.ensures in
    still_fit on.compiled.now c.requires.whole on.parts on.state.now.contents c.args.flights.now c.args.works.now count pick place is c.requires.fit c.turn_at.new.flights c.turn_at.new.works c.in_ok-turn_at.ensures.gone

pub returns-clause-placed : goal.returns-clause-placed
returns-clause-placed g c =
    let on = c.args.on.now in
    let count : ℕ = c.len-count.result in
    let pick : ℕ = c.pick-pick.result in
    let place : ℕ = c.place_at-place.result in
    let is : IsPick c.args.flights.now count pick place = is_pick c.args.flights.now c.args.places.now count pick place c.requires.placed c.len-count.ensures c.if-count-eq0.false c.place_at-place.ensures in
    let gone = c.in_ok-turn_at.ensures.gone in
    let there = subst (λ fs. slice_get fs place ≡ Some gone.new) (sym gone.is_new) (set_there c.args.flights.now place gone.old gone.new gone.is_old) in
    places_then c.args.flights.now c.turn_at.new.flights c.args.places.now c.leave.new.places count pick place gone.new is (pick_fits c.args.flights.now c.args.places.now count pick c.requires.placed c.len-count.ensures c.if-count-eq0.false) c.requires.placed gone.is_new
    (c.leave.ensures.over gone.new there) (c.leave.ensures.going gone.new there)

pub returns-clause-turns : goal.returns-clause-turns
returns-clause-turns g c = λ ts each.
    let on = c.args.on.now in
    let count : ℕ = c.len-count.result in
    let pick : ℕ = c.pick-pick.result in
    let place : ℕ = c.place_at-place.result in
    let is : IsPick c.args.flights.now count pick place = is_pick c.args.flights.now c.args.places.now count pick place c.requires.placed c.len-count.ensures c.if-count-eq0.false c.place_at-place.ensures in
    took_turn on.compiled.now c.requires.whole on.parts on.state.now.contents c.args.flights.now c.args.works.now count pick place is c.requires.fit c.turn_at.new.flights c.turn_at.new.works c.in_ok-turn_at.ensures.gone ts each _ _ c.pick-pick.ensures c.turn_at.ensures.told

pub returns-clause-falls : goal.returns-clause-falls
returns-clause-falls g c = λ more.
    let on = c.args.on.now in
    let count : ℕ = c.len-count.result in
    let pick : ℕ = c.pick-pick.result in
    let place : ℕ = c.place_at-place.result in
    let is : IsPick c.args.flights.now count pick place = is_pick c.args.flights.now c.args.places.now count pick place c.requires.placed c.len-count.ensures c.if-count-eq0.false c.place_at-place.ensures in
    weighs_less on.compiled.now c.requires.whole on.parts on.state.now.contents c.args.flights.now c.args.works.now count pick place is c.requires.fit c.turn_at.new.flights c.turn_at.new.works c.in_ok-turn_at.ensures.gone

-- One turn: which transaction is picked, and what it comes to.
use Rattle.std.proofs.Common.{◌≡◌, ◌∙◌, ℕ, zero, suc, arith, ◌+◌, ◌*◌, ◌%◌, ◌^◌, ◌<◌, ◌≤◌, Bool, true, false, true≢false, List, [], ◌∷◌, Option, Some, Result, Ok, Err, length, refl, sym, ap, subst}
use Rattle.std.specs.Prelude.{IsErr, slice_get, slice_set}
use Rattle.std.specs.declared.alloc.AllocError.{AllocError}
use Rattle.std.specs.List.{AllByRecursion}
use Rattle.std.proofs.Math.Nat.{mod-lt, mul-le-mul}
use Rattle.std.proofs.lemmas.Option.{same_Some, none-some, slice_get_within}
use Rattle.sf_value.specs.declared.value.Ref.{Ref}
use Rattle.program_meaning.specs.World.{State}
use Rattle.keyed_state.specs.declared.Work.{Work}
use Rattle.sf_outside.specs.Choices.{Choices, Picks}
use Rattle.block_code.specs.declared.event.Event.{Event}
use Rattle.block_code.specs.EventsFit.{EventFits}
use Rattle.block_runs.specs.EventStep.{lasts, target_of}
use Rattle.block_runs.specs.StepFalls.{weight}
use Rattle.block_step.specs.declared.compiled.Compiled.{Compiled}
use Rattle.block_step.specs.CompiledViews.{compiled_program, compiled_names, compiled_tables, compiled_blocks, IsWhole}
use Rattle.quiet_methods.specs.MarksKeepWithin.{source}
use Rattle.interleaving.specs.Turns.{Parts, running, stepped, noted, turned, told}
use Rattle.interleaving.specs.AsAlone.{sum_of}
use Rattle.transaction_steps.specs.Transactions.{Transaction, is_done}
use Rattle.transaction_steps.specs.GoingOn.{TransactionFits, GoesOn}
use Rattle.operator_graph.specs.declared.flight.Flight.{Flight}
use Rattle.operator_graph.specs.Partitions.{IsParts}
use Rattle.operator_graph.specs.Telling.{Told, AlsoTold}
use Rattle.operator_graph.specs.BatchEvents.{event_told}
use Rattle.operator_graph.specs.Going.{going, place_going, weights}
use Rattle.operator_graph.specs.Stepping.{CanStep, HasGoneOnAt}
use Rattle.operator_graph.specs.Flights.{IsTransaction, EachTransaction, FlightsFit, turns_of}
use Rattle.operator_graph.specs.Turns.{Outside, PicksOne, Turns}
use Rattle.operator_graph.proofs.FlightLaws.{goes_on, few_classes, can_step, gone_on, is_lighter, is_one}
use Rattle.operator_graph.proofs.PickedFlights.{as_many_run, Picked, picked}

-- a lighter item makes a list lighter
lighter_list : (fs : List Flight) (i : ℕ) (f new : Flight) → slice_get fs i ≡ Some f → weight new.next < weight f.next → weights (slice_set fs i new) < weights fs
unfolding sum_of
lighter_list [] i f new is less = absurd (none-some f is)
lighter_list (x ∷ fs) zero f new is less =
    let same : weight x.next ≡ weight f.next = ap (λ (g : Flight). weight g.next) (same_Some _ _ is) in
    by (weight new.next) (weight x.next) (weight f.next) (weights fs) same less
  where
    by : (a b d rest : ℕ) → b ≡ d → a < d → a + rest < b + rest
    by a b d rest same less = omega (arith, same, less)
lighter_list (x ∷ fs) (suc i) f new is less = by (weight x.next) (weights (slice_set fs i new)) (weights fs) (lighter_list fs i f new is less)
  where
    by : (a b d : ℕ) → b < d → a + b < a + d
    by a b d less = omega (arith, less)

-- the operators of all classes have numbers of 32 bits
few_operators : (class parts : ℕ) → class < 256 → IsParts parts → (class + 1) * parts < 2 ^ 32
few_operators class parts small range =
    let more : class + 1 ≤ 256 = omega (arith, small) in
    let product : (class + 1) * parts ≤ 256 * 64 = mul-le-mul more range.few in
    omega (arith, product)

pub has_room : (c : Compiled) → IsWhole c → (parts : ℕ) → IsParts parts → (snapshot : State) (fs : List Flight) (place : ℕ) (f : Flight) → slice_get fs place ≡ Some f → (g : Flight) × (slice_get fs place ≡ Some g) × CanStep c snapshot g
    → (at : Ref) → target_of f.next.kind (lasts f.next.frames) ≡ Some at → (at.class + 1) * parts < 2 ^ 32
has_room c whole parts range snapshot fs place f is can at target =
    let same : can.0 ≡ f = same_Some _ _ (sym can.1 ∙ is) in
    let fits : EventFits (compiled_tables c) (compiled_blocks c) f.next = subst (λ (h : Flight). EventFits (compiled_tables c) (compiled_blocks c) h.next) same can.2.ready.fits in
    few_operators at.class parts (few_classes c whole snapshot f.next fits at target) range

-- of those that go on, of which there are so many, this pick takes the one at this place
pub record IsPick (fs : List Flight) (count pick place : ℕ) : Type 0 where
  pub is_count : count ≡ going fs
  pub some : count ≡ 0 → ⊥
  pub is_place : place ≡ place_going (pick % count) fs

-- where memory runs out, the pick was made and told
pub gave_up : (m : Parts Transaction Told) (ts : List Transaction) (snapshot : State) (r : Result Bool AllocError) (flights : List Flight) (works : List Work) (old new : Outside) → IsErr r → PicksOne m ts old new → Turns m ts snapshot r flights works old new
gave_up m ts snapshot (Ok more) flights works old new error picks = absurd (true≢false (sym error))
gave_up m ts snapshot (Err e) flights works old new error picks = picks

-- where none goes on, none runs
pub none_runs : (c : Compiled) (parts : ℕ) (snapshot : State) (ts : List Transaction) (fs : List Flight) (works : List Work) → EachTransaction snapshot ts fs works → going fs ≡ 0 → running (turns_of c parts) ts ≡ 0
none_runs c parts snapshot ts fs works each none = as_many_run c parts snapshot ts fs works each ∙ none

module _ (c : Compiled) (whole : IsWhole c) (parts : ℕ) (snapshot : State) (fs : List Flight) (works : List Work) (count pick place : ℕ) (h : IsPick fs count pick place) where
  abbrev m : Parts Transaction Told
  m = turns_of c parts

  abbrev IsGoing : Transaction → Type 0
  IsGoing t = GoesOn (source (compiled_names c) (compiled_program c)) (compiled_tables c) (compiled_blocks c) t

  is_some : 0 < count
  is_some = by count h.some
    where
      by : (n : ℕ) → (n ≡ 0 → ⊥) → 0 < n
      by zero none = absurd (none refl)
      by (suc n) none = omega arith

  number_fits : pick % count < going fs
  number_fits = let less : pick % count < count = mod-lt pick is_some in let same : count ≡ going fs = h.is_count in omega (arith, less, same)

  abbrev ThePicked : List Transaction → Type 0
  ThePicked ts = Picked c parts snapshot (pick % count) ts fs works

  the_picked : (ts : List Transaction) → EachTransaction snapshot ts fs works → ThePicked ts
  the_picked ts each = picked c parts snapshot ts fs works (pick % count) each number_fits

  as_counted : (ts : List Transaction) → EachTransaction snapshot ts fs works → running m ts ≡ count
  as_counted ts each = as_many_run c parts snapshot ts fs works each ∙ sym h.is_count

  is_flight_at : (ts : List Transaction) (p : ThePicked ts) → slice_get fs place ≡ Some p.flight
  is_flight_at ts p = ap (slice_get fs) h.is_place ∙ p.is_flight

  -- the one that goes on, of transactions that fit
  goes : (ts : List Transaction) (p : ThePicked ts) → AllByRecursion (TransactionFits (compiled_tables c) (compiled_blocks c)) ts → IsGoing p.transaction
  goes ts p fit = goes_on c whole snapshot p.transaction (p.fit fit) (ap (λ (e : Event). is_done e.kind) p.is.next ∙ p.runs)

  pub can_turn : FlightsFit c snapshot fs works → (f : Flight) × (slice_get fs place ≡ Some f) × CanStep c snapshot f
  can_turn fit =
      let p : ThePicked fit.transactions = the_picked fit.transactions fit.are in
      (p.flight, is_flight_at fit.transactions p, can_step c whole snapshot p.transaction p.flight p.is.next (p.is.goes_on p.runs).0 (goes fit.transactions p fit.fit))

  pub has_work : FlightsFit c snapshot fs works → place < length works
  has_work fit =
      let p : ThePicked fit.transactions = the_picked fit.transactions fit.are in
      slice_get_within works place p.work (ap (slice_get works) h.is_place ∙ p.is_work)

  -- what was told is what is told of this pick
  told_so : (ts : List Transaction) → EachTransaction snapshot ts fs works → (old new : Option (List Told)) → ((f : Flight) → slice_get fs place ≡ Some f → AlsoTold old new (event_told parts f.next ∷ [])) → AlsoTold old new (told m pick ts)
  told_so ts each old new tells =
      let p : ThePicked ts = the_picked ts each in
      let notes : told m pick ts ≡ event_told parts p.flight.next ∷ [] = ap (λ n. noted m (pick % n) ts) (as_counted ts each) ∙ p.told_of_it ∙ ap (λ (e : Event). event_told parts e ∷ []) p.is.next in
      subst (AlsoTold old new) (sym notes) (tells p.flight (is_flight_at ts p))

  some_run : (ts : List Transaction) → EachTransaction snapshot ts fs works → running m ts ≡ 0 → ⊥
  some_run ts each none = h.some (sym (as_counted ts each) ∙ none)

  -- as many were asked for as run
  asked_so : (ts : List Transaction) → EachTransaction snapshot ts fs works → (old new : Option Choices) → Picks old count pick new → Picks old (running m ts) pick new
  asked_so ts each old new picks = subst (λ n. Picks old n pick new) (sym (as_counted ts each)) picks

  pub picks_one : (ts : List Transaction) → EachTransaction snapshot ts fs works → (old new : Outside) → Picks old.choices count pick new.choices → ((f : Flight) → slice_get fs place ≡ Some f → AlsoTold old.told new.told (event_told parts f.next ∷ [])) → PicksOne m ts old new
  picks_one ts each old new picks tells = record { pick = pick; runs = some_run ts each; picked = asked_so ts each old.choices new.choices picks; told_of_it = told_so ts each old.told new.told tells }

  -- Behind the turn

  module _ (fit : FlightsFit c snapshot fs works) (after : List Flight) (left : List Work) (gone : HasGoneOnAt c snapshot place fs after works left) where
    the_one : ThePicked fit.transactions
    the_one = the_picked fit.transactions fit.are

    same_flight : (ts : List Transaction) (p : ThePicked ts) → gone.old ≡ p.flight
    same_flight ts p = same_Some _ _ (sym gone.is_old ∙ is_flight_at ts p)

    same_work : (ts : List Transaction) (p : ThePicked ts) → gone.before ≡ p.work
    same_work ts p = same_Some _ _ (sym gone.is_before ∙ ap (slice_get works) h.is_place ∙ p.is_work)

    is_here : (ts : List Transaction) (p : ThePicked ts) → IsTransaction snapshot p.transaction gone.old gone.before
    is_here ts p = subst (λ (f : Flight). IsTransaction snapshot p.transaction f gone.before) (sym (same_flight ts p)) (subst (IsTransaction snapshot p.transaction p.flight) (sym (same_work ts p)) p.is)

    runs_here : is_done gone.old.next.kind ≡ false
    runs_here = ap (λ (f : Flight). is_done f.next.kind) (same_flight fit.transactions the_one) ∙ the_one.runs

    goes_here : (ts : List Transaction) (p : ThePicked ts) → IsGoing p.transaction
    goes_here ts p = subst IsGoing (is_one c whole snapshot the_one.transaction p.transaction gone.old gone.before (is_here fit.transactions the_one) (is_here ts p) runs_here) (goes fit.transactions the_one fit.fit)

    put_there : (us : List Transaction) → EachTransaction snapshot us (slice_set fs (place_going (pick % count) fs) gone.new) (slice_set works (place_going (pick % count) fs) gone.work) → EachTransaction snapshot us after left
    put_there us each =
        subst (λ fs. EachTransaction snapshot us fs left) (sym gone.is_new)
        (subst (EachTransaction snapshot us (slice_set fs place gone.new)) (sym gone.is_work) (subst (λ i. EachTransaction snapshot us (slice_set fs i gone.new) (slice_set works i gone.work)) (sym h.is_place) each))

    turned_so : (ts : List Transaction) → EachTransaction snapshot ts fs works → EachTransaction snapshot (turned m pick ts) after left
    turned_so ts each =
        let p : ThePicked ts = the_picked ts each in
        let moved = gone_on c whole snapshot p.transaction gone.old gone.new gone.before gone.work (is_here ts p) runs_here (goes_here ts p) gone.gone in
        subst (λ n. EachTransaction snapshot (stepped m (pick % n) ts) after left) (sym (as_counted ts each)) (put_there _ (p.put gone.new gone.work moved))

    -- one was picked, was told, and has taken a step
    pub took_turn : (ts : List Transaction) → EachTransaction snapshot ts fs works → (old new : Outside) → Picks old.choices count pick new.choices → ((f : Flight) → slice_get fs place ≡ Some f → AlsoTold old.told new.told (event_told parts f.next ∷ []))
        → Turns m ts snapshot (Ok true) after left old new
    took_turn ts each old new picks tells = (record { pick = pick; runs = some_run ts each; picked = asked_so ts each old.choices new.choices picks; told_of_it = told_so ts each old.told new.told tells }, turned_so ts each)

    pub still_fit : FlightsFit c snapshot after left
    still_fit = record {
      transactions = turned m pick fit.transactions;
      are = turned_so fit.transactions fit.are;
      fit = subst (λ n. AllByRecursion (TransactionFits (compiled_tables c) (compiled_blocks c)) (stepped m (pick % n) fit.transactions)) (sym (as_counted fit.transactions fit.are))
          (the_one.fit_again fit.fit (goes fit.transactions the_one fit.fit).kept);
    }

    pub weighs_less : weights after < weights fs
    weighs_less =
        let less : weight gone.new.next < weight gone.old.next = is_lighter c whole snapshot the_one.transaction gone.old gone.new gone.before gone.work (is_here fit.transactions the_one) runs_here (goes_here fit.transactions the_one) gone.gone in
        subst (λ gs. weights gs < weights fs) (sym gone.is_new) (lighter_list fs place gone.old gone.new gone.is_old less)

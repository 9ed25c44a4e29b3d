-- The transaction that is picked, among those in flight.
use Rattle.std.proofs.Common.{◌≡◌, ◌∙◌, ℕ, zero, suc, arith, ◌<◌, Bool, true, false, List, [], ◌∷◌, Some, refl, sym, ap, subst}
use Rattle.std.specs.Prelude.{if◌then◌else◌, slice_get, slice_set}
use Rattle.std.specs.List.{AllByRecursion}
use Rattle.program_meaning.specs.World.{State}
use Rattle.keyed_state.specs.declared.Work.{Work}
use Rattle.block_code.specs.declared.event.Event.{Event}
use Rattle.block_step.specs.declared.compiled.Compiled.{Compiled}
use Rattle.block_step.specs.CompiledViews.{compiled_tables, compiled_blocks}
use Rattle.interleaving.specs.Turns.{Parts, running, stepped, noted, here_or}
use Rattle.transaction_steps.specs.Transactions.{Transaction, is_done}
use Rattle.transaction_steps.specs.GoingOn.{TransactionFits}
use Rattle.operator_graph.specs.declared.flight.Flight.{Flight}
use Rattle.operator_graph.specs.Telling.{Told}
use Rattle.operator_graph.specs.Going.{going, place_going}
use Rattle.operator_graph.specs.Flights.{IsTransaction, EachTransaction, turns_of}
use Rattle.operator_graph.proofs.GoingLaws.{none_going, done_first, going_first, place_past, place_here, place_later}

-- Parts that take turns

module _ {T N : Type 0} (m : Parts T N) where
  running_past : (t : T) (ts : List T) → m.is_over t ≡ true → running m (t ∷ ts) ≡ running m ts
  unfolding running
  running_past t ts over = ap (λ b. if b then running m ts else suc (running m ts)) over

  running_more : (t : T) (ts : List T) → m.is_over t ≡ false → running m (t ∷ ts) ≡ suc (running m ts)
  unfolding running
  running_more t ts runs = ap (λ b. if b then running m ts else suc (running m ts)) runs

  running_none : running m [] ≡ 0
  unfolding running
  running_none = refl

  stepped_past : (k : ℕ) (t : T) (ts : List T) → m.is_over t ≡ true → stepped m k (t ∷ ts) ≡ t ∷ stepped m k ts
  unfolding stepped
  stepped_past k t ts over = ap (λ b. if b then t ∷ stepped m k ts else here_or m k (m.step t ∷ ts) (λ j. t ∷ stepped m j ts)) over

  stepped_here : (t : T) (ts : List T) → m.is_over t ≡ false → stepped m 0 (t ∷ ts) ≡ m.step t ∷ ts
  unfolding stepped
  stepped_here t ts runs = ap (λ b. if b then t ∷ stepped m 0 ts else m.step t ∷ ts) runs

  stepped_later : (k : ℕ) (t : T) (ts : List T) → m.is_over t ≡ false → stepped m (suc k) (t ∷ ts) ≡ t ∷ stepped m k ts
  unfolding stepped
  stepped_later k t ts runs = ap (λ b. if b then t ∷ stepped m (suc k) ts else t ∷ stepped m k ts) runs

  noted_past : (k : ℕ) (t : T) (ts : List T) → m.is_over t ≡ true → noted m k (t ∷ ts) ≡ noted m k ts
  unfolding noted
  noted_past k t ts over = ap (λ b. if b then noted m k ts else here_or m k (m.note t ∷ []) (λ j. noted m j ts)) over

  noted_here : (t : T) (ts : List T) → m.is_over t ≡ false → noted m 0 (t ∷ ts) ≡ m.note t ∷ []
  unfolding noted
  noted_here t ts runs = ap (λ b. if b then noted m 0 ts else m.note t ∷ []) runs

  noted_later : (k : ℕ) (t : T) (ts : List T) → m.is_over t ≡ false → noted m (suc k) (t ∷ ts) ≡ noted m k ts
  unfolding noted
  noted_later k t ts runs = ap (λ b. if b then noted m (suc k) ts else noted m k ts) runs

-- Transactions in flight

module _ (c : Compiled) (parts : ℕ) (snapshot : State) where
  abbrev m : Parts Transaction Told
  m = turns_of c parts

  abbrev Fits : Transaction → Type 0
  Fits = TransactionFits (compiled_tables c) (compiled_blocks c)

  over_too : (t : Transaction) (f : Flight) (work : Work) (b : Bool) → IsTransaction snapshot t f work → is_done f.next.kind ≡ b → is_done t.next.kind ≡ b
  over_too t f work b is h = ap (λ (e : Event). is_done e.kind) is.next ∙ h

  -- as many transactions run as flights go on
  pub as_many_run : (ts : List Transaction) (fs : List Flight) (works : List Work) → EachTransaction snapshot ts fs works → running m ts ≡ going fs
  as_many_run [] [] [] each = running_none m ∙ sym none_going
  as_many_run [] [] (work ∷ works) each = absurd each
  as_many_run [] (f ∷ fs) works each = absurd each
  as_many_run (t ∷ ts) [] works each = absurd each
  as_many_run (t ∷ ts) (f ∷ fs) [] each = absurd each
  as_many_run (t ∷ ts) (f ∷ fs) (work ∷ works) each = by (is_done f.next.kind) refl (as_many_run ts fs works each.1)
    where
      by : (b : Bool) → is_done f.next.kind ≡ b → running m ts ≡ going fs → running m (t ∷ ts) ≡ going (f ∷ fs)
      by true over rest = running_past m t ts (over_too t f work true each.0 over) ∙ rest ∙ sym (done_first f fs over)
      by false runs rest = running_more m t ts (over_too t f work false each.0 runs) ∙ ap suc rest ∙ sym (going_first f fs runs)

  -- one of those that go on, by its number; and what becomes of all where it takes a step
  pub record Picked (number : ℕ) (ts : List Transaction) (fs : List Flight) (works : List Work) : Type 0 where
    pub transaction : Transaction
    pub flight : Flight
    pub work : Work
    pub is_flight : slice_get fs (place_going number fs) ≡ Some flight
    pub is_work : slice_get works (place_going number fs) ≡ Some work
    pub is : IsTransaction snapshot transaction flight work
    pub runs : is_done flight.next.kind ≡ false
    pub told_of_it : noted m number ts ≡ m.note transaction ∷ []
    pub put : (new : Flight) (after : Work) → IsTransaction snapshot (m.step transaction) new after
        → EachTransaction snapshot (stepped m number ts) (slice_set fs (place_going number fs) new) (slice_set works (place_going number fs) after)
    pub fit : AllByRecursion Fits ts → Fits transaction
    pub fit_again : AllByRecursion Fits ts → Fits (m.step transaction) → AllByRecursion Fits (stepped m number ts)

  -- what stands behind one that isn't picked
  behind : (number k : ℕ) (t : Transaction) (f : Flight) (work : Work) (ts : List Transaction) (fs : List Flight) (works : List Work) → IsTransaction snapshot t f work
      → place_going number (f ∷ fs) ≡ suc (place_going k fs) → stepped m number (t ∷ ts) ≡ t ∷ stepped m k ts → noted m number (t ∷ ts) ≡ noted m k ts → Picked k ts fs works → Picked number (t ∷ ts) (f ∷ fs) (work ∷ works)
  behind number k t f work ts fs works is place steps notes p = record {
    transaction = p.transaction;
    flight = p.flight;
    work = p.work;
    is_flight = ap (slice_get (f ∷ fs)) place ∙ p.is_flight;
    is_work = ap (slice_get (work ∷ works)) place ∙ p.is_work;
    is = p.is;
    runs = p.runs;
    told_of_it = notes ∙ p.told_of_it;
    put = λ new after moved.
        let here : EachTransaction snapshot (t ∷ stepped m k ts) (slice_set (f ∷ fs) (suc (place_going k fs)) new) (slice_set (work ∷ works) (suc (place_going k fs)) after) = (is, p.put new after moved) in
        subst (λ us. EachTransaction snapshot us (slice_set (f ∷ fs) (place_going number (f ∷ fs)) new) (slice_set (work ∷ works) (place_going number (f ∷ fs)) after)) (sym steps)
        (subst (λ i. EachTransaction snapshot (t ∷ stepped m k ts) (slice_set (f ∷ fs) i new) (slice_set (work ∷ works) i after)) (sym place) here);
    fit = λ all. p.fit all.1;
    fit_again = λ all moved. subst (AllByRecursion Fits) (sym steps) (all.0, p.fit_again all.1 moved);
  }

  first : (t : Transaction) (f : Flight) (work : Work) (ts : List Transaction) (fs : List Flight) (works : List Work) → IsTransaction snapshot t f work → is_done f.next.kind ≡ false → EachTransaction snapshot ts fs works → Picked 0 (t ∷ ts) (f ∷ fs) (work ∷ works)
  first t f work ts fs works is runs each =
      let place : place_going 0 (f ∷ fs) ≡ 0 = place_here f fs runs in
      let steps : stepped m 0 (t ∷ ts) ≡ m.step t ∷ ts = stepped_here m t ts (over_too t f work false is runs) in
      record {
        transaction = t;
        flight = f;
        work = work;
        is_flight = ap (slice_get (f ∷ fs)) place;
        is_work = ap (slice_get (work ∷ works)) place;
        is = is;
        runs = runs;
        told_of_it = noted_here m t ts (over_too t f work false is runs);
        put = λ new after moved.
            let here : EachTransaction snapshot (m.step t ∷ ts) (slice_set (f ∷ fs) 0 new) (slice_set (work ∷ works) 0 after) = (moved, each) in
            subst (λ us. EachTransaction snapshot us (slice_set (f ∷ fs) (place_going 0 (f ∷ fs)) new) (slice_set (work ∷ works) (place_going 0 (f ∷ fs)) after)) (sym steps)
            (subst (λ i. EachTransaction snapshot (m.step t ∷ ts) (slice_set (f ∷ fs) i new) (slice_set (work ∷ works) i after)) (sym place) here);
        fit = λ all. all.0;
        fit_again = λ all moved. subst (AllByRecursion Fits) (sym steps) (moved, all.1);
      }

  pub picked : (ts : List Transaction) (fs : List Flight) (works : List Work) (number : ℕ) → EachTransaction snapshot ts fs works → number < going fs → Picked number ts fs works
  picked [] [] [] number each some = let none : going [] ≡ 0 = none_going in absurd (omega (arith, none, some))
  picked [] [] (work ∷ works) number each some = absurd each
  picked [] (f ∷ fs) works number each some = absurd each
  picked (t ∷ ts) [] works number each some = absurd each
  picked (t ∷ ts) (f ∷ fs) [] number each some = absurd each
  picked (t ∷ ts) (f ∷ fs) (work ∷ works) number each some = by (is_done f.next.kind) refl number some (λ k. picked ts fs works k each.1)
    where
      by : (b : Bool) → is_done f.next.kind ≡ b → (number : ℕ) → number < going (f ∷ fs) → ((k : ℕ) → k < going fs → Picked k ts fs works) → Picked number (t ∷ ts) (f ∷ fs) (work ∷ works)
      by true over number some rest =
          let left : going (f ∷ fs) ≡ going fs = done_first f fs over in
          let t_over : is_done t.next.kind ≡ true = over_too t f work true each.0 over in
          behind number number t f work ts fs works each.0 (place_past number f fs over) (stepped_past m number t ts t_over) (noted_past m number t ts t_over) (rest number (omega (arith, left, some)))
      by false runs zero some rest = first t f work ts fs works each.0 runs each.1
      by false runs (suc k) some rest =
          let left : going (f ∷ fs) ≡ suc (going fs) = going_first f fs runs in
          let t_runs : is_done t.next.kind ≡ false = over_too t f work false each.0 runs in
          behind (suc k) k t f work ts fs works each.0 (place_later k f fs runs) (stepped_later m k t ts t_runs) (noted_later m k t ts t_runs) (rest k (omega (arith, left, some)))

-- A serial run grows by one request.
use Rattle.std.proofs.Common.{◌≡◌, ℕ, Bool, true, false, true≢false, not, ◌&&◌, ◌||◌, List, [], ◌∷◌, ◌++◌, refl, sym, ap, ◌∙◌}
use Rattle.std.specs.Prelude.{bytes_eq}
use Rattle.std.specs.Bool.{Decides}
use Rattle.std.proofs.lemmas.List.{map-append}
use Rattle.std.proofs.lemmas.List.Folds.{list_any-append}
use Rattle.std.proofs.lemmas.Bool.Decides.{not_from_Decides}
use Rattle.std.proofs.lemmas.Slice.Eq.{bytes_eq-Decides}
use Rattle.sf_value.specs.declared.Act.{Act}
use Rattle.sf_value.specs.declared.Entry.{Entry}
use Rattle.program_meaning.specs.ClassTables.{Source}
use Rattle.program_meaning.specs.World.{State}
use Rattle.program_meaning.specs.RequestRun.{run}
use Rattle.program_meaning.specs.Serial.{Core, no_state, serial_outcomes, serial_state, acts_of, is_committed, ids_differ, IsSound}

module _ (src : Source) where
  outcomes-append : (xs ys : List Act) (s : State) → serial_outcomes src s (xs ++ ys) ≡ serial_outcomes src s xs ++ serial_outcomes src (serial_state src s xs) ys
  unfolding serial_outcomes serial_state
  outcomes-append [] ys s = refl
  outcomes-append (x ∷ xs) ys s = ap (λ l. (run src s x).outcome ∷ l) (outcomes-append xs ys (run src s x).state)

  state-append : (xs ys : List Act) (s : State) → serial_state src s (xs ++ ys) ≡ serial_state src (serial_state src s xs) ys
  unfolding serial_state
  state-append [] ys s = refl
  state-append (x ∷ xs) ys s = state-append xs ys (run src s x).state

  one_outcome : (s : State) (a : Act) → serial_outcomes src s (a ∷ []) ≡ (run src s a).outcome ∷ []
  unfolding serial_outcomes
  one_outcome s a = refl

  one_state : (s : State) (a : Act) → serial_state src s (a ∷ []) ≡ (run src s a).state
  unfolding serial_state
  one_state s a = refl

  no_outcome : (s : State) → serial_outcomes src s [] ≡ []
  unfolding serial_outcomes
  no_outcome s = refl

  state_kept : (s : State) → serial_state src s [] ≡ s
  unfolding serial_state
  state_kept s = refl

-- two texts that differ do so both ways
bytes_eq-sym : (xs ys : List ℕ) → bytes_eq xs ys ≡ false → bytes_eq ys xs ≡ false
bytes_eq-sym xs ys h = by (bytes_eq ys xs) (bytes_eq-Decides ys xs)
  where
    by : (b : Bool) → Decides b (ys ≡ xs) → b ≡ false
    by true same = absurd (not_from_Decides (bytes_eq xs ys) (bytes_eq-Decides xs ys) h (sym (same.0 refl)))
    by false other = refl

committed-append : (es fs : List Entry) (id : List ℕ) → is_committed (es ++ fs) id ≡ (is_committed es id || is_committed fs id)
committed-append es fs id = list_any-append (λ (e : Entry). bytes_eq id e.request.id) es fs

-- an entry differs from another, and joins those from which it differs too
still_new : (e x : Entry) (es : List Entry) → is_committed es e.request.id ≡ false → bytes_eq x.request.id e.request.id ≡ false → is_committed (es ++ x ∷ []) e.request.id ≡ false
still_new e x es h k = rw (committed-append es (x ∷ []) e.request.id, h, bytes_eq-sym x.request.id e.request.id k) refl

-- a new id differs from those that there are
ids-append : (es : List Entry) (x : Entry) → ids_differ es ≡ true → is_committed es x.request.id ≡ false → ids_differ (es ++ x ∷ []) ≡ true
ids-append [] x d h = refl
ids-append (e ∷ es) x d h = by (is_committed es e.request.id) (bytes_eq x.request.id e.request.id) refl refl d h (ids-append es x)
  where
    by : (a b : Bool) → is_committed es e.request.id ≡ a → bytes_eq x.request.id e.request.id ≡ b → (not a && ids_differ es) ≡ true → (b || is_committed es x.request.id) ≡ false
        → (ids_differ es ≡ true → is_committed es x.request.id ≡ false → ids_differ (es ++ x ∷ []) ≡ true)
        → (not (is_committed (es ++ x ∷ []) e.request.id) && ids_differ (es ++ x ∷ [])) ≡ true
    by a true p q k l rest = absurd (true≢false l)
    by true false p q k l rest = absurd (true≢false (sym k))
    by false false p q k l rest = rw (still_new e x es p q, rest k l) refl

module _ (src : Source) where
  -- the empty history is sound
  pub IsSound-empty : IsSound src (record { history = []; state = no_state })
  IsSound-empty = record { outcomes = sym (no_outcome src no_state); state = sym (state_kept src no_state); ids = refl }

  -- a sound history stays sound with one request more, whose id is new
  pub IsSound-more : (core : Core) (x : Entry) → IsSound src core → is_committed core.history x.request.id ≡ false → x.outcome ≡ (run src core.state x.request.act).outcome
      → IsSound src (record { history = core.history ++ x ∷ []; state = (run src core.state x.request.act).state })
  IsSound-more core x s h e = record {
    outcomes =
        map-append (λ (e : Entry). e.outcome) core.history (x ∷ [])
        ∙ (λ i. s.outcomes i ++ e i ∷ [])
        ∙ ap (λ t. serial_outcomes src no_state (acts_of core.history) ++ (run src t x.request.act).outcome ∷ []) s.state
        ∙ ap (λ l. serial_outcomes src no_state (acts_of core.history) ++ l) (sym (one_outcome src (serial_state src no_state (acts_of core.history)) x.request.act))
        ∙ sym (outcomes-append src (acts_of core.history) (x.request.act ∷ []) no_state)
        ∙ ap (serial_outcomes src no_state) (sym (map-append (λ (e : Entry). e.request.act) core.history (x ∷ [])));
    state =
        ap (λ t. (run src t x.request.act).state) s.state
        ∙ sym (one_state src (serial_state src no_state (acts_of core.history)) x.request.act)
        ∙ sym (state-append src (acts_of core.history) (x.request.act ∷ []) no_state)
        ∙ ap (serial_state src no_state) (sym (map-append (λ (e : Entry). e.request.act) core.history (x ∷ [])));
    ids = ids-append core.history x s.ids h;
  }

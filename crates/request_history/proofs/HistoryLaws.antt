-- The table of the history, seen as its entries.
use Rattle.std.proofs.Common.{◌≡◌, ℕ, zero, suc, ◌+◌, Bool, true, false, true≢false, cond, not, List, [], ◌∷◌, ◌++◌, Option, None, Some, ◌↔◌, refl, sym, ap, ◌∙◌, arith}
use Rattle.std.specs.Prelude.{bytes_eq, position, slice_get, is_some, IsTrue}
use Rattle.std.specs.Map.{keys_of, lookup}
use Rattle.std.specs.Option.{option_map}
use Rattle.std.proofs.lemmas.Option.{same_Some, none-some}
use Rattle.indexmap.specs.IndexMap.{insert_entry}
use Rattle.sf_value.specs.declared.text.Text.{Text}
use Rattle.program_meaning.proofs.Places.{position_of_more}
use Rattle.program_meaning.proofs.TableFacts.{map_found}
use Rattle.request_history.specs.declared.history.Committed.{Committed}
use Rattle.request_history.specs.HistoryView.{kept_entry, entries_of}
use Rattle.request_history.specs.Repeats.{placed, kept_from, kept_of, entry_at, kept_in}

-- the entry whose id is found at an index of the table
found_from : (first : ℕ) (es : List (Text × Committed)) (id : List ℕ) (i : ℕ) (e : Text × Committed) → position (bytes_eq id) (keys_of es) ≡ Some i → slice_get es i ≡ Some e
    → kept_from first (entries_of es) id ≡ Some (record { place = first + i; entry = kept_entry e })
found_from first [] id i e at is = absurd (none-some e is)
found_from first (x ∷ es) id i e at is = by (bytes_eq id x.0) (sym (position_of_more (bytes_eq id) x.0 (keys_of es)) ∙ at) (found_from (first + 1) es id)
  where
    by : (b : Bool) → cond b (Some 0) (option_map suc (position (bytes_eq id) (keys_of es))) ≡ Some i
        → ((k : ℕ) (f : Text × Committed) → position (bytes_eq id) (keys_of es) ≡ Some k → slice_get es k ≡ Some f → kept_from (first + 1) (entries_of es) id ≡ Some (record { place = first + 1 + k; entry = kept_entry f }))
        → cond b (Some (record { place = first; entry = kept_entry x })) (kept_from (first + 1) (entries_of es) id) ≡ Some (record { place = first + i; entry = kept_entry e })
    by true at later =
        let here : 0 ≡ i = same_Some 0 i at in
        let place : first ≡ first + i = omega (arith, here) in
        let same : x ≡ e = same_Some x e (ap (slice_get (x ∷ es)) here ∙ is) in
        λ j. Some (record { place = place j; entry = kept_entry (same j) })
    by false at later =
        let k = map_found suc (position (bytes_eq id) (keys_of es)) i at in
        let next : suc k.0 ≡ i = k.2 in
        let place : first + 1 + k.0 ≡ first + i = omega (arith, next) in
        later k.0 e k.1 (ap (slice_get (x ∷ es)) next ∙ is) ∙ ap (λ p. Some (record { place = p; entry = kept_entry e })) place

pub found_at : (es : List (Text × Committed)) (id : List ℕ) (i : ℕ) (e : Text × Committed) → position (bytes_eq id) (keys_of es) ≡ Some i → slice_get es i ≡ Some e
    → kept_of (entries_of es) id ≡ Some (record { place = i + 1; entry = kept_entry e })
unfolding kept_of
found_at es id i e at is = let place : 1 + i ≡ i + 1 = omega arith in found_from 1 es id i e at is ∙ ap (λ p. Some (record { place = p; entry = kept_entry e })) place

-- and where there is none
none_from : (first : ℕ) (es : List (Text × Committed)) (id : List ℕ) → position (bytes_eq id) (keys_of es) ≡ None → kept_from first (entries_of es) id ≡ None
none_from first [] id none = refl
none_from first (x ∷ es) id none = by (bytes_eq id x.0) (sym (position_of_more (bytes_eq id) x.0 (keys_of es)) ∙ none) (none_from (first + 1) es id)
  where
    no_more : (o : Option ℕ) → option_map suc o ≡ None → o ≡ None
    no_more None h = refl
    no_more (Some n) h = absurd (none-some (suc n) (sym h))

    by : (b : Bool) → cond b (Some 0) (option_map suc (position (bytes_eq id) (keys_of es))) ≡ None → (position (bytes_eq id) (keys_of es) ≡ None → kept_from (first + 1) (entries_of es) id ≡ None)
        → cond b (Some (record { place = first; entry = kept_entry x })) (kept_from (first + 1) (entries_of es) id) ≡ None
    by true none later = absurd (none-some 0 (sym none))
    by false none later = later (no_more _ none)

pub none_at : (es : List (Text × Committed)) (id : List ℕ) → position (bytes_eq id) (keys_of es) ≡ None → kept_of (entries_of es) id ≡ None
unfolding kept_of
none_at es id none = none_from 1 es id none

-- an id has no entry exactly where the table has nothing of it
there_from : (first : ℕ) (es : List (Text × Committed)) (id : List ℕ) → is_some (kept_from first (entries_of es) id) ≡ is_some (lookup (bytes_eq id) es)
there_from first [] id = refl
there_from first (e ∷ es) id = by (bytes_eq id e.0) (there_from (first + 1) es id)
  where
    by : (b : Bool) → is_some (kept_from (first + 1) (entries_of es) id) ≡ is_some (lookup (bytes_eq id) es)
        → is_some (cond b (Some (record { place = first; entry = kept_entry e })) (kept_from (first + 1) (entries_of es) id)) ≡ is_some (cond b (Some e.1) (lookup (bytes_eq id) es))
    by true later = refl
    by false later = later

none_is : {A : Type 0} (o : Option A) (b : Bool) → is_some o ≡ not b → IsTrue b ↔ (o ≡ None)
none_is None true tells = (λ _. refl, λ _. refl)
none_is None false tells = absurd (true≢false (sym tells))
none_is (Some x) true tells = absurd (true≢false tells)
none_is (Some x) false tells = (λ h. absurd (true≢false (sym h)), λ h. absurd (none-some x (sym h)))

pub none_kept : (es : List (Text × Committed)) (id : List ℕ) (before : Option Committed) (none : Bool) → before ≡ lookup (bytes_eq id) es → is_some before ≡ not none → IsTrue none ↔ (kept_of (entries_of es) id ≡ None)
unfolding kept_of
none_kept es id before none is tells = none_is (kept_from 1 (entries_of es) id) none (there_from 1 es id ∙ ap is_some (sym is) ∙ tells)

-- a new id joins at the end
new_from : (first : ℕ) (es : List (Text × Committed)) (id : Text) (c : Committed) → kept_from first (entries_of es) id ≡ None → entries_of (insert_entry bytes_eq es id c) ≡ entries_of es ++ kept_entry (id, c) ∷ []
new_from first [] id c h = refl
new_from first (e ∷ es) id c h = by (bytes_eq id e.0) h (new_from (first + 1) es id c)
  where
    by : (b : Bool) → cond b (Some (record { place = first; entry = kept_entry e })) (kept_from (first + 1) (entries_of es) id) ≡ None
        → (kept_from (first + 1) (entries_of es) id ≡ None → entries_of (insert_entry bytes_eq es id c) ≡ entries_of es ++ kept_entry (id, c) ∷ [])
        → entries_of (cond b ((e.0, c) ∷ es) (e ∷ insert_entry bytes_eq es id c)) ≡ kept_entry e ∷ (entries_of es ++ kept_entry (id, c) ∷ [])
    by true h later = absurd (none-some _ (sym h))
    by false h later = ap (λ l. kept_entry e ∷ l) (later h)

pub insert_new : (es : List (Text × Committed)) (id : Text) (c : Committed) → kept_of (entries_of es) id ≡ None → entries_of (insert_entry bytes_eq es id c) ≡ entries_of es ++ kept_entry (id, c) ∷ []
unfolding kept_of
insert_new es id c h = new_from 1 es id c h

-- what stands at an index of the table stands at the place that is one more
entry_from : (place : ℕ) (es : List (Text × Committed)) (i : ℕ) → option_map (placed place) (slice_get (entries_of es) i) ≡ option_map (λ e. placed place (kept_entry e)) (slice_get es i)
entry_from place [] i = refl
entry_from place (e ∷ es) zero = refl
entry_from place (e ∷ es) (suc i) = entry_from place es i

pub entry_there : (es : List (Text × Committed)) (i place : ℕ) (e : Option (Text × Committed)) → place ≡ suc i → e ≡ slice_get es i → kept_in (entries_of es) place ≡ option_map (λ e. placed place (kept_entry e)) e
entry_there es i place e next is = ap (λ p. option_map (placed place) (entry_at (entries_of es) p)) next ∙ entry_from place es i ∙ ap (option_map (λ e. placed place (kept_entry e))) (sym is)

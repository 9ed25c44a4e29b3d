-- The entries of a history, counted one after another.
use Rattle.std.proofs.Common.{◌≡◌, ℕ, zero, suc, arith, ◌+◌, ◌<◌, ◌≤◌, Option, None, Some, List, [], ◌∷◌, length, take, refl, sym, ap, ◌∙◌, subst, add-one}
use Rattle.std.specs.List.{slice_get}
use Rattle.std.specs.Option.{option_map}
use Rattle.std.proofs.lemmas.Option.{none-some}
use Rattle.sf_value.specs.declared.Entry.{Entry}
use Rattle.sf_value.specs.declared.Outcome.{Outcome}
use Rattle.sf_value.specs.declared.Outcome.TheVariants as outcome
use Rattle.program_meaning.specs.Serial.{outcomes_of}
use Rattle.request_history.specs.declared.history.Found.{Found}
use Rattle.request_history.specs.HistoryView.{kept_at}
use Rattle.request_history.specs.Repeats.{Kept, placed, kept_in}
use Rattle.batch_session.specs.Vocabulary.{failure_count}

-- the entry at a place counted from 0, and none behind the last

none_at : (history : List Entry) (before : ℕ) → slice_get history before ≡ None → length history ≤ before
none_at [] before none = omega arith
none_at (e ∷ es) zero none = absurd (none-some e (sym none))
none_at (e ∷ es) (suc before) none = omega (arith, none_at es before none)

pub record IsNext (history : List Entry) (before next : ℕ) (o : Outcome) : Type 0 where
  pub within : before < length history
  pub counted : failure_count (outcomes_of (take next history)) ≡ failure_count (outcomes_of (take before history)) + failure_count (o ∷ [])

counts_first : (o : Outcome) (os : List Outcome) → failure_count (o ∷ os) ≡ failure_count os + failure_count (o ∷ [])
counts_first (outcome.Value value) os = omega arith
counts_first (outcome.Failed failure) os = omega arith

some_at : (history : List Entry) (before : ℕ) (e : Entry) → slice_get history before ≡ Some e → IsNext history before (suc before) e.outcome
some_at [] before e is = absurd (none-some e is)
some_at (x ∷ xs) zero e is =
    let same : x ≡ e = cc in
    record { within = omega arith; counted = ap (λ (y : Entry). failure_count (y.outcome ∷ [])) same ∙ sym (zero_left (failure_count (e.outcome ∷ []))) }
  where
    zero_left : (n : ℕ) → 0 + n ≡ n
    zero_left n = omega arith
some_at (x ∷ xs) (suc before) e is =
    let more = some_at xs before e is in
    record {
      within = omega (arith, more.within);
      counted =
          omega (arith, more.counted, counts_first x.outcome (outcomes_of (take (suc before) xs)), counts_first x.outcome (outcomes_of (take before xs)));
    }

found_in : (o : Option Entry) (place : ℕ) (found : Found) → Some (kept_at found) ≡ option_map (placed place) o → o ≡ Some (kept_at found).entry
found_in None place found is = absurd (none-some (kept_at found) (sym is))
found_in (Some e) place found is = let same : kept_at found ≡ placed place e = cc in ap (λ (k : Kept). Some k.entry) (sym same)

missing_in : (o : Option Entry) (place : ℕ) → None ≡ option_map (placed place) o → o ≡ None
missing_in None place is = refl
missing_in (Some e) place is = absurd (none-some (placed place e) is)

pub found_next : (history : List Entry) (before : ℕ) (found : Found) → Some (kept_at found) ≡ kept_in history (before + 1)
    → IsNext history before (before + 1) (kept_at found).entry.outcome
found_next history before found is =
    let at : Some (kept_at found) ≡ kept_in history (suc before) = is ∙ ap (kept_in history) (add-one before) in
    subst (λ next. IsNext history before next (kept_at found).entry.outcome) (sym (add-one before))
    (some_at history before (kept_at found).entry (found_in (slice_get history before) (suc before) found at))

pub missing_next : (history : List Entry) (before : ℕ) → None ≡ kept_in history (before + 1) → length history ≤ before
missing_next history before is =
    let at : ◌≡◌ {A = Option Kept} None (kept_in history (suc before)) = is ∙ ap (kept_in history) (add-one before) in
    none_at history before (missing_in (slice_get history before) (suc before) at)

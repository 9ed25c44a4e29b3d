-- The entries of a history, found one after another.
use Rattle.std.proofs.Common.{◌≡◌, ℕ, ◌+◌, ◌≤◌, ◌<◌, Option, Some, None, List, [], ◌∷◌, ◌++◌, length, take, drop, get_or, add-one, arith, refl, sym, ap, ◌∙◌}
use Rattle.std.specs.List.{cons_option}
use Rattle.std.specs.Option.{option_map}
use Rattle.std.proofs.Math.ListN.{drop_of_length-le}
use Rattle.std.proofs.lemmas.List.{take_more, take_all, length-take, drop-append-le}
use Rattle.std.proofs.lemmas.Option.{slice_get-get_or}
use Rattle.sf_value.specs.declared.Entry.{Entry}
use Rattle.request_history.specs.declared.history.Found.{Found}
use Rattle.request_history.specs.HistoryView.{kept_at}
use Rattle.request_history.specs.Repeats.{Kept, placed, entry_at, kept_in}

entry_found : (found : Option Found) → option_map (λ (f : Found). (kept_at f).entry) found ≡ option_map (λ (k : Kept). k.entry) (option_map kept_at found)
entry_found None = refl
entry_found (Some f) = refl

entry_placed : (place : ℕ) (o : Option Entry) → option_map (λ (k : Kept). k.entry) (option_map (placed place) o) ≡ o
entry_placed place None = refl
entry_placed place (Some e) = refl

-- the next entry comes behind those before it
pub one_found : (es : List Entry) (i : ℕ) (found : Option Found) → i < length es → option_map kept_at found ≡ kept_in es (i + 1) → take (i + 1) es ≡ take i es ++ cons_option (option_map (λ f. (kept_at f).entry) found) []
one_found [] i found within is = absurd (omega (arith, within))
one_found (e ∷ es) i found within is =
    let there : option_map (λ (f : Found). (kept_at f).entry) found ≡ Some (get_or (e ∷ es) i e) =
    entry_found found ∙ ap (option_map (λ (k : Kept). k.entry)) is ∙ entry_placed (i + 1) (entry_at (e ∷ es) (i + 1)) ∙ ap (entry_at (e ∷ es)) (add-one i) ∙ slice_get-get_or (e ∷ es) i e within in
    take_more (e ∷ es) i e within ∙ ap (λ o. take i (e ∷ es) ++ cons_option o []) (sym there)

-- ---- behind the first so many

module _ (es : List Entry) (kept : ℕ) where
  -- none before these
  pub behind_none : [] ≡ drop kept (take kept es)
  behind_none = sym (drop_of_length-le (take kept es) (omega (arith, length-take kept es)))

  -- the next entry comes behind those before it
  pub behind_found : (i : ℕ) (found : Option Found) → kept ≤ i → i < length es → option_map kept_at found ≡ kept_in es (i + 1)
      → drop kept (take (i + 1) es) ≡ drop kept (take i es) ++ cons_option (option_map (λ f. (kept_at f).entry) found) []
  behind_found i found begun within is =
      ap (drop kept) (one_found es i found within is) ∙ drop-append-le kept (take i es) (cons_option (option_map (λ f. (kept_at f).entry) found) []) (omega (arith, length-take i es, begun, within))

  -- until all were
  pub behind_all : (i : ℕ) → length es ≤ i → drop kept (take i es) ≡ drop kept es
  behind_all i all = ap (drop kept) (take_all i es all)

-- Entries of a history behind the first so many, one after another.
use Rattle.std.proofs.Common.{◌≡◌, ℕ, ◌+◌, ◌≤◌, ◌<◌, List, Option, [], ◌∷◌, ◌++◌, length, take, drop, sym, ap, subst, arith, ◌∙◌, take-append-drop}
use Rattle.std.specs.List.{cons_option, flat_map, AllByRecursion}
use Rattle.std.specs.Option.{option_map}
use Rattle.std.proofs.lemmas.Grind.{flat_map-append}
use Rattle.std.proofs.lemmas.List.{length-take, drop-append-le}
use Rattle.sf_value.specs.declared.Entry.{Entry}
use Rattle.sf_bytes.specs.ByteForms.{entry_bytes}
use Rattle.kept_parts.proofs.ListLaws.{behind_found}
use Rattle.request_history.specs.declared.history.Found.{Found}
use Rattle.request_history.specs.HistoryView.{kept_at}
use Rattle.request_history.specs.Repeats.{kept_in}

-- the entry that was found, or none
abbrev pub entry_of : Option Found → List Entry
entry_of found = cons_option (option_map (λ f. (kept_at f).entry) found) []

all_before : {A : Type 0} (P : A → Type 0) (xs ys : List A) → AllByRecursion P (xs ++ ys) → AllByRecursion P xs
all_before P [] ys all = tt
all_before P (x ∷ xs) ys all = (all.0, all_before P xs ys all.1)

all_behind : {A : Type 0} (P : A → Type 0) (xs ys : List A) → AllByRecursion P (xs ++ ys) → AllByRecursion P ys
all_behind P [] ys all = all
all_behind P (x ∷ xs) ys all = all_behind P xs ys all.1

all_both : {A : Type 0} (P : A → Type 0) (xs ys : List A) → AllByRecursion P xs → AllByRecursion P ys → AllByRecursion P (xs ++ ys)
all_both P [] ys some more = more
all_both P (x ∷ xs) ys some more = (some.0, all_both P xs ys some.1 more)

module _ (es : List Entry) (kept i : ℕ) (found : Option Found) (begun : kept ≤ i) (within : i < length es) (is : option_map kept_at found ≡ kept_in es (i + 1)) where
  one_more : drop kept (take (i + 1) es) ≡ drop kept (take i es) ++ entry_of found
  one_more = behind_found es kept i found begun within is

  whole : drop kept es ≡ drop kept (take (i + 1) es) ++ drop (i + 1) es
  whole = ap (drop kept) (sym (take-append-drop (i + 1) es)) ∙ drop-append-le kept (take (i + 1) es) (drop (i + 1) es) (omega (arith, length-take (i + 1) es, begun, within))

  -- what holds of each behind the first so many holds of this one
  pub found_holds : (P : Entry → Type 0) → AllByRecursion P (drop kept es) → AllByRecursion P (entry_of found)
  found_holds P all =
      all_behind P (drop kept (take i es)) (entry_of found)
      (subst (AllByRecursion P) one_more (all_before P (drop kept (take (i + 1) es)) (drop (i + 1) es) (subst (AllByRecursion P) whole all)))

  -- what holds of each before it, and of this one
  pub found_joins : (P : Entry → Type 0) → AllByRecursion P (drop kept (take i es)) → AllByRecursion P (entry_of found) → AllByRecursion P (drop kept (take (i + 1) es))
  found_joins P some more = subst (AllByRecursion P) (sym one_more) (all_both P (drop kept (take i es)) (entry_of found) some more)

  -- its bytes come behind theirs
  pub found_bytes : flat_map entry_bytes (drop kept (take (i + 1) es)) ≡ flat_map entry_bytes (drop kept (take i es)) ++ flat_map entry_bytes (entry_of found)
  found_bytes = ap (flat_map entry_bytes) one_more ∙ flat_map-append entry_bytes (drop kept (take i es)) (entry_of found)

-- Ids that differ, along lists of entries and of requests.
use Rattle.std.proofs.Common.{◌≡◌, ℕ, ◌+◌, ◌<◌, Bool, true, false, cond, ◌||◌, Some, None, List, [], ◌∷◌, ◌++◌, length, take, drop, get_or, map, refl, sym, ap, ◌∙◌, subst, true≢false, append_assoc}
use Rattle.std.specs.Prelude.{bytes_eq, is_some}
use Rattle.std.specs.List.{list_any, IsDistinct, AllByRecursion}
use Rattle.std.proofs.lemmas.Bool.{or_from}
use Rattle.std.proofs.lemmas.Cmp.{nat_list_eq_equiv}
use Rattle.std.proofs.lemmas.List.{map-append, drop_more, take-append-drop}
use Rattle.std.proofs.lemmas.Map.Keys.{IsDistinct-push}
use Rattle.sf_value.specs.declared.Entry.{Entry}
use Rattle.request_history.specs.Repeats.{placed, kept_from, kept_of}
use Rattle.kept_parts.specs.Ids.{entry_ids}
use Rattle.kept_parts.proofs.EachLaws.{one_more}
use Rattle.kept_parts.proofs.RecordLaws.{none_of}

-- an id has an entry exactly where it is among those of the entries
found_from : (first : ℕ) (es : List Entry) (id : List ℕ) → is_some (kept_from first es id) ≡ list_any (bytes_eq id) (entry_ids es)
found_from first [] id = refl
found_from first (e ∷ es) id = by (bytes_eq id e.request.id) (found_from (first + 1) es id)
  where
    by : (b : Bool) → is_some (kept_from (first + 1) es id) ≡ list_any (bytes_eq id) (entry_ids es) → is_some (cond b (Some (placed first e)) (kept_from (first + 1) es id)) ≡ (b || list_any (bytes_eq id) (entry_ids es))
    by true later = refl
    by false later = later

pub found : (es : List Entry) (id : List ℕ) → is_some (kept_of es id) ≡ list_any (bytes_eq id) (entry_ids es)
unfolding kept_of
found es id = found_from 1 es id

-- where all differ, none stands among those before it
among : (x : List ℕ) (xs : List (List ℕ)) (y : List ℕ) (more : List (List ℕ)) → AllByRecursion (λ z. bytes_eq x z ≡ false) (xs ++ y ∷ more) → bytes_eq x y ≡ false
among x [] y more all = all.0
among x (z ∷ xs) y more all = among x xs y more all.1

apart : (xs : List (List ℕ)) (y : List ℕ) (more : List (List ℕ)) → IsDistinct bytes_eq (xs ++ y ∷ more) → list_any (bytes_eq y) xs ≡ false
unfolding IsDistinct
apart [] y more d = refl
apart (x ∷ xs) y more d = or_from (bytes_eq y x) (list_any (bytes_eq y) xs) (nat_list_eq_equiv.symm y x ∙ among x xs y more d.0) (apart xs y more d.1)

-- the part of a list of ids that differ differs too
pub first_part : (xs ys : List (List ℕ)) → IsDistinct bytes_eq (xs ++ ys) → IsDistinct bytes_eq xs
unfolding IsDistinct
first_part [] ys d = tt
first_part (x ∷ xs) ys d = (part xs d.0, first_part xs ys d.1)
  where
    part : (zs : List (List ℕ)) → AllByRecursion (λ z. bytes_eq x z ≡ false) (zs ++ ys) → AllByRecursion (λ z. bytes_eq x z ≡ false) zs
    part [] all = tt
    part (z ∷ zs) all = (all.0, part zs all.1)

-- an entry with a new id comes behind those whose ids differ
pub differ_behind : (es : List Entry) (e : Entry) → IsDistinct bytes_eq (entry_ids es) → kept_of es e.request.id ≡ None → IsDistinct bytes_eq (entry_ids (es ++ e ∷ []))
differ_behind es e d none =
    subst (IsDistinct bytes_eq) (sym (map-append (λ (f : Entry). f.request.id) es (e ∷ [])))
    (IsDistinct-push nat_list_eq_equiv (entry_ids es) e.request.id d (sym (found es e.request.id) ∙ ap is_some none))

-- where all differ, the id of an entry is new to those before it
pub new_behind : (es : List Entry) (e : Entry) (more : List Entry) → IsDistinct bytes_eq (entry_ids (es ++ e ∷ more)) → kept_of es e.request.id ≡ None
new_behind es e more d =
    none_of (kept_of es e.request.id)
    (found es e.request.id ∙ apart (entry_ids es) e.request.id (entry_ids more) (subst (IsDistinct bytes_eq) (map-append (λ (f : Entry). f.request.id) es (e ∷ more)) d))

module _ {A : Type 0} (id : A → List ℕ) (before : List (List ℕ)) (xs : List A) (i : ℕ) (x : A) (within : i < length xs) (is : x ≡ get_or xs i x) where
  ids : List A → List (List ℕ)
  ids ys = before ++ map id ys

  grown : before ++ map id (take (i + 1) xs) ≡ (before ++ map id (take i xs)) ++ id x ∷ []
  grown = ap (λ ys. before ++ map id ys) (one_more xs i x within is) ∙ ap (λ l. before ++ l) (map-append id (take i xs) (x ∷ [])) ∙ sym (append_assoc before (map id (take i xs)) (id x ∷ []))

  -- the next id is new
  pub next_new : IsDistinct bytes_eq (before ++ map id (take i xs)) → list_any (bytes_eq (id x)) (before ++ map id (take i xs)) ≡ false → IsDistinct bytes_eq (before ++ map id (take (i + 1) xs))
  next_new d absent = subst (IsDistinct bytes_eq) (sym grown) (IsDistinct-push nat_list_eq_equiv (before ++ map id (take i xs)) (id x) d absent)

  whole : before ++ map id xs ≡ (before ++ map id (take i xs)) ++ id x ∷ map id (drop (i + 1) xs)
  whole =
      ap (λ ys. before ++ map id ys) (sym (take-append-drop i xs) ∙ ap (λ ys. take i xs ++ ys) (drop_more xs i x within ∙ ap (λ y. y ∷ drop (i + 1) xs) (sym is)))
      ∙ ap (λ l. before ++ l) (map-append id (take i xs) (x ∷ drop (i + 1) xs))
      ∙ sym (append_assoc before (map id (take i xs)) (id x ∷ map id (drop (i + 1) xs)))

  -- the next id is taken
  pub next_taken : list_any (bytes_eq (id x)) (before ++ map id (take i xs)) ≡ true → IsDistinct bytes_eq (before ++ map id xs) → ⊥
  next_taken taken d = true≢false (sym taken ∙ apart (before ++ map id (take i xs)) (id x) (map id (drop (i + 1) xs)) (subst (IsDistinct bytes_eq) whole d))

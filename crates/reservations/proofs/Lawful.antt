-- What a lawful choice commits are places of the batch, none of them twice.
use Rattle.std.proofs.Common.{◌≡◌, ◌∙◌, ℕ, zero, suc, ◌+◌, ◌<◌, ◌≤◌, ◌^◌, Bool, true, false, true≢false, not, ◌&&◌, ◌||◌, nat_eq, nat_lt, List, [], ◌∷◌, ◌++◌, length, refl, sym, ap, arith}
use Rattle.std.specs.List.{list_any, range_with_len, AllByRecursion, IsDistinct}
use Rattle.std.proofs.lemmas.Bool.{and_from, or_parts, not_from_false, lt-ltb, ne_eqb}
use Rattle.std.proofs.lemmas.Cmp.{nat_eq_equiv}
use Rattle.std.proofs.lemmas.List.{length-map}
use Rattle.std.proofs.lemmas.List.Folds.{list_any-append}
use Rattle.std.proofs.lemmas.List.Sorted.{list_any-IsPermutation}
use Rattle.std.proofs.lemmas.Map.Keys.{IsDistinct-IsPermutation}
use Rattle.serial_order.specs.ConflictFree.{Access}
use Rattle.keyed_state.specs.declared.Work.{Work}
use Rattle.keyed_state.specs.Works.{are_places}
use Rattle.reservations.specs.Accesses.{access_of_work, accesses_of}
use Rattle.reservations.specs.CommitRules.{Chosen, IsLawful, places}

-- no place of the list is past the end
abbrev past : ℕ → ℕ → Bool
past n place = not (nat_lt place n)

none_past : (from n end : ℕ) → from + n ≤ end → list_any (past end) (range_with_len from n) ≡ false
none_past from zero end low = refl
none_past from (suc n) end low = ap (λ b. not b || list_any (past end) (range_with_len (from + 1) n)) (lt-ltb from end (omega arith)) ∙ none_past (from + 1) n end (omega arith)

apart_from : (place from n : ℕ) → place < from → AllByRecursion (λ y. nat_eq place y ≡ false) (range_with_len from n)
apart_from place from zero less = tt
apart_from place from (suc n) less = (ne_eqb place from (λ same. omega arith), apart_from place (from + 1) n (omega arith))

places_differ : (from n : ℕ) → IsDistinct nat_eq (range_with_len from n)
unfolding IsDistinct
places_differ from zero = tt
places_differ from (suc n) = (apart_from from (from + 1) n (omega arith), places_differ (from + 1) n)

within : (n place : ℕ) → past n place ≡ false → nat_lt place n ≡ true
within n place h = by (nat_lt place n) h
  where
    by : (b : Bool) → not b ≡ false → b ≡ true
    by true k = refl
    by false k = absurd (true≢false k)

front_apart : (place : ℕ) (xs ys : List ℕ) → AllByRecursion (λ y. nat_eq place y ≡ false) (xs ++ ys) → list_any (nat_eq place) xs ≡ false
front_apart place [] ys apart = refl
front_apart place (x ∷ xs) ys apart = ap (λ b. b || list_any (nat_eq place) xs) apart.0 ∙ front_apart place xs ys apart.1

-- the front of a list of places that differ
places_from : (n : ℕ) (xs ys : List ℕ) → IsDistinct nat_eq (xs ++ ys) → list_any (past n) xs ≡ false → are_places n xs ≡ true
unfolding IsDistinct
places_from n [] ys distinct none = refl
places_from n (x ∷ xs) ys distinct none =
    let parts = or_parts (past n x) (list_any (past n) xs) none in
    and_from (nat_lt x n && not (list_any (nat_eq x) xs)) (are_places n xs)
    (and_from (nat_lt x n) (not (list_any (nat_eq x) xs)) (within n x parts.0) (not_from_false (list_any (nat_eq x) xs) (front_apart x xs ys distinct.0)))
    (places_from n xs ys distinct.1 parts.1)

pub committed_places : (batch : List Access) (chosen : Chosen) → IsLawful batch chosen → are_places (length batch) chosen.committed ≡ true
committed_places batch chosen lawful =
    let all = chosen.committed ++ chosen.carried in
    let none : list_any (past (length batch)) all ≡ false = sym (list_any-IsPermutation (past (length batch)) (places (length batch)) all lawful.once) ∙ none_past 0 (length batch) (length batch) (omega arith) in
    places_from (length batch) chosen.committed chosen.carried
    (IsDistinct-IsPermutation nat_eq nat_eq_equiv.symm (places (length batch)) all lawful.once (places_differ 0 (length batch)))
    (or_parts (list_any (past (length batch)) chosen.committed) (list_any (past (length batch)) chosen.carried) (sym (list_any-append (past (length batch)) chosen.committed chosen.carried) ∙ none)).0

-- of works, as the calls that commit them ask, where a rule's law gives what it chooses
pub committed_works : (choice : List Access → Chosen) → ((batch : List Access) → length batch < 2 ^ 32 → IsLawful batch (choice batch)) → (works : List Work) (committed : List ℕ)
    → length works < 2 ^ 32 → committed ≡ (choice (accesses_of works)).committed → are_places (length works) committed ≡ true
committed_works choice lawful works committed few is =
    let same : length (accesses_of works) ≡ length works = length-map works access_of_work in
    ap (are_places (length works)) is
    ∙ ap (λ n. are_places n (choice (accesses_of works)).committed) (sym same)
    ∙ committed_places (accesses_of works) (choice (accesses_of works)) (lawful (accesses_of works) (omega arith))

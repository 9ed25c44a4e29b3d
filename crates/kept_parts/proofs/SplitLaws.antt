-- The places of a list, parted into some of them and the others.
use Rattle.std.proofs.Common.{◌≡◌, ℕ, zero, suc, ◌+◌, ◌<◌, ◌≤◌, Bool, true, false, cond, not, ◌&&◌, ◌||◌, nat_eq, nat_lt, List, [], ◌∷◌, ◌++◌, refl, sym, ap, ◌∙◌, subst, true≢false, ⊎_elim, arith}
use Rattle.std.specs.Prelude.{filter}
use Rattle.std.specs.List.{list_any, range_with_len, AllByRecursion, IsDistinct}
use Rattle.std.specs.List.Sorted.{IsPermutation}
use Rattle.std.proofs.lemmas.Bool.{ne_eqb, lt-ltb, cases_lt, or_parts}
use Rattle.std.proofs.lemmas.Cmp.{nat_eq_equiv}
use Rattle.std.proofs.lemmas.List.Sorted.{IsPermutation-refl, IsPermutation-trans, IsPermutation-cons, IsPermutation-middle, IsPermutation-append_right, list_any-IsPermutation}
use Rattle.std.proofs.lemmas.List.Folds.{list_any-append}
use Rattle.std.proofs.lemmas.Map.Keys.{IsDistinct-IsPermutation}
use Rattle.keyed_state.specs.Works.{are_places}
use Rattle.keyed_state.proofs.PlaceLaws.{places_of}

-- the places of a list of so many that are none of these
abbrev pub others : ℕ → List ℕ → List ℕ
others n places = filter (λ place. not (list_any (nat_eq place) places)) (range_with_len 0 n)

all_left : (k n : ℕ) → filter (λ place. not (list_any (nat_eq place) [])) (range_with_len k n) ≡ range_with_len k n
all_left k zero = refl
all_left k (suc n) = ap (λ l. k ∷ l) (all_left (k + 1) n)

module _ (p : ℕ) (ps : List ℕ) (new : list_any (nat_eq p) ps ≡ false) where
  abbrev left : ℕ → Bool
  left place = not (list_any (nat_eq place) (p ∷ ps))

  abbrev more : ℕ → Bool
  more place = not (list_any (nat_eq place) ps)

  left_other : (k : ℕ) → (k ≡ p → ⊥) → left k ≡ more k
  left_other k other = ap (λ b. not (b || list_any (nat_eq k) ps)) (ne_eqb k p other)

  same_above : (k n : ℕ) → p < k → filter more (range_with_len k n) ≡ filter left (range_with_len k n)
  same_above k zero less = refl
  same_above k (suc n) less = λ i. cond (sym (left_other k (λ same. omega (arith, same, less))) i) (k ∷ same_above (k + 1) n (omega (arith, less)) i) (same_above (k + 1) n (omega (arith, less)) i)

  one_here : (n : ℕ) → IsPermutation (filter more (range_with_len p (suc n))) (p ∷ filter left (range_with_len p (suc n)))
  one_here n =
      let stays : more p ≡ true = ap not new in
      let goes : left p ≡ false = ap (λ b. not (b || list_any (nat_eq p) ps)) (nat_eq_equiv.refl p) in
      subst (λ l. IsPermutation (filter more (range_with_len p (suc n))) l)
      ((λ i. cond (stays i) (p ∷ filter more (range_with_len (p + 1) n)) (filter more (range_with_len (p + 1) n)))
      ∙ ap (λ l. p ∷ l) (same_above (p + 1) n (omega arith))
      ∙ ap (λ b. p ∷ cond b (p ∷ filter left (range_with_len (p + 1) n)) (filter left (range_with_len (p + 1) n))) (sym goes))
      (IsPermutation-refl (filter more (range_with_len p (suc n))))

  one_out : (k n : ℕ) → k ≤ p → p < k + n → IsPermutation (filter more (range_with_len k n)) (p ∷ filter left (range_with_len k n))
  one_out k zero low high = absurd (omega (arith, low, high))
  one_out k (suc n) low high = ⊎_elim (λ less. before less (one_out (k + 1) n (omega (arith, less)) (omega (arith, high)))) (λ rest. here (omega (arith, low, rest))) (cases_lt k p)
    where
      here : p ≡ k → IsPermutation (filter more (range_with_len k (suc n))) (p ∷ filter left (range_with_len k (suc n)))
      here same = subst (λ j. IsPermutation (filter more (range_with_len j (suc n))) (p ∷ filter left (range_with_len j (suc n)))) same (one_here n)

      by : (b : Bool) → IsPermutation (filter more (range_with_len (k + 1) n)) (p ∷ filter left (range_with_len (k + 1) n))
          → IsPermutation (cond b (k ∷ filter more (range_with_len (k + 1) n)) (filter more (range_with_len (k + 1) n))) (p ∷ cond b (k ∷ filter left (range_with_len (k + 1) n)) (filter left (range_with_len (k + 1) n)))
      by true later =
          IsPermutation-trans (k ∷ filter more (range_with_len (k + 1) n)) (k ∷ p ∷ filter left (range_with_len (k + 1) n)) (p ∷ k ∷ filter left (range_with_len (k + 1) n))
          (IsPermutation-cons k (filter more (range_with_len (k + 1) n)) (p ∷ filter left (range_with_len (k + 1) n)) later)
          (IsPermutation-middle (k ∷ []) p (filter left (range_with_len (k + 1) n)))
      by false later = later

      before : k < p → IsPermutation (filter more (range_with_len (k + 1) n)) (p ∷ filter left (range_with_len (k + 1) n)) → IsPermutation (filter more (range_with_len k (suc n))) (p ∷ filter left (range_with_len k (suc n)))
      before less later =
          subst (λ b. IsPermutation (filter more (range_with_len k (suc n))) (p ∷ cond b (k ∷ filter left (range_with_len (k + 1) n)) (filter left (range_with_len (k + 1) n))))
          (sym (left_other k (λ same. omega (arith, same, less)))) (by (more k) later)

-- each place is one of these or one of the others, once
pub parted : (n : ℕ) (places : List ℕ) → are_places n places ≡ true → IsPermutation (range_with_len 0 n) (places ++ others n places)
parted n [] are = subst (λ l. IsPermutation (range_with_len 0 n) l) (sym (all_left 0 n)) (IsPermutation-refl (range_with_len 0 n))
parted n (p ∷ ps) are =
    let first = places_of n p ps are in
    IsPermutation-trans (range_with_len 0 n) (ps ++ others n ps) (p ∷ ps ++ others n (p ∷ ps)) (parted n ps first.rest)
    (IsPermutation-trans (ps ++ others n ps) (ps ++ p ∷ others n (p ∷ ps)) (p ∷ ps ++ others n (p ∷ ps))
    (IsPermutation-append_right ps (others n ps) (p ∷ others n (p ∷ ps)) (one_out p ps first.new 0 n (omega arith) (omega (arith, first.within))))
    (IsPermutation-middle ps p (others n (p ∷ ps))))

-- And the other way round

-- no place of the list is past the end
abbrev past : ℕ → ℕ → Bool
past n place = not (nat_lt place n)

none_past : (from n end : ℕ) → from + n ≤ end → list_any (past end) (range_with_len from n) ≡ false
none_past from zero end low = refl
none_past from (suc n) end low = ap (λ b. not b || list_any (past end) (range_with_len (from + 1) n)) (lt-ltb from end (omega (arith, low))) ∙ none_past (from + 1) n end (omega (arith, low))

apart_from : (place from n : ℕ) → place < from → AllByRecursion (λ y. nat_eq place y ≡ false) (range_with_len from n)
apart_from place from zero less = tt
apart_from place from (suc n) less = (ne_eqb place from (λ same. omega (arith, same, less)), apart_from place (from + 1) n (omega (arith, less)))

places_differ : (from n : ℕ) → IsDistinct nat_eq (range_with_len from n)
unfolding IsDistinct
places_differ from zero = tt
places_differ from (suc n) = (apart_from from (from + 1) n (omega arith), places_differ (from + 1) n)

within : (b : Bool) → not b ≡ false → b ≡ true
within true h = refl
within false h = absurd (true≢false h)

front_apart : (place : ℕ) (xs ys : List ℕ) → AllByRecursion (λ y. nat_eq place y ≡ false) (xs ++ ys) → list_any (nat_eq place) xs ≡ false
front_apart place [] ys apart = refl
front_apart place (x ∷ xs) ys apart = ap (λ b. b || list_any (nat_eq place) xs) apart.0 ∙ front_apart place xs ys apart.1

front_places : (n : ℕ) (xs ys : List ℕ) → IsDistinct nat_eq (xs ++ ys) → list_any (past n) xs ≡ false → are_places n xs ≡ true
unfolding IsDistinct
front_places n [] ys distinct none = refl
front_places n (x ∷ xs) ys distinct none =
    let parts = or_parts (past n x) (list_any (past n) xs) none in
    (λ i. within (nat_lt x n) parts.0 i && not (front_apart x xs ys distinct.0 i) && are_places n xs) ∙ front_places n xs ys distinct.1 parts.1

-- one part of the places of a list are places of it
pub part_places : (n : ℕ) (xs ys : List ℕ) → IsPermutation (range_with_len 0 n) (xs ++ ys) → are_places n xs ≡ true
part_places n xs ys once =
    let none : list_any (past n) (xs ++ ys) ≡ false = sym (list_any-IsPermutation (past n) (range_with_len 0 n) (xs ++ ys) once) ∙ none_past 0 n n (omega arith) in
    front_places n xs ys (IsDistinct-IsPermutation nat_eq nat_eq_equiv.symm (range_with_len 0 n) (xs ++ ys) once (places_differ 0 n)) (or_parts (list_any (past n) xs) (list_any (past n) ys) (sym (list_any-append (past n) xs ys) ∙ none)).0

-- The carried places of a lawful choice are those that it doesn't commit.
use Rattle.std.proofs.Common.{◌≡◌, ℕ, suc, ◌+◌, ◌<◌, ◌≤◌, Bool, true, false, true≢false, cond, not, ◌&&◌, ◌||◌, nat_eq, List, [], ◌∷◌, ◌++◌, get_or, refl, sym, ap, ◌∙◌, subst, ⊎_elim, arith}
use Rattle.std.specs.Prelude.{filter}
use Rattle.std.specs.List.{list_any, range_with_len, AllByRecursion, IsDistinct}
use Rattle.std.specs.List.Sorted.{IsPermutation, IsStrictlyIncreasing}
use Rattle.std.proofs.lemmas.Bool.{eqb-true, ne_eqb, cases_lt}
use Rattle.std.proofs.lemmas.Cmp.{nat_eq_equiv}
use Rattle.std.proofs.lemmas.List.Folds.{list_any-append}
use Rattle.std.proofs.lemmas.List.Kept.{IsStrictlyIncreasing-filter}
use Rattle.std.proofs.lemmas.List.Sorted.{list_any-IsPermutation}
use Rattle.std.proofs.lemmas.Map.Keys.{IsDistinct-IsPermutation}
use Rattle.reservations.specs.BatchRuleLaws.{places_rise}
use Rattle.engine.specs.Batches.{other_places}

-- Numbers that rise

-- each number is below those behind it
Rising : List ℕ → Type 0
Rising [] = Unit {0}
Rising (x ∷ xs) = AllByRecursion (λ y. x < y) xs × Rising xs

above : (x y : ℕ) (xs : List ℕ) → x < y → AllByRecursion (λ z. y < z) xs → AllByRecursion (λ z. x < z) xs
above x y [] less all = tt
above x y (z ∷ zs) less all = (omega (arith, less, all.0), above x y zs less all.1)

rising : (xs : List ℕ) → IsStrictlyIncreasing xs → Rising xs
unfolding Rising
rising [] rise = tt
rising (x ∷ []) rise = (tt, tt)
rising (x ∷ y ∷ xs) rise =
    let rest = rising (y ∷ xs) (λ k within. let e : suc k + 1 ≡ suc (k + 1) = omega arith in subst (λ n. get_or (y ∷ xs) k 0 < get_or (x ∷ y ∷ xs) n 0) e (rise (suc k) (omega arith))) in
    let first : x < y = rise 0 (omega arith) in
    ((first, above x y xs first rest.0), rest)

none_below : (q x : ℕ) (xs : List ℕ) → q ≤ x → AllByRecursion (λ y. x < y) xs → list_any (nat_eq q) xs ≡ false
none_below q x [] low all = refl
none_below q x (y ∷ ys) low all =
    let less : x < y = all.0 in
    ap (λ b. b || list_any (nat_eq q) ys) (ne_eqb q y (λ same. omega (arith, same, less, low))) ∙ none_below q x ys low all.1

distinct : (xs : List ℕ) → Rising xs → IsDistinct nat_eq xs
unfolding Rising IsDistinct
distinct [] rise = tt
distinct (x ∷ xs) rise = (apart xs rise.0, distinct xs rise.1)
  where
    apart : (ys : List ℕ) → AllByRecursion (λ y. x < y) ys → AllByRecursion (λ y. nat_eq x y ≡ false) ys
    apart [] all = tt
    apart (y ∷ ys) all = let less : x < y = all.0 in (ne_eqb x y (λ same. omega (arith, same, less)), apart ys all.1)

found_first : (x : ℕ) (xs : List ℕ) → list_any (nat_eq x) (x ∷ xs) ≡ true
found_first x xs = ap (λ b. b || list_any (nat_eq x) xs) (nat_eq_equiv.refl x)

absent : (x y : ℕ) (ys : List ℕ) → x < y → AllByRecursion (λ z. y < z) ys → list_any (nat_eq x) (y ∷ ys) ≡ false
absent x y ys less all = none_below x x (y ∷ ys) (omega arith) (less, above x y ys less all)

-- lists that rise and have the same numbers are equal
same_numbers : (xs ys : List ℕ) → Rising xs → Rising ys → ((q : ℕ) → list_any (nat_eq q) xs ≡ list_any (nat_eq q) ys) → xs ≡ ys
unfolding Rising
same_numbers [] [] rise also same = refl
same_numbers [] (y ∷ ys) rise also same = absurd (true≢false (sym (same y ∙ found_first y ys)))
same_numbers (x ∷ xs) [] rise also same = absurd (true≢false (sym (found_first x xs) ∙ same x))
same_numbers (x ∷ xs) (y ∷ ys) rise also same =
    let equal : x ≡ y = ⊎_elim
    (λ less. absurd (true≢false (sym (found_first x xs) ∙ same x ∙ absent x y ys less also.0)))
    (λ rest. ⊎_elim
    (λ more. absurd (true≢false (sym (found_first y ys) ∙ sym (same y) ∙ absent y x xs more rise.0)))
    (λ low. omega (arith, low, rest))
    (cases_lt y x))
    (cases_lt x y) in
    let behind : AllByRecursion (λ z. x < z) ys = subst (λ a. AllByRecursion (λ z. a < z) ys) (sym equal) also.0 in
    let tails : (q : ℕ) → list_any (nat_eq q) xs ≡ list_any (nat_eq q) ys = λ q. tail q (nat_eq q x) refl behind (same q ∙ ap (λ a. nat_eq q a || list_any (nat_eq q) ys) (sym equal)) in
    λ i. equal i ∷ same_numbers xs ys rise.1 also.1 tails i
  where
    tail : (q : ℕ) (b : Bool) → nat_eq q x ≡ b → AllByRecursion (λ z. x < z) ys → (nat_eq q x || list_any (nat_eq q) xs) ≡ (nat_eq q x || list_any (nat_eq q) ys) → list_any (nat_eq q) xs ≡ list_any (nat_eq q) ys
    tail q true is behind both =
        let low : q ≡ x = eqb-true q x is in
        none_below q x xs (omega (arith, low)) rise.0 ∙ sym (none_below q x ys (omega (arith, low)) behind)
    tail q false is behind both = ap (λ b. b || list_any (nat_eq q) xs) (sym is) ∙ both ∙ ap (λ b. b || list_any (nat_eq q) ys) is

-- Places that are left

never : (b : Bool) → false ≡ (b && false)
never true = refl
never false = refl

among_kept : (p : ℕ → Bool) (q : ℕ) (xs : List ℕ) → list_any (nat_eq q) (filter p xs) ≡ (p q && list_any (nat_eq q) xs)
among_kept p q [] = never (p q)
among_kept p q (x ∷ xs) = by (p x) (nat_eq q x) refl refl (among_kept p q xs)
  where
    left : (b : Bool) → list_any (nat_eq q) (filter p xs) ≡ (b && list_any (nat_eq q) xs) → b ≡ true → true ≡ (b && true)
    left b rest is = sym (ap (λ c. c && true) is)

    by : (w e : Bool) → p x ≡ w → nat_eq q x ≡ e → list_any (nat_eq q) (filter p xs) ≡ (p q && list_any (nat_eq q) xs) → list_any (nat_eq q) (cond w (x ∷ filter p xs) (filter p xs)) ≡ (p q && (e || list_any (nat_eq q) xs))
    by true true w e rest = ap (λ b. b || list_any (nat_eq q) (filter p xs)) e ∙ left (p q) rest (ap p (eqb-true q x e) ∙ w)
    by true false w e rest = ap (λ b. b || list_any (nat_eq q) (filter p xs)) e ∙ rest
    by false true w e rest =
        let other : p q ≡ false = ap p (eqb-true q x e) ∙ w in
        rest ∙ ap (λ b. b && list_any (nat_eq q) xs) other ∙ sym (ap (λ b. b && true) other)
    by false false w e rest = rest

apart_behind : (x : ℕ) (xs ys : List ℕ) → AllByRecursion (λ y. nat_eq x y ≡ false) (xs ++ ys) → list_any (nat_eq x) ys ≡ false
apart_behind x [] [] apart = refl
apart_behind x [] (y ∷ ys) apart = ap (λ b. b || list_any (nat_eq x) ys) apart.0 ∙ apart_behind x [] ys apart.1
apart_behind x (z ∷ zs) ys apart = apart_behind x zs ys apart.1

not_in_both : (q : ℕ) (xs ys : List ℕ) → IsDistinct nat_eq (xs ++ ys) → list_any (nat_eq q) xs ≡ true → list_any (nat_eq q) ys ≡ false
unfolding IsDistinct
not_in_both q [] ys apart found = absurd (true≢false (sym found))
not_in_both q (x ∷ xs) ys apart found = by (nat_eq q x) refl found (not_in_both q xs ys apart.1)
  where
    by : (b : Bool) → nat_eq q x ≡ b → (b || list_any (nat_eq q) xs) ≡ true → (list_any (nat_eq q) xs ≡ true → list_any (nat_eq q) ys ≡ false) → list_any (nat_eq q) ys ≡ false
    by true is found later = ap (λ a. list_any (nat_eq a) ys) (eqb-true q x is) ∙ apart_behind x xs ys apart.0
    by false is found later = later found

module _ (n : ℕ) (committed carried : List ℕ) (once : IsPermutation (range_with_len 0 n) (committed ++ carried)) where
  in_other : (q : ℕ) → list_any (nat_eq q) carried ≡ (not (list_any (nat_eq q) committed) && list_any (nat_eq q) (range_with_len 0 n))
  in_other q =
      let all = list_any-IsPermutation (nat_eq q) (range_with_len 0 n) (committed ++ carried) once ∙ list_any-append (nat_eq q) committed carried in
      let apart = IsDistinct-IsPermutation nat_eq nat_eq_equiv.symm (range_with_len 0 n) (committed ++ carried) once (distinct (range_with_len 0 n) (rising (range_with_len 0 n) (places_rise n))) in
      by (list_any (nat_eq q) committed) refl all (not_in_both q committed carried apart)
    where
      by : (b : Bool) → list_any (nat_eq q) committed ≡ b → list_any (nat_eq q) (range_with_len 0 n) ≡ (b || list_any (nat_eq q) carried) → (list_any (nat_eq q) committed ≡ true → list_any (nat_eq q) carried ≡ false)
          → list_any (nat_eq q) carried ≡ (not b && list_any (nat_eq q) (range_with_len 0 n))
      by true is all apart = apart is
      by false is all apart = sym all

  pub carried_are : IsStrictlyIncreasing carried → carried ≡ other_places n committed
  carried_are rise =
      same_numbers carried (other_places n committed) (rising carried rise) (rising (other_places n committed) (IsStrictlyIncreasing-filter (λ place. not (list_any (nat_eq place) committed)) (range_with_len 0 n) (places_rise n)))
      (λ q. in_other q ∙ sym (among_kept (λ place. not (list_any (nat_eq place) committed)) q (range_with_len 0 n)))

-- What holds of each item of a list holds of each behind some of them, and behind another list; and sizes of items that are bounded.
use Rattle.std.proofs.Common.{ℕ, zero, suc, ◌*◌, ◌≤◌, List, [], ◌∷◌, ◌++◌, length, drop}
use Rattle.std.specs.List.{AllByRecursion, sum_by}
use Rattle.std.proofs.lemmas.List.Elements.{All-from_recursion}
use Rattle.std.proofs.lemmas.List.Sums.{sum_by-le}

module _ {A : Type 0} where
  module _ (P : A → Type 0) where
    pub each_behind : (n : ℕ) (xs : List A) → AllByRecursion P xs → AllByRecursion P (drop n xs)
    each_behind zero xs all = all
    each_behind (suc n) [] all = tt
    each_behind (suc n) (x ∷ xs) all = each_behind n xs all.1

    pub each_joined : (xs ys : List A) → AllByRecursion P xs → AllByRecursion P ys → AllByRecursion P (xs ++ ys)
    each_joined [] ys all more = more
    each_joined (x ∷ xs) ys all more = (all.0, each_joined xs ys all.1 more)

  pub sizes_most : (size : A → ℕ) (most : ℕ) (xs : List A) → AllByRecursion (λ x. size x ≤ most) xs → sum_by size xs ≤ length xs * most
  sizes_most size most xs all = sum_by-le size most xs (All-from_recursion (λ x. size x ≤ most) xs all)

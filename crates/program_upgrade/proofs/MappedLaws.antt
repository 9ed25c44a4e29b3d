-- Lists that are changed in place, one element after another.
use Rattle.std.proofs.Common.{◌≡◌, ℕ, zero, suc, ◌+◌, Some, List, [], ◌∷◌, ◌++◌, map, take, drop, length, ◌≤◌, append-nil, refl, sym, ap, ◌∙◌, add-one}
use Rattle.std.specs.Prelude.{slice_get, slice_set}
use Rattle.std.proofs.lemmas.Option.{none-some, same_Some}
use Rattle.std.proofs.lemmas.List.{drop_all, take_all}

module _ {A : Type 0} (f : A → A) where
  -- the first so many are changed
  abbrev pub so_far : ℕ → List A → List A
  so_far i xs = map f (take i xs) ++ drop i xs

  next : (xs : List A) (i : ℕ) (x : A) → slice_get (so_far i xs) i ≡ Some x → slice_set (so_far i xs) i (f x) ≡ so_far (suc i) xs
  next [] zero x h = absurd (none-some x h)
  next [] (suc i) x h = absurd (none-some x h)
  next (y ∷ ys) zero x h = ap (λ z. f z ∷ ys) (sym (same_Some y x h))
  next (y ∷ ys) (suc i) x h = ap (λ zs. f y ∷ zs) (next ys i x h)

  pub one_changed : (xs made : List A) (i : ℕ) (x y : A) → made ≡ so_far i xs → slice_get made i ≡ Some x → y ≡ f x → slice_set made i y ≡ so_far (i + 1) xs
  one_changed xs made i x y is has changed =
      (λ j. slice_set (is j) i (changed j)) ∙ next xs i x (sym (ap (λ zs. slice_get zs i) is) ∙ has) ∙ ap (λ k. so_far k xs) (sym (add-one i))

  pub all_changed : (xs made : List A) (i : ℕ) → made ≡ so_far i xs → length xs ≤ i → made ≡ map f xs
  all_changed xs made i is past = is ∙ (λ j. map f (take_all i xs past j) ++ drop_all i xs past j) ∙ append-nil (map f xs)

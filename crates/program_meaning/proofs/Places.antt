-- Where something stands in a list, and what is found there.
use Rattle.std.proofs.Common.{◌≡◌, ℕ, zero, suc, arith, ◌+◌, Bool, true, false, cond, Some, List, [], ◌∷◌, map as over, refl, sym, ap, ◌∙◌, subst}
use Rattle.std.specs.Prelude.{◌||◌, find, position, slice_get, option_map}
use Rattle.std.specs.List.{list_any, position_from}
use Rattle.std.proofs.lemmas.Option.{same_Some, none-some}
use Rattle.std.proofs.lemmas.Iterator.Adapters.{position_from-zero}

module _ {A : Type 0} (p : A → Bool) where
  pub position_is : (xs : List A) → position p xs ≡ position_from p 0 xs
  position_is xs = position_from-zero p xs

  from_later : (xs : List A) (i : ℕ) → position_from p (i + 1) xs ≡ option_map suc (position_from p i xs)
  from_later [] i = refl
  from_later (x ∷ xs) i = by (p x) (from_later xs (i + 1))
    where
      one : i + 1 ≡ suc i
      one = omega arith

      by : (b : Bool) → position_from p (i + 1 + 1) xs ≡ option_map suc (position_from p (i + 1) xs) → cond b (Some (i + 1)) (position_from p (i + 1 + 1) xs) ≡ option_map suc (cond b (Some i) (position_from p (i + 1) xs))
      by true e = ap Some one
      by false e = e

  pub position_of_more : (x : A) (xs : List A) → position p (x ∷ xs) ≡ cond (p x) (Some 0) (option_map suc (position p xs))
  position_of_more x xs = position_is (x ∷ xs) ∙ ap (cond (p x) (Some 0)) (from_later xs 0 ∙ ap (option_map suc) (sym (position_is xs)))

  -- what is found stands at its place
  pub found_at : (xs : List A) (a : A) → find p xs ≡ Some a → (k : ℕ) × (position p xs ≡ Some k) × (slice_get xs k ≡ Some a)
  found_at [] a h = absurd (none-some a h)
  found_at (x ∷ xs) a h = by (p x) refl h (found_at xs a)
    where
      by : (b : Bool) → p x ≡ b → cond b (Some x) (find p xs) ≡ Some a → (find p xs ≡ Some a → (k : ℕ) × (position p xs ≡ Some k) × (slice_get xs k ≡ Some a)) → (k : ℕ) × (position p (x ∷ xs) ≡ Some k) × (slice_get (x ∷ xs) k ≡ Some a)
      by true e h rest = (0, position_of_more x xs ∙ ap (λ b. cond b (Some 0) (option_map suc (position p xs))) e, h)
      by false e h rest =
          let r : (k : ℕ) × (position p xs ≡ Some k) × (slice_get xs k ≡ Some a) = rest h in
          (suc r.0, position_of_more x xs ∙ ap (λ b. cond b (Some 0) (option_map suc (position p xs))) e ∙ ap (option_map suc) r.1, r.2)

  -- and passes the test
  pub found_passes : (xs : List A) (a : A) → find p xs ≡ Some a → p a ≡ true
  found_passes [] a h = absurd (none-some a h)
  found_passes (x ∷ xs) a h = by (p x) refl h (found_passes xs a)
    where
      by : (b : Bool) → p x ≡ b → cond b (Some x) (find p xs) ≡ Some a → (find p xs ≡ Some a → p a ≡ true) → p a ≡ true
      by true e h rest = subst (λ y. p y ≡ true) (same_Some _ _ h) e
      by false e h rest = rest h

pub find_over : {A B : Type 0} (f : A → B) (p : B → Bool) (xs : List A) → find p (over f xs) ≡ option_map f (find (λ a. p (f a)) xs)
find_over f p [] = refl
find_over f p (x ∷ xs) = by (p (f x)) (find_over f p xs)
  where
    by : (b : Bool) → find p (over f xs) ≡ option_map f (find (λ a. p (f a)) xs) → cond b (Some (f x)) (find p (over f xs)) ≡ option_map f (cond b (Some x) (find (λ a. p (f a)) xs))
    by true e = refl
    by false e = e

-- what is found by its name stands at the place of the name
pub named_at : {A : Type 0} (name : A → ℕ) (p : ℕ → Bool) (xs : List A) (a : A) → find (λ y. p (name y)) xs ≡ Some a → (k : ℕ) × (position p (over name xs) ≡ Some k) × (slice_get xs k ≡ Some a)
named_at name p [] a h = absurd (none-some a h)
named_at name p (x ∷ xs) a h = by (p (name x)) refl h (named_at name p xs a)
  where
    by : (b : Bool) → p (name x) ≡ b → cond b (Some x) (find (λ y. p (name y)) xs) ≡ Some a → (find (λ y. p (name y)) xs ≡ Some a → (k : ℕ) × (position p (over name xs) ≡ Some k) × (slice_get xs k ≡ Some a)) → (k : ℕ) × (position p (over name (x ∷ xs)) ≡ Some k) × (slice_get (x ∷ xs) k ≡ Some a)
    by true e h rest = (0, position_of_more p (name x) (over name xs) ∙ ap (λ b. cond b (Some 0) (option_map suc (position p (over name xs)))) e, h)
    by false e h rest =
        let r : (k : ℕ) × (position p (over name xs) ≡ Some k) × (slice_get xs k ≡ Some a) = rest h in
        (suc r.0, position_of_more p (name x) (over name xs) ∙ ap (λ b. cond b (Some 0) (option_map suc (position p (over name xs)))) e ∙ ap (option_map suc) r.1, r.2)

-- where one passes, any does
pub any_at : {A : Type 0} (p : A → Bool) (xs : List A) (k : ℕ) (x : A) → slice_get xs k ≡ Some x → p x ≡ true → list_any p xs ≡ true
any_at p [] k x is h = absurd (none-some x is)
any_at p (y ∷ xs) zero x is h = ap (λ b. b || list_any p xs) (subst (λ z. p z ≡ true) (sym (same_Some _ _ is)) h)
any_at p (y ∷ xs) (suc k) x is h = by (p y) (any_at p xs k x is h)
  where
    by : (b : Bool) → list_any p xs ≡ true → (b || list_any p xs) ≡ true
    by true e = refl
    by false e = e

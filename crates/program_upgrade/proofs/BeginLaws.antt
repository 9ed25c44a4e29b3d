-- Whether one list begins another, from a place on.
use Rattle.std.proofs.Common.{◌≡◌, arith, ℕ, zero, suc, ◌+◌, ◌<◌, ◌≤◌, Bool, true, false, Option, Some, None, List, [], ◌∷◌, length, map, take, drop, get_or, refl, sym, ap, ◌∙◌}
use Rattle.std.specs.Prelude.{◌&&◌, slice_get}
use Rattle.std.proofs.lemmas.List.{drop_all, length-map}
use Rattle.std.proofs.lemmas.Option.{none-some, get_or_from_slice_get, slice_get_within}
use Rattle.py_tree.proofs.ListWalks.{map_from}
use Rattle.program_upgrade.specs.SameParts.{begins}

module _ {X A : Type 0} (view : X → A) (same : A → A → Bool) (xs ys : List X) where
  -- whether what stands from a place on does
  abbrev pub from : ℕ → Bool
  from k = begins same (map view (drop k xs)) (map view (drop k ys))

  beside : (i : ℕ) (x y : X) → i < length xs → x ≡ get_or xs i x → slice_get ys i ≡ Some y → from i ≡ (same (view x) (view y) && from (i + 1))
  beside i x y within is has =
      let other : map view (drop i ys) ≡ view y ∷ map view (drop (i + 1) ys) = map_from view ys i y (slice_get_within ys i y has) (sym (get_or_from_slice_get ys i y y has)) in
      λ j. begins same (map_from view xs i x within is j) (other j)

  pub begin_more : (i : ℕ) (x y : X) → i < length xs → x ≡ get_or xs i x → slice_get ys i ≡ Some y → same (view x) (view y) ≡ true → from i ≡ from (i + 1)
  begin_more i x y within is has alike = beside i x y within is has ∙ ap (λ b. b && from (i + 1)) alike

  pub begin_stop : (i : ℕ) (x y : X) → i < length xs → x ≡ get_or xs i x → slice_get ys i ≡ Some y → same (view x) (view y) ≡ false → from i ≡ false
  begin_stop i x y within is has other = beside i x y within is has ∙ ap (λ b. b && from (i + 1)) other

  pub begin_end : (i : ℕ) → length xs ≤ i → from i ≡ true
  begin_end i past = ap (λ zs. begins same (map view zs) (map view (drop i ys))) (drop_all i xs past)

-- what has more begins nothing
longer : {A : Type 0} (same : A → A → Bool) (xs ys : List A) → length ys < length xs → begins same xs ys ≡ false
longer same [] ys h = absurd (omega arith)
longer same (x ∷ xs) [] h = refl
longer same (x ∷ xs) (y ∷ ys) h = either (same x y) (longer same xs ys (omega arith))
  where
    either : (b : Bool) → begins same xs ys ≡ false → (b && begins same xs ys) ≡ false
    either true e = e
    either false e = refl

pub begin_longer : {X A : Type 0} (view : X → A) (same : A → A → Bool) (xs ys : List X) → length ys < length xs → begins same (map view xs) (map view ys) ≡ false
begin_longer view same xs ys h = longer same (map view xs) (map view ys) (simp length-map h)

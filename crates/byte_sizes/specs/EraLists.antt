-- Which lists of eras a history may have.
use Rattle.std.specs.Prelude.{◌≡◌, ℕ, ◌≤◌, List, [], ◌∷◌, map, length, Some, slice_get}
use Rattle.std.specs.List.{AllByRecursion}
use Rattle.sf_value.specs.declared.heads.Era.{Era}
use Rattle.byte_sizes.specs.Spelt.{IsReadEra}

abbrev pub places_of : List Era → List ℕ
places_of eras = map (λ era. era.from) eras

-- none is below the one that it follows
abbrev pub NoneFalls : List ℕ → Type 0
NoneFalls [] = Unit {0}
NoneFalls (place ∷ []) = Unit {0}
NoneFalls (place ∷ next ∷ rest) = (place ≤ next) × NoneFalls (next ∷ rest)

-- a history of so many entries ran under these programs, one after another: from 1 to 64, the first from the start on, and none begins
-- before the one that it follows, or behind the end
pub record AreEras (eras : List Era) (kept : ℕ) : Type 0 where
  pub first : slice_get (places_of eras) 0 ≡ Some 0
  pub count : length eras ≤ 64
  pub order : NoneFalls (places_of eras)
  pub within : AllByRecursion (λ place. place ≤ kept) (places_of eras)

-- the same, where each era has a spelling
abbrev pub AreReadEras : List Era → ℕ → Type 0
AreReadEras eras kept = AreEras eras kept × AllByRecursion IsReadEra eras

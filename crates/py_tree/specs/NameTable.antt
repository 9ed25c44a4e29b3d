-- Tables of names: the texts, as UTF-8, in the order of their numbers.
use Rattle.std.specs.Prelude.{◌≡◌, ◌≤◌, ℕ, true, Option, Some, is_some, List, [], ◌∷◌, ◌++◌, if◌then◌else◌, length, slice_get, position, bytes_eq}
use Rattle.std.specs.Str.{is_utf8}

-- the first place of a text
abbrev pub place_of : List (List ℕ) → List ℕ → Option ℕ
place_of names text = position (bytes_eq text) names

-- the table in which a text has its place, at the end where it had none
abbrev pub with_name : List (List ℕ) → List ℕ → List (List ℕ)
with_name names text = if is_some (place_of names text) then names else names ++ text ∷ []

-- no text stands at two places, each is UTF-8, and each place is a number of 32 bits
pub record IsTable (names : List (List ℕ)) : Type 0 where
  pub distinct : (i : ℕ) (text : List ℕ) → slice_get names i ≡ Some text → place_of names text ≡ Some i
  pub utf8 : (i : ℕ) (text : List ℕ) → slice_get names i ≡ Some text → is_utf8 text ≡ true
  pub few : length names ≤ 4294967295

-- The columns that the code keeps: those that are open, the deepest last.
use Rattle.std.specs.Prelude.{◌≡◌, ℕ, ◌-◌, ◌<◌, Bool, not, ◌&&◌, ◌==◌, nat_lt, List, [], ◌∷◌, ◌++◌, length, take, take_while, slice_index}
use Rattle.py_lexer.specs.Columns.{HasSince}

-- how many of them are less deep
abbrev pub outer : ℕ → List ℕ → ℕ
outer column kept = length (take_while (λ c. nat_lt c column) kept)

-- the first that is no less deep is this one
abbrev pub stands_among : ℕ → List ℕ → Bool
stands_among column kept = nat_lt (outer column kept) (length kept) && slice_index kept (outer column kept) == column

-- the last is deeper, and this one isn't among them
abbrev pub is_bad_dedent : ℕ → List ℕ → Bool
is_bad_dedent column kept = nat_lt column (slice_index kept (length kept - 1)) && not (column == 0) && not (stands_among column kept)

-- the deeper ones are shut
abbrev pub opened : ℕ → List ℕ → List ℕ
opened column kept = take (outer column kept) kept ++ column ∷ []

-- these are the open columns behind lines with those columns
pub record AreOpen (kept before : List ℕ) : Type 0 where
  pub last : slice_index kept (length kept - 1) ≡ slice_index before (length before - 1)
  pub rising : (i j : ℕ) → i < j → j < length kept → slice_index kept i < slice_index kept j
  pub sound : (i : ℕ) → i < length kept → HasSince (slice_index kept i) before
  pub complete : (column : ℕ) → HasSince column before → (i : ℕ) × (i < length kept) × (slice_index kept i ≡ column)

-- The columns of logical lines (Python Language Reference, indentation).
use Rattle.std.specs.Prelude.{◌≡◌, ℕ, ◌-◌, ◌≤◌, ◌<◌, ◌⊎◌, List, length, slice_index}

-- an earlier line has this column, and every line since has at least this column
pub record HasSince (column : ℕ) (before : List ℕ) : Type 0 where
  pub line : ℕ
  pub earlier : line < length before
  pub has : slice_index before line ≡ column
  pub since : (later : ℕ) → line ≤ later → later < length before → column ≤ slice_index before later

-- the column is open behind lines with these columns
abbrev pub IsOpen : ℕ → List ℕ → Type 0
IsOpen column before = (column ≡ 0) ⊎ HasSince column before

-- the line before is deeper, and the column isn't open
pub record IsBadDedent (column : ℕ) (before : List ℕ) : Type 0 where
  pub deeper : column < slice_index before (length before - 1)
  pub closed : IsOpen column before → ⊥

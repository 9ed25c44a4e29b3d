-- How an input is cut into lines.
use Rattle.std.specs.Prelude.{◌≡◌, ◌≢◌, ℕ, List, [], ◌∷◌, ◌++◌}
use Rattle.std.specs.List.{All}
use Rattle.request_json.specs.Actions.{Ended, whole_from, rest_from}

-- no byte of these is an LF
abbrev pub HasNoEnd : List ℕ → Type 0
HasNoEnd bytes = All (λ byte. byte ≢ 10) bytes

-- a line ends at the first LF behind its part, and the next one begins behind it; without an LF the part goes on
pub record LinesEndAtLineEnds : Type 0 where
  pub whole : (part line more : List ℕ) → HasNoEnd line → whole_from part (line ++ 10 ∷ more) ≡ Ended (part ++ line) ∷ whole_from [] more
  pub rest : (part line more : List ℕ) → HasNoEnd line → rest_from part (line ++ 10 ∷ more) ≡ rest_from [] more
  pub none : (part bytes : List ℕ) → HasNoEnd bytes → whole_from part bytes ≡ []
  pub longer : (part bytes : List ℕ) → HasNoEnd bytes → rest_from part bytes ≡ part ++ bytes

-- two pieces are cut one after the other, the second behind what the first left
pub record PiecesAreCutInTurn : Type 0 where
  pub whole : (part first second : List ℕ) → whole_from part (first ++ second) ≡ whole_from part first ++ whole_from (rest_from part first) second
  pub rest : (part first second : List ℕ) → rest_from part (first ++ second) ≡ rest_from (rest_from part first) second

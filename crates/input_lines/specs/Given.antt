-- What a reader has given of its input so far, in lines.
use Rattle.std.specs.Prelude.{◌≡◌, ℕ, ◌+◌, List, [], ◌∷◌, ◌++◌, length}
use Rattle.std.specs.declared.option.Option.{Option}
use Rattle.std.specs.Io.KnownBytes.{Consumes}
use Rattle.request_json.specs.Actions.{Line, Ended, whole_lines, rest_from}
use Rattle.input_lines.specs.declared.lines.Lines.{Lines}
use Rattle.input_lines.specs.Reads.{IsStart, begun, IsNew, Joins, EndsLine}

-- It has given these lines. They are the whole lines of all that was taken but for what still stands in the piece, and of the line behind
-- them the start is kept. So many bytes were taken that with those that still may be they are the limit.
pub record Given (limit longest : ℕ) (left left' : Option (List ℕ)) (lines : Lines) (given : List Line) : Type 0 where
  pub used : List ℕ
  pub consumed : Consumes left left' (used ++ lines.piece)
  pub counted : length used + length lines.piece + lines.room ≡ limit
  pub whole : whole_lines used ≡ given
  pub start : IsStart longest (begun lines) (rest_from [] used)
  pub bound : lines.longest ≡ longest

-- it gave one line more, whose start it shows
pub record GivenOneMore (limit longest : ℕ) (left left' : Option (List ℕ)) (lines : Lines) (given : List Line) : Type 0 where
  pub line : List ℕ
  pub start : IsStart longest lines.line line
  pub now : Given limit longest left left' lines (given ++ Ended line ∷ [])

-- before its first call it has given nothing; then each call gives the next line, or none
pub record LinesAreGivenInTurn : Type 0 where
  pub first : (limit longest : ℕ) (left : Option (List ℕ)) (lines : Lines) → IsNew limit longest lines → Given limit longest left left lines []
  pub line : (limit longest : ℕ) (l₀ l₁ l₂ : Option (List ℕ)) (old new : Lines) (given : List Line) → Given limit longest l₀ l₁ old given
      → EndsLine old new l₁ l₂ → GivenOneMore limit longest l₀ l₂ new given
  pub none : (limit longest : ℕ) (l₀ l₁ l₂ : Option (List ℕ)) (old new : Lines) (given : List Line) → Given limit longest l₀ l₁ old given
      → Joins old new l₁ l₂ → Given limit longest l₀ l₂ new given

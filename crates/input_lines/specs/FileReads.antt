-- What a reader does with a file, which is read by places.
use Rattle.std.specs.Prelude.{◌≡◌, ℕ, ◌+◌, ◌-◌, Bool, true, false, List, [], ◌∷◌, length, drop, ⊤, Ok, Err}
use Rattle.std.specs.declared.option.Option.{Option}
use Rattle.std.specs.Option.{option_map}
use Rattle.std.specs.declared.result.Result.{Result}
use Rattle.std.specs.Io.KnownBytes.{Consumes, IsAtEnd}
use Rattle.input_lines.specs.declared.lines.Lines.{Lines}
use Rattle.input_lines.specs.declared.lines.Next.{Next}
use Rattle.input_lines.specs.declared.lines.Next.TheVariants.{Line, End, ReadFault, TooLong}
use Rattle.input_lines.specs.Reads.{Gives, Fills}

-- what the file has from a place on, where its bytes are told
abbrev pub left_from : Option (List ℕ) → ℕ → Option (List ℕ)
left_from content at = option_map (drop at) content

-- how many bytes were taken beyond those that may be
abbrev pub beyond : {E : Type 0} → Result Next E → ℕ
beyond (Ok Line) = 0
beyond (Ok End) = 0
beyond (Ok ReadFault) = 0
beyond (Ok TooLong) = 1
beyond (Err e) = 0

-- what comes next, where the reader stands so far in the file as its room is smaller than the limit
abbrev pub GivesOfFile : ℕ → Option (List ℕ) → Lines → Lines → {E : Type 0} → Result Next E → Type 0
GivesOfFile limit content old new result =
    Gives old new (left_from content (limit - old.room)) (left_from content (limit - new.room + beyond result)) result

-- ---- for the parts of a call alone

-- a piece was read at this place
abbrev pub FillsAt : ℕ → ℕ → Option (List ℕ) → List ℕ → {E : Type 0} → Result ℕ E → Type 0
FillsAt room at content piece result = Fills room (left_from content at) (left_from content (at + length piece)) piece result

-- one byte stands at this place, or the file ends there or before
abbrev pub AsksAt : ℕ → Option (List ℕ) → {E : Type 0} → Result Bool E → Type 0
AsksAt at content (Ok true) = (next : ℕ) × Consumes (left_from content at) (left_from content (at + 1)) (next ∷ [])
AsksAt at content (Ok false) = IsAtEnd (left_from content at)
AsksAt at content (Err e) = ⊤

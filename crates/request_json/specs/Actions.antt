-- How an input is cut into lines, and what each line is.
use Rattle.std.specs.Prelude.{ℕ, ◌-◌, ◌==◌, nat_le, List, [], ◌∷◌, ◌++◌, length, take, slice_index, Ok, Err, codes, if◌then◌else◌}
use Rattle.std.specs.declared.result.Result.{Result}
use Rattle.sf_value.specs.declared.Request.{Request}
use Rattle.program_meaning.specs.ClassTables.{Source}
use Rattle.request_json.specs.declared.fault.LineFault.{LineFault}
use Rattle.request_json.specs.RequestLines.{longest, reading_of, text_of}

-- a line that ends with LF, which isn't part of it, or the last one without LF
pub data Line : Type 0 where
  Ended : (bytes : List ℕ) → Line
  Left : (bytes : List ℕ) → Line

-- the lines that end within these bytes, after a part of a line
unfoldable pub whole_from : List ℕ → List ℕ → List Line
whole_from part [] = []
whole_from part (b ∷ bs) = if b == 10 then Ended part ∷ whole_from [] bs else whole_from (part ++ b ∷ []) bs

-- the part of a line that is left then
unfoldable pub rest_from : List ℕ → List ℕ → List ℕ
rest_from part [] = part
rest_from part (b ∷ bs) = if b == 10 then rest_from [] bs else rest_from (part ++ b ∷ []) bs

-- a last line without LF counts where it has a byte
abbrev pub last_line : List ℕ → List Line
last_line [] = []
last_line (b ∷ bs) = Left (b ∷ bs) ∷ []

-- the lines that end with LF, and all lines
abbrev pub whole_lines : List ℕ → List Line
whole_lines bytes = whole_from [] bytes

abbrev pub all_lines : List ℕ → List Line
all_lines bytes = whole_lines bytes ++ last_line (rest_from [] bytes)

-- a CR directly before LF is dropped
abbrev pub without_cr : List ℕ → List ℕ
without_cr line = if slice_index line (length line - 1) == 13 then take (length line - 1) line else line

-- why a line can't be used: it has more bytes than a line may have, or reading it is refused
pub data Cause : Type 0 where
  LineTooLong : Cause
  Unread : (fault : LineFault) → Cause

-- what each cause is printed as
abbrev pub cause_text : Cause → List ℕ
cause_text LineTooLong = codes "line too long"
cause_text (Unread fault) = text_of fault

-- a line is empty, can't be used, or asks something
pub data Action : Type 0 where
  Skip : Action
  Refuse : (cause : Cause) → Action
  Ask : (request : Request) → Action

abbrev pub asking : Result Request LineFault → Action
asking (Ok r) = Ask r
asking (Err fault) = Refuse (Unread fault)

abbrev pub used : Source → List ℕ → Action
used src [] = Skip
used src (b ∷ bs) = asking (reading_of src (b ∷ bs))

-- the content of a line
abbrev pub bytes_of : Line → List ℕ
bytes_of (Ended line) = line
bytes_of (Left line) = line

abbrev pub content_of : Line → List ℕ
content_of (Ended line) = without_cr line
content_of (Left line) = line

-- what a line is; its length is counted with its CR
unfoldable pub action_of : Source → Line → Action
action_of src line = if nat_le (length (bytes_of line)) longest then used src (content_of line) else Refuse LineTooLong

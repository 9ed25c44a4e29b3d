-- A line is no shorter than the compact text of what it is read as.
use Rattle.std.specs.Prelude.{◌≡◌, ◌≤◌, ℕ, List, length, Some, Ok}
use Rattle.serde_json.specs.Data.{Data}
use Rattle.serde_json.specs.Read.{read}
use Rattle.serde_json.specs.Written.{compact_text}
use Rattle.sf_value.specs.declared.Request.{Request}
use Rattle.program_meaning.specs.ClassTables.{Source}
use Rattle.request_json.specs.RequestLines.{longest, reading_of}
use Rattle.request_json.specs.RequestTexts.{request_text}

-- data that a text is read as, but for floats, which have no compact text here
abbrev pub TextsAreNoShorter : Type 0
TextsAreNoShorter = (text : List ℕ) (d : Data) → read text ≡ Some d → length (compact_text d) ≤ length text

-- a request that a line asks is written in no more bytes than the line has
abbrev pub LinesAreNoShorter : Type 0
LinesAreNoShorter = (src : Source) (line : List ℕ) (r : Request) → reading_of src line ≡ Ok r → length (request_text src r) ≤ length line

-- so a request that came as a line that may be read is written as one
abbrev pub LinesStayLines : Type 0
LinesStayLines = (src : Source) (line : List ℕ) (r : Request) → length line ≤ longest → reading_of src line ≡ Ok r → length (request_text src r) ≤ longest

-- What the front of a file decides already.
use Rattle.std.specs.Prelude.{◌≡◌, ℕ, nat_lt, List, [], ◌∷◌, ◌++◌, length, Some, if◌then◌else◌}
use Rattle.std.specs.declared.option.Option.{Option}
use Rattle.program_meaning.specs.ClassTables.{Source}
use Rattle.request_json.specs.RequestLines.{longest}
use Rattle.request_json.specs.Actions.{Line, Left, whole_lines, rest_from}
use Rattle.run_audit.specs.declared.verdict.Verdict.{Verdict}
use Rattle.run_audit.specs.Verdict.{longest_reply, Front, read_lines, told, verdict_of}

-- how many bytes the line behind these may have
abbrev pub most_behind : List Line → ℕ
most_behind [] = longest
most_behind (odd ∷ []) = longest_reply
most_behind (odd ∷ even ∷ more) = most_behind more

-- the part of a line that stands behind whole lines counts as soon as it is too long
abbrev pub if_too_long : ℕ → List ℕ → List Line
if_too_long most part = if nat_lt most (length part) then Left part ∷ [] else []

abbrev pub lines_of_front : List ℕ → List Line
lines_of_front front = whole_lines front ++ if_too_long (most_behind (whole_lines front)) (rest_from [] front)

-- a whole entry that differs, or else a line that is bad, where the front has one
unfoldable pub decided : Source → List ℕ → Option Verdict
decided src front = told src (read_lines src Front [] (lines_of_front front))

-- what a front decides is the verdict on each file that begins so
abbrev pub FrontsDecide : Type 0
FrontsDecide = (src : Source) (front more : List ℕ) (v : Verdict) → decided src front ≡ Some v → verdict_of src (front ++ more) ≡ v

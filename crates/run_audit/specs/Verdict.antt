-- The verdict on a file of request lines and reply lines.
use Rattle.std.specs.Prelude.{ℕ, suc, ◌+◌, ◌*◌, Bool, ◌||◌, nat_le, bytes_eq, if◌then◌else◌}
use Rattle.std.specs.Prelude.{List, [], ◌∷◌, ◌++◌, length, map as over, Some, None, option_map, unwrap_or}
use Rattle.std.specs.declared.option.Option.{Option}
use Rattle.std.specs.Result.{result_ok}
use Rattle.std.specs.List.{list_any}
use Rattle.serde_json.specs.Written.{compact_text}
use Rattle.sf_value.specs.declared.Act.{Act}
use Rattle.sf_value.specs.declared.Outcome.{Outcome}
use Rattle.sf_value.specs.declared.Request.{Request}
use Rattle.program_meaning.specs.ClassTables.{Source}
use Rattle.program_meaning.specs.Serial.{no_state, serial_outcomes}
use Rattle.request_json.specs.Arguments.{◌>>?◌}
use Rattle.request_json.specs.RequestLines.{longest, reading_of}
use Rattle.request_json.specs.ReplyLines.{reply_data}
use Rattle.request_json.specs.Actions.{Line, bytes_of, content_of, all_lines}
use Rattle.run_audit.specs.declared.verdict.Verdict.{Verdict}
use Rattle.run_audit.specs.declared.verdict.Verdict.TheVariants as verdict

-- an even line has at most this many bytes, which no reply reaches
abbrev pub longest_reply : ℕ
longest_reply = 4194304

-- the last entry that there may be
abbrev pub last_entry : ℕ
last_entry = 4294967295

-- ---- lines: those with odd numbers are requests, those with even numbers replies

-- an entry: what its odd line asks, and what its even line says
pub record Pair : Type 0 where
  pub asked : Request
  pub said : List ℕ

-- a request, unless an earlier odd line has its id or there is no entry left for it; these are the ids of the earlier odd lines
abbrev pub if_new : List (List ℕ) → Request → Option Request
if_new earlier r = if list_any (bytes_eq r.id) earlier || nat_le last_entry (length earlier) then None else Some r

-- what an odd line asks, behind lines with these ids; where it asks nothing it is bad
abbrev pub asked_by : Source → List (List ℕ) → Line → Option Request
asked_by src earlier line = if nat_le (length (bytes_of line)) longest then result_ok (reading_of src (content_of line)) >>? if_new earlier else None

-- an even line is bad where it is too long
abbrev pub is_reply : Line → Bool
is_reply line = nat_le (length (bytes_of line)) longest_reply

-- the entries of lines, which are the pairs that stand before the first bad line, and this line's number, from 1
pub record Reading : Type 0 where
  pub entries : List Pair
  pub bad : Option ℕ

abbrev pub bad_line : ℕ → Reading
bad_line number = record { entries = []; bad = Some number }

abbrev pub none_bad : Reading
none_bad = record { entries = []; bad = None }

abbrev pub behind_entry : Pair → Reading → Reading
behind_entry p reading = record { entries = p ∷ reading.entries; bad = reading.bad }

-- where lines end: with their file, or before it
pub data Extent : Type 0 where
  Whole : Extent
  Front : Extent

-- behind the last odd line of a file the even one is missing, which is bad
abbrev pub missing : Extent → ℕ → Reading
missing Whole number = bad_line number
missing Front number = none_bad

-- what is read of an odd line without a line behind it, and of one with the even line behind it, where so many entries stand before
abbrev pub read_last : Extent → ℕ → Option Request → Reading
read_last extent n None = bad_line (2 * n + 1)
read_last extent n (Some r) = missing extent (2 * n + 2)

abbrev pub read_pair : ℕ → Option Request → Line → (Request → Reading) → Reading
read_pair n None even others = bad_line (2 * n + 1)
read_pair n (Some r) even others = if is_reply even then behind_entry (record { asked = r; said = content_of even }) (others r) else bad_line (2 * n + 2)

-- and of all lines, behind odd lines with these ids
unfoldable pub read_lines : Source → Extent → List (List ℕ) → List Line → Reading
read_lines src extent earlier [] = none_bad
read_lines src extent earlier (odd ∷ []) = read_last extent (length earlier) (asked_by src earlier odd)
read_lines src extent earlier (odd ∷ even ∷ more) =
    read_pair (length earlier) (asked_by src earlier odd) even (λ r. read_lines src extent (earlier ++ r.id ∷ []) more)

-- ---- judging, by the serial run of the requests

-- a reply line, without its LF
abbrev pub reply_text : List ℕ → Outcome → ℕ → List ℕ
reply_text id o place = compact_text (reply_data id o place)

-- the first entry, of those from this place on, whose even line isn't the reply line of what its request comes to, byte for byte
unfoldable pub differing : ℕ → List Pair → List Outcome → Option Verdict
differing place [] outcomes = None
differing place (p ∷ ps) [] = None
differing place (p ∷ ps) (o ∷ os) =
    if bytes_eq p.said (reply_text p.asked.id o place) then differing (suc place) ps os else Some (verdict.Differs place (reply_text p.asked.id o place) p.said)

abbrev pub acts_in : List Pair → List Act
acts_in ps = over (λ p. p.asked.act) ps

abbrev pub difference : Source → List Pair → Option Verdict
difference src ps = differing 1 ps (serial_outcomes src no_state (acts_in ps))

-- where no entry differs, the first bad line is told
abbrev pub or_bad : Option ℕ → Option Verdict → Option Verdict
or_bad bad (Some differs) = Some differs
or_bad bad None = option_map verdict.BadRun bad

abbrev pub told : Source → Reading → Option Verdict
told src reading = or_bad reading.bad (difference src reading.entries)

abbrev pub verdict_on : Source → Reading → Verdict
verdict_on src reading = unwrap_or (told src reading) (verdict.Serial (length reading.entries))

-- the verdict on a file
unfoldable pub verdict_of : Source → List ℕ → Verdict
verdict_of src bytes = verdict_on src (read_lines src Whole [] (all_lines bytes))

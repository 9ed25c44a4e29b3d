-- What the lines of a file come to, where those before them were judged.
use Rattle.std.specs.Prelude.{◌≡◌, ℕ, suc, ◌+◌, ◌*◌, not, cond, List, [], ◌∷◌, ◌++◌, length, Some, None, is_some, unwrap_or, Ok, Err, ⊤}
use Rattle.std.specs.declared.option.Option.{Option}
use Rattle.std.specs.declared.result.Result.{Result}
use Rattle.sf_value.specs.declared.Request.{Request}
use Rattle.program_meaning.specs.ClassTables.{Source}
use Rattle.program_meaning.specs.World.{State}
use Rattle.program_meaning.specs.Serial.{no_state, serial_outcomes}
use Rattle.request_json.specs.RequestLines.{longest}
use Rattle.request_json.specs.Actions.{Line}
use Rattle.run_audit.specs.declared.verdict.Verdict.{Verdict}
use Rattle.run_audit.specs.declared.verdict.Verdict.TheVariants as verdict
use Rattle.run_audit.specs.Verdict.{longest_reply, Reading, Extent, Whole, missing, read_pair, read_lines, differing, acts_in, or_bad}

-- between two lines: the ids of the entries, the state behind them, and the request whose reply comes next
pub record Judged : Type 0 where
  pub ids : List (List ℕ)
  pub state : State
  pub asked : Option Request

abbrev pub none_judged : Judged
none_judged = record { ids = []; state = no_state; asked = None }

-- behind an odd line that asks this
abbrev pub behind_odd : List (List ℕ) → State → Request → Judged
behind_odd ids s r = record { ids = ids; state = s; asked = Some r }

-- what is read of the lines behind an odd line that asks this
abbrev pub read_reply : Source → Extent → List (List ℕ) → Request → List Line → Reading
read_reply src extent ids r [] = missing extent (2 * length ids + 2)
read_reply src extent ids r (even ∷ more) = read_pair (length ids) (Some r) even (λ r. read_lines src extent (ids ++ r.id ∷ []) more)

abbrev pub read_behind : Source → Extent → List (List ℕ) → Option Request → List Line → Reading
read_behind src extent ids None lines = read_lines src extent ids lines
read_behind src extent ids (Some r) lines = read_reply src extent ids r lines

-- what is told of a reading behind so many entries, on the state that they left
abbrev pub told_of : Source → ℕ → State → Reading → Option Verdict
told_of src n s reading = or_bad reading.bad (differing (suc n) reading.entries (serial_outcomes src s (acts_in reading.entries)))

abbrev pub told_behind : Source → Extent → Judged → List Line → Option Verdict
told_behind src extent j lines = told_of src (length j.ids) j.state (read_behind src extent j.ids j.asked lines)

-- and how many entries there are then
abbrev pub count_behind : Source → Extent → Judged → List Line → ℕ
count_behind src extent j lines = length j.ids + length (read_behind src extent j.ids j.asked lines).entries

-- the verdict on a file that has these lines more
abbrev pub ending_of : Source → Judged → List Line → Verdict
ending_of src j lines = unwrap_or (told_behind src Whole j lines) (verdict.Serial (count_behind src Whole j lines))

-- the number of the line that comes next, and how many bytes it may have
abbrev pub next_number : Judged → ℕ
next_number j = cond (is_some j.asked) (2 * length j.ids + 2) (2 * length j.ids + 1)

abbrev pub most_of : Option Request → ℕ
most_of asked = cond (is_some asked) longest_reply longest

-- A line is judged: whatever comes behind it this verdict is told, or what is told is what is told behind it.
pub record Passes (src : Source) (old new : Judged) (line : Line) : Type 0 where
  pub told : (extent : Extent) (more : List Line) → told_behind src extent old (line ∷ more) ≡ told_behind src extent new more
  pub count : (extent : Extent) (more : List Line) → count_behind src extent old (line ∷ more) ≡ count_behind src extent new more
  pub turns : is_some new.asked ≡ not (is_some old.asked)

abbrev pub Decides : Source → Judged → Line → Verdict → Type 0
Decides src old line v = (extent : Extent) (more : List Line) → told_behind src extent old (line ∷ more) ≡ Some v

abbrev pub Judges : Source → Judged → Judged → Line → {E : Type 0} → Result (Option Verdict) E → Type 0
Judges src old new line (Ok None) = Passes src old new line
Judges src old new line (Ok (Some v)) = Decides src old line v
Judges src old new line (Err e) = ⊤

-- What a session prints, as the replies of one serial run.
use Rattle.std.specs.Prelude.{◌≡◌, ℕ, ◌+◌, ◌≤◌, false, List, [], ◌∷◌, ◌++◌, map, length, ⊤, None, Some}
use Rattle.std.specs.List.{range_with_len}
use Rattle.std.specs.declared.option.Option.{Option}
use Rattle.std.specs.declared.result.Result.{Result}
use Rattle.sf_value.specs.declared.Entry.{Entry}
use Rattle.sf_value.specs.declared.Request.{Request}
use Rattle.sf_outside.specs.Bytes.{AppendsPrefix}
use Rattle.sf_outside.specs.Gains.{joined}
use Rattle.program_meaning.specs.ClassTables.{Source}
use Rattle.program_meaning.specs.Serial.{Core, is_committed}
use Rattle.request_history.specs.Repeats.{entry_at}
use Rattle.request_history.specs.SoundHistory.{IsSoundHistory}
use Rattle.request_json.specs.Actions.{Line, Action, Skip, Refuse, Ask, cause_text, action_of}
use Rattle.request_json.specs.ReplyLines.{reply_line, bad_line}
use Rattle.session.specs.declared.feeding.InputEnd.{InputEnd}
use Rattle.session.specs.declared.stopping.SessionStop.{SessionStop}
use Rattle.session.specs.OutputText.{reused, replies, start}
use Rattle.session.specs.Served.{Served}

-- what is printed for one line that is answered: nothing, the refusal of the line with this number in these words, the reply to the request
-- that stands at this place of the history, or that reply once more; lines and places are counted from 1
pub data Printed : Type 0 where
  Nothing : Printed
  Refused : (number : ℕ) → (what : List ℕ) → Printed
  Reply : (place : ℕ) → Printed
  Again : (place : ℕ) → Printed

-- the reply line of an entry at its place
abbrev pub text_of_entry : Option Entry → ℕ → List ℕ
text_of_entry None place = []
text_of_entry (Some entry) place = reply_line entry.request.id entry.outcome place

-- what is printed, where these entries are the history: a place outside of it has no text
abbrev pub printed_text : List Entry → Printed → List ℕ
printed_text history Nothing = []
printed_text history (Refused number what) = bad_line what number
printed_text history (Reply place) = text_of_entry (entry_at history place) place
printed_text history (Again place) = text_of_entry (entry_at history place) place

-- and for these lines, one text for each
abbrev pub printed_texts : List Entry → List Printed → List (List ℕ)
printed_texts history = map (printed_text history)

-- the places of the first replies, in the order in which they are printed
abbrev pub places : List Printed → List ℕ
places [] = []
places (Nothing ∷ printed) = places printed
places (Refused number what ∷ printed) = places printed
places (Reply place ∷ printed) = place ∷ places printed
places (Again place ∷ printed) = places printed

-- each refusal has the number of its line, where the first line has this one
abbrev pub IsNumbered : ℕ → List Printed → Type 0
IsNumbered first [] = ⊤
IsNumbered first (Nothing ∷ printed) = IsNumbered (first + 1) printed
IsNumbered first (Refused number what ∷ printed) = (number ≡ first) × IsNumbered (first + 1) printed
IsNumbered first (Reply place ∷ printed) = IsNumbered (first + 1) printed
IsNumbered first (Again place ∷ printed) = IsNumbered (first + 1) printed

-- each request of the history has one first reply, in the order of the history, and each refusal names its line
pub record IsReport (history : List Entry) (printed : List Printed) : Type 0 where
  pub counted : places printed ≡ range_with_len 1 (length history)
  pub numbered : IsNumbered 1 printed

-- the entry at this place has the id of this request, and asks for something else
pub record IsReused (before : List Entry) (request : Request) : Type 0 where
  pub place : ℕ
  pub entry : Entry
  pub stands : entry_at before place ≡ Some entry
  pub id : entry.request.id ≡ request.id
  pub other : entry.request ≡ request → ⊥

-- a line that asks this is refused in these words after these entries: it can't be used, or its id was used for something else
abbrev pub IsRefused : List Entry → Action → List ℕ → Type 0
IsRefused before Skip what = ⊥
IsRefused before (Refuse cause) what = what ≡ cause_text cause
IsRefused before (Ask request) what = (what ≡ reused) × IsReused before request

-- the request stands at this place already
pub record IsRepeated (before : List Entry) (action : Action) (place : ℕ) : Type 0 where
  pub entry : Entry
  pub stands : entry_at before place ≡ Some entry
  pub asks : action ≡ Ask entry.request

-- it asks a new request, and as many entries stand before it as there may be
pub record StopsFull (most : ℕ) (before : List Entry) (action : Action) : Type 0 where
  pub request : Request
  pub asks : action ≡ Ask request
  pub new : is_committed before request.id ≡ false
  pub full : length before ≡ most

-- what is printed for these lines fits what they ask, where these entries stand before and the lines add those: nothing
-- for an empty line, a refusal as above, the reply to the entry that the line's request adds, or the reply to the entry that it
-- repeats; and nothing is printed any more from the line on that finds the history full
abbrev pub Fits : Source → ℕ → List Entry → List Line → List Printed → List Entry → Type 0
Fits src most before [] [] [] = ⊤
Fits src most before (line ∷ lines) [] [] = StopsFull most before (action_of src line)
Fits src most before (line ∷ lines) (Nothing ∷ printed) added = (action_of src line ≡ Skip) × Fits src most before lines printed added
Fits src most before (line ∷ lines) (Refused number what ∷ printed) added =
    IsRefused before (action_of src line) what × Fits src most before lines printed added
Fits src most before (line ∷ lines) (Reply place ∷ printed) (entry ∷ added) =
    (action_of src line ≡ Ask entry.request) × Fits src most (before ++ entry ∷ []) lines printed added
Fits src most before (line ∷ lines) (Again place ∷ printed) added = IsRepeated before (action_of src line) place × Fits src most before lines printed added
Fits src most before lines printed added = ⊥

-- what these lines are answered is what a serial run prints: the replies to the requests of a sound history, which
-- the lines asked, each at its place, and refusals between them; the history has no more entries than it may have
pub record SerialLines (src : Source) (most : ℕ) (lines : List Line) : Type 0 where
  pub core : Core
  pub sound : IsSoundHistory src core
  pub few : length core.history ≤ most
  pub printed : List Printed
  pub report : IsReport core.history printed
  pub fits : Fits src most [] lines printed core.history
  pub texts : replies src most start lines ≡ printed_texts core.history printed

-- known bytes grew by what a serial run prints, or by a prefix of it
pub record SerialRun (src : Source) (old new : Option (List ℕ)) : Type 0 where
  pub core : Core
  pub sound : IsSoundHistory src core
  pub printed : List Printed
  pub report : IsReport core.history printed
  pub wrote : AppendsPrefix old new (joined (printed_texts core.history printed))

-- whatever the result of a session that served so, it wrote what a serial run prints, or a prefix of it
abbrev pub ServesSerially : Type 0
ServesSerially = (src : Source) (limit most : ℕ) (left left' held held' : Option (List ℕ)) (result : Result InputEnd SessionStop)
    → Served src limit most left left' held held' result → SerialRun src held held'

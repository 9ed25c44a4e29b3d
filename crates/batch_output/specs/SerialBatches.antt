-- What a session prints that serves its input in batches, as the replies of one serial run.
use Rattle.std.specs.Prelude.{◌≡◌, ℕ, ◌+◌, ◌≤◌, ◌<◌, ◌^◌, List, [], ◌∷◌, ◌++◌, map, length, ⊤, None, Some}
use Rattle.std.specs.List.{range_with_len}
use Rattle.std.specs.declared.option.Option.{Option}
use Rattle.sf_value.specs.declared.Entry.{Entry}
use Rattle.program_meaning.specs.ClassTables.{Source}
use Rattle.serial_order.specs.ConflictFree.{Access}
use Rattle.reservations.specs.CommitRules.{Chosen, IsLawful}
use Rattle.request_history.specs.Repeats.{entry_at}
use Rattle.request_json.specs.Actions.{Line}
use Rattle.request_json.specs.ReplyLines.{reply_line, bad_line}
use Rattle.engine.specs.Cores.{Core, IsSoundCore}
use Rattle.batch_output.specs.BatchOutput.{Limits, begun, after, replies, at_end, end_replies}

-- what a line is that was printed: the refusal of the line with this number in these words, the reply to the request that stands at this
-- place of the history, or that reply once more; lines and places are counted from 1
pub data Printed : Type 0 where
  Refused : (number : ℕ) → (what : List ℕ) → Printed
  Reply : (place : ℕ) → Printed
  Again : (place : ℕ) → Printed

-- the reply line of an entry at its place
abbrev pub text_of_entry : Option Entry → ℕ → List ℕ
text_of_entry None place = []
text_of_entry (Some entry) place = reply_line entry.request.id entry.outcome place

-- what is printed, where these entries are the history: a place outside of it has no text
abbrev pub printed_text : List Entry → Printed → List ℕ
printed_text history (Refused number what) = bad_line what number
printed_text history (Reply place) = text_of_entry (entry_at history place) place
printed_text history (Again place) = text_of_entry (entry_at history place) place

abbrev pub printed_texts : List Entry → List Printed → List (List ℕ)
printed_texts history = map (printed_text history)

-- the places of the first replies, in the order in which they are printed
abbrev pub places : List Printed → List ℕ
places [] = []
places (Refused number what ∷ printed) = places printed
places (Reply place ∷ printed) = place ∷ places printed
places (Again place ∷ printed) = places printed

-- each reply that is given again is that of an entry that stood before it, where so many stood at first
abbrev pub RepeatsStand : ℕ → List Printed → Type 0
RepeatsStand before [] = ⊤
RepeatsStand before (Refused number what ∷ printed) = RepeatsStand before printed
RepeatsStand before (Reply place ∷ printed) = RepeatsStand (before + 1) printed
RepeatsStand before (Again place ∷ printed) = (1 ≤ place) × (place ≤ before) × RepeatsStand before printed

-- each refusal has the number of a line between these two, the second included, and the numbers rise
abbrev pub AreNumbered : ℕ → ℕ → List Printed → Type 0
AreNumbered before last [] = ⊤
AreNumbered before last (Refused number what ∷ printed) = (before < number) × (number ≤ last) × AreNumbered number last printed
AreNumbered before last (Reply place ∷ printed) = AreNumbered before last printed
AreNumbered before last (Again place ∷ printed) = AreNumbered before last printed

-- the history of a core grew by these entries, and this was printed: each new entry has one first reply, in the order of the history, and
-- so many lines came
pub record IsReport (old new : Core) (added : List Entry) (lines : ℕ) (printed : List Printed) : Type 0 where
  pub history : new.history ≡ old.history ++ added
  pub counted : places printed ≡ range_with_len (length old.history + 1) (length added)
  pub repeats : RepeatsStand (length old.history) printed
  pub numbered : AreNumbered 0 lines printed

-- what was printed from one core to another, while so many lines came, is what a serial run prints
pub record PrintsSerially (src : Source) (old new : Core) (lines : ℕ) (texts : List (List ℕ)) : Type 0 where
  pub sound : IsSoundCore src new
  pub added : List Entry
  pub printed : List Printed
  pub report : IsReport old new added lines printed
  pub texts_are : texts ≡ printed_texts new.history printed

-- a rule chooses lawfully of every batch of fewer than 2^32
abbrev pub IsLawfulRule : (List Access → Chosen) → Type 0
IsLawfulRule rule = (batch : List Access) → length batch < 2 ^ 32 → IsLawful batch (rule batch)

-- what a session begins with: a lawful rule, batches of at most 256 requests, a sound core, and fewer than 256 requests that wait
pub record MayBegin (src : Source) (rule : List Access → Chosen) (limits : Limits) (core : Core) : Type 0 where
  pub lawful : IsLawfulRule rule
  pub batch : limits.batch ≤ 256
  pub sound : IsSoundCore src core
  pub few : length core.pending < 256

-- after these lines, and behind the end of the input too, a session has printed what one serial run prints
pub record IsSerialSession (src : Source) (rule : List Access → Chosen) (limits : Limits) (core : Core) (lines : List Line) : Type 0 where
  pub between : PrintsSerially src core (after src rule limits (begun core) lines).core (length lines) (replies src rule limits (begun core) lines)
  pub over : PrintsSerially src core (at_end src rule limits (after src rule limits (begun core) lines)).core (length lines)
      (replies src rule limits (begun core) lines ++ end_replies src rule limits (after src rule limits (begun core) lines))

abbrev pub SerialBatches : Type 0
SerialBatches = (src : Source) (rule : List Access → Chosen) (limits : Limits) (core : Core) → MayBegin src rule limits core → (lines : List Line)
    → IsSerialSession src rule limits core lines

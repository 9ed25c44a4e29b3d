-- The output text of a session: what each line of its input is answered, and the history and the state that follow.
--
-- Each request is run at once. Where the history has no place for a new one, the session stops.
use Rattle.std.specs.Prelude.{ℕ, ◌+◌, Bool, false, nat_lt, List, [], ◌∷◌, ◌++◌, length, codes, None, Some, if◌then◌else◌}
use Rattle.std.specs.declared.option.Option.{Option}
use Rattle.sf_value.specs.declared.Act.{Act}
use Rattle.sf_value.specs.declared.Entry.{Entry}
use Rattle.sf_value.specs.declared.Request.{Request}
use Rattle.program_meaning.specs.ClassTables.{Source}
use Rattle.program_meaning.specs.RequestRun.{run}
use Rattle.program_meaning.specs.Serial.{Core, no_state}
use Rattle.sf_outside.specs.Gains.{joined}
use Rattle.request_json.specs.Actions.{Line, Action, Skip, Refuse, Ask, cause_text, action_of, all_lines}
use Rattle.request_json.specs.ReplyLines.{reply_line, bad_line}
use Rattle.request_history.specs.Repeats.{Kept, kept_of, same_act}

-- a request with what it comes to in this state
abbrev pub entry_of : Source → Core → Request → Entry
entry_of src core r = record { request = r; outcome = (run src core.state r.act).outcome }

-- a request joins the history, and the state is the one after its run
abbrev pub commit : Source → Core → Request → Core
commit src core r = record { history = core.history ++ entry_of src core r ∷ []; state = (run src core.state r.act).state }

-- the line of an entry at its place
abbrev pub line_of_kept : Kept → List ℕ
line_of_kept kept = reply_line kept.entry.request.id kept.entry.outcome kept.place

abbrev pub reused : List ℕ
reused = codes "id reused"

-- a request whose id is committed is answered the kept line again where it asks for the same, and else that the id was reused
abbrev pub answer_again : ℕ → Act → Kept → List ℕ
answer_again number asked kept = if same_act kept.entry.request.act asked then line_of_kept kept else bad_line reused number

-- and a new one the line of its entry, which takes the next place
abbrev pub new_line : Source → Core → Request → List ℕ
new_line src core r = reply_line r.id (entry_of src core r).outcome (length core.history + 1)

-- a session between two lines: its history and state, how many lines came, and whether it has stopped since its history is full
pub record Standing : Type 0 where
  pub core : Core
  pub lines : ℕ
  pub is_full : Bool

-- before the first line nothing is in the history and no entity is there
abbrev pub empty_core : Core
empty_core = record { history = []; state = no_state }

abbrev pub start : Standing
start = record { core = empty_core; lines = 0; is_full = false }

-- a program is served with so many entries in the history at most
module _ (src : Source) (most : ℕ) where
  -- the history has no place for one entry more
  abbrev pub has_no_place : Core → Bool
  has_no_place core = nat_lt most (length core.history + 1)

  -- What a line asks

  -- a new request is committed where there is a place for it, one whose id is committed changes nothing
  abbrev pub after_new : Core → Request → Core
  after_new core r = if has_no_place core then core else commit src core r

  abbrev pub after_ask : Core → Request → Option Kept → Core
  after_ask core r None = after_new core r
  after_ask core r (Some kept) = core

  unfoldable pub after_action : Core → Action → Core
  after_action core Skip = core
  after_action core (Refuse cause) = core
  after_action core (Ask r) = after_ask core r (kept_of core.history r.id)

  -- it stops the session where it is a new request and has no place
  abbrev pub ask_stops : Core → Option Kept → Bool
  ask_stops core None = has_no_place core
  ask_stops core (Some kept) = false

  unfoldable pub stops : Core → Action → Bool
  stops core Skip = false
  stops core (Refuse cause) = false
  stops core (Ask r) = ask_stops core (kept_of core.history r.id)

  -- an empty line is answered nothing, a line that can't be used its refusal; what stops the session has no answer
  abbrev pub new_lines : Core → Request → List (List ℕ)
  new_lines core r = if has_no_place core then [] else new_line src core r ∷ []

  abbrev pub answer_to : Core → ℕ → Request → Option Kept → List (List ℕ)
  answer_to core number r None = new_lines core r
  answer_to core number r (Some kept) = answer_again number r.act kept ∷ []

  unfoldable pub reply_to : Core → ℕ → Action → List (List ℕ)
  reply_to core number Skip = [] ∷ []
  reply_to core number (Refuse cause) = bad_line (cause_text cause) number ∷ []
  reply_to core number (Ask r) = answer_to core number r (kept_of core.history r.id)

  -- Lines

  abbrev pub behind : Standing → Action → Standing
  behind s action = record { core = after_action s.core action; lines = s.lines + 1; is_full = stops s.core action }

  -- a session that has stopped takes no line any more
  abbrev pub step : Standing → Line → Standing
  step s line = if s.is_full then s else behind s (action_of src line)

  abbrev pub reply : Standing → Line → List (List ℕ)
  reply s line = if s.is_full then [] else reply_to s.core (s.lines + 1) (action_of src line)

  -- the replies to these lines, one for each up to the one that stops it, where an empty line's is empty
  unfoldable pub replies : Standing → List Line → List (List ℕ)
  replies s [] = []
  replies s (line ∷ lines) = reply s line ++ replies (step s line) lines

  -- the session after these lines
  unfoldable pub after : Standing → List Line → Standing
  after s [] = s
  after s (line ∷ lines) = after (step s line) lines

  -- the text that a session gives for a whole input
  abbrev pub output_text : List ℕ → List ℕ
  output_text bytes = joined (replies start (all_lines bytes))

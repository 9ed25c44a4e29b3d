-- The output of a session that serves its input in batches: what each line makes it print, and the core behind it.
--
-- A new request waits. A batch of all that wait runs where as many wait as make a batch, at an empty line, and at the end of the input until
-- nothing waits. What it commits is answered in the order of the commits. Where the history has no place for all that wait, the session
-- stops.
use Rattle.std.specs.Prelude.{ℕ, zero, suc, ◌+◌, Bool, false, true, not, ◌||◌, nat_le, nat_lt, List, [], ◌∷◌, ◌++◌, length, codes, None, Some, if◌then◌else◌}
use Rattle.std.specs.declared.option.Option.{Option}
use Rattle.sf_value.specs.declared.Entry.{Entry}
use Rattle.sf_outside.specs.Gains.{joined}
use Rattle.program_meaning.specs.ClassTables.{Source}
use Rattle.serial_order.specs.ConflictFree.{Access}
use Rattle.reservations.specs.CommitRules.{Chosen}
use Rattle.request_history.specs.Repeats.{Kept, kept_in}
use Rattle.request_json.specs.Actions.{Line, Action, Skip, Refuse, Ask, cause_text, action_of, all_lines}
use Rattle.request_json.specs.ReplyLines.{reply_line, bad_line}
use Rattle.engine.specs.declared.arrival.Arrival.{Arrival}
use Rattle.engine.specs.declared.arrival.Arrival.TheVariants as arrival
use Rattle.engine.specs.Cores.{Core}
use Rattle.engine.specs.Arrivals.{arrival_of, after_arrival}
use Rattle.engine.specs.Batches.{batch_entries, after_batch}
use Rattle.engine.specs.RanBatches.{accesses_on}

-- how many requests make a batch, and how many entries the history may have
pub record Limits : Type 0 where
  pub batch : ℕ
  pub history : ℕ

-- a session between two lines: its core, how many lines came, and whether it has stopped since its history is full
pub record Standing : Type 0 where
  pub core : Core
  pub lines : ℕ
  pub is_full : Bool

abbrev pub begun : Core → Standing
begun core = record { core = core; lines = 0; is_full = false }

abbrev pub waits : Core → Bool
waits core = nat_lt 0 (length core.pending)

-- Replies

-- the lines of entries, of which the first has this place
abbrev pub entry_lines : ℕ → List Entry → List (List ℕ)
entry_lines place [] = []
entry_lines place (e ∷ es) = reply_line e.request.id e.outcome place ∷ entry_lines (place + 1) es

abbrev pub kept_line : Option Kept → List (List ℕ)
kept_line None = []
kept_line (Some kept) = reply_line kept.entry.request.id kept.entry.outcome kept.place ∷ []

abbrev pub reused : List ℕ
reused = codes "id reused"

-- what a request is answered at once: the line of its entry where it was committed, and a refusal where its id was used for something else
abbrev pub answer_on : Core → ℕ → Arrival → List (List ℕ)
answer_on core number arrival.New = []
answer_on core number (arrival.Again place) = kept_line (kept_in core.history place)
answer_on core number arrival.Waiting = []
answer_on core number arrival.Reused = bad_line reused number ∷ []

abbrev pub answer : Core → ℕ → Action → List (List ℕ)
answer core number Skip = []
answer core number (Refuse cause) = bad_line (cause_text cause) number ∷ []
answer core number (Ask r) = answer_on core number (arrival_of core r)

-- Batches

abbrev pub taken : Core → Action → Core
taken core Skip = core
taken core (Refuse cause) = core
taken core (Ask r) = after_arrival core r

module _ (src : Source) (rule : List Access → Chosen) (limits : Limits) where
  abbrev pub fills : Core → Arrival → Bool
  fills core arrival.New = nat_le limits.batch (length core.pending + 1)
  fills core other = false

  -- a batch is due where as many wait as make one, and at an empty line where any do
  abbrev pub is_due : Core → Action → Bool
  is_due core Skip = waits core
  is_due core (Refuse cause) = false
  is_due core (Ask r) = fills core (arrival_of core r)

  -- what the rule commits, by what each request that waits reads and writes by itself
  abbrev pub committed : Core → List ℕ
  committed core = (rule (accesses_on src core)).committed

  abbrev pub has_no_place : Core → Bool
  has_no_place core = nat_lt limits.history (length core.history + length core.pending)

  -- after a batch, or where the history has no place for it
  abbrev pub settled : Standing → Standing
  settled s =
      if has_no_place s.core
      then record { core = s.core; lines = s.lines; is_full = true }
      else record { core = after_batch src s.core (committed s.core); lines = s.lines; is_full = false }

  abbrev pub batch_lines : Core → List (List ℕ)
  batch_lines core = if has_no_place core then [] else entry_lines (length core.history + 1) (batch_entries src core (committed core))

  -- Lines

  abbrev pub with_line : Standing → Action → Standing
  with_line s action = record { core = taken s.core action; lines = s.lines + 1; is_full = false }

  abbrev pub settled_if : Bool → Standing → Standing
  settled_if due s = if due then settled s else s

  abbrev pub lines_if : Bool → Core → List (List ℕ)
  lines_if due core = if due then batch_lines core else []

  -- a session that has stopped takes no line any more
  abbrev pub step : Standing → Line → Standing
  step s line = if s.is_full then s else settled_if (is_due s.core (action_of src line)) (with_line s (action_of src line))

  abbrev pub reply : Standing → Line → List (List ℕ)
  reply s line =
      if s.is_full
      then []
      else answer s.core (s.lines + 1) (action_of src line) ++ lines_if (is_due s.core (action_of src line)) (taken s.core (action_of src line))

  unfoldable pub after : Standing → List Line → Standing
  after s [] = s
  after s (line ∷ lines) = after (step s line) lines

  unfoldable pub replies : Standing → List Line → List (List ℕ)
  replies s [] = []
  replies s (line ∷ lines) = reply s line ++ replies (step s line) lines

  -- The end

  abbrev pub is_over : Standing → Bool
  is_over s = s.is_full || not (waits s.core)

  -- at the end of the input batches run until nothing waits: each commits a request, so as many batches as requests wait are enough
  unfoldable pub ended : ℕ → Standing → Standing
  ended zero s = s
  ended (suc n) s = if is_over s then s else ended n (settled s)

  unfoldable pub last_replies : ℕ → Standing → List (List ℕ)
  last_replies zero s = []
  last_replies (suc n) s = if is_over s then [] else batch_lines s.core ++ last_replies n (settled s)

  abbrev pub at_end : Standing → Standing
  at_end s = ended (length s.core.pending) s

  abbrev pub end_replies : Standing → List (List ℕ)
  end_replies s = last_replies (length s.core.pending) s

  -- what a session prints of a whole input, from this core on
  abbrev pub all_replies : Core → List ℕ → List (List ℕ)
  all_replies core bytes = replies (begun core) (all_lines bytes) ++ end_replies (after (begun core) (all_lines bytes))

  abbrev pub output_text : Core → List ℕ → List ℕ
  output_text core bytes = joined (all_replies core bytes)

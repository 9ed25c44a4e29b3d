-- What a line of the input comes to where it is answered.
use Rattle.std.specs.Prelude.{◌≡◌, ℕ, ◌+◌, ◌-◌, ◌⊎◌, Bool, true, false, nat_le, List, [], ◌++◌, length, Some, None, Ok, Err, if◌then◌else◌}
use Rattle.std.specs.declared.option.Option.{Option}
use Rattle.std.specs.declared.result.Result.{Result}
use Rattle.std.specs.Io.KnownBytes.{Appends}
use Rattle.sf_outside.specs.Bytes.{AppendsPrefix}
use Rattle.sf_outside.specs.Choices.{Choices}
use Rattle.sf_outside.specs.Gains.{joined}
use Rattle.request_json.specs.Actions.{Line, action_of}
use Rattle.block_step.specs.declared.compiled.Compiled.{Compiled}
use Rattle.operator_graph.specs.Telling.{Told}
use Rattle.operator_graph.specs.Turns.{Outside}
use Rattle.aria_batch.specs.BatchRun.{Batch, batch_of, IsToldAlong}
use Rattle.engine.specs.declared.arrival.Arrival.{Arrival}
use Rattle.engine.specs.declared.arrival.Arrival.TheVariants as arrival
use Rattle.engine.specs.declared.engine.Engine.{Engine}
use Rattle.engine.specs.Cores.{Core}
use Rattle.engine.specs.EngineViews.{core_of}
use Rattle.batch_replies.specs.Vocabulary.{Standing, answer, taken, is_due, batch_lines}
use Rattle.batch_replies.specs.declared.counting.BatchCounts.{BatchCounts}
use Rattle.batch_replies.specs.declared.stops.Stop.{Stop}
use Rattle.batch_replies.specs.declared.stops.Stop.TheVariants.{HistoryFull, NoMemory, DiskFault, WriteFault}
use Rattle.batch_replies.specs.BatchAnswers.{HasPlace, IsFull, core_behind, runs_on, AreCounts}
use Rattle.line_answers.specs.Services.{Service, program_of}

-- before the line with this number, counted from 1
abbrev pub before : Core → ℕ → Standing
before core number = record { core = core; lines = number - 1; is_full = false }

-- a new request that waits now makes a batch due where as many wait as make one
abbrev pub fills_behind : ℕ → Core → Arrival → Bool
fills_behind batch core arrival.New = nat_le batch (length core.pending)
fills_behind batch core other = false

-- a moment of a session: its core, what its output holds, and what was chosen and told
pub record Moment : Type 0 where
  pub core : Core
  pub held : Option (List ℕ)
  pub outside : Outside

abbrev pub moment_of : Engine → Option (List ℕ) → Option Choices → Option (List Told) → Moment
moment_of engine held choices told = record { core = core_of engine; held = held; outside = record { choices = choices; told = told } }

-- what is done next: these lines are written at once, the core is this one then, and a batch of all that wait is due or not
pub record Move : Type 0 where
  pub answer : List (List ℕ)
  pub core : Core
  pub is_due : Bool

-- memory was wanted before anything was written: what was asked waits, or not
pub record IsUntaken (s : Standing) (m : Move) (old new : Moment) : Type 0 where
  pub core : (new.core ≡ s.core) ⊎ (new.core ≡ m.core)
  pub unwritten : new.held ≡ old.held
  pub untold : new.outside ≡ old.outside

-- the batch of a core
abbrev pub batch_on : Compiled → Core → Batch
batch_on compiled core = batch_of compiled core.state core.pending

module _ (v : Service) where
  -- what a line does
  abbrev pub move_at : Standing → Line → Move
  move_at s line = record {
    answer = answer s.core (s.lines + 1) (action_of (program_of v) line);
    core = taken s.core (action_of (program_of v) line);
    is_due = is_due (program_of v) v.rule v.limits s.core (action_of (program_of v) line);
  }

  -- the cores that its batches are run on
  abbrev pub ran_by : Move → List Core
  ran_by m = if m.is_due then runs_on (program_of v) v.rule v.limits m.core else []

  -- what is written of it, with the replies to the batch
  abbrev pub whole_text : Move → List ℕ
  whole_text m = joined (m.answer ++ batch_lines (program_of v) v.rule v.limits m.core)

  -- a batch was run to its end and has these counts: the chooser was asked, and the watch told, of all its events
  pub record RunsBatch (core : Core) (counts : BatchCounts) (old new : Outside) : Type 0 where
    pub counted : AreCounts (program_of v) v.rule v.limits core counts
    pub told : IsToldAlong (batch_on v.compiled core) v.parts (Some counts.events) old new

  -- no batch is due, and all is written
  pub record IsAnswered (m : Move) (old new : Moment) : Type 0 where
    pub undue : m.is_due ≡ false
    pub core : new.core ≡ m.core
    pub wrote : Appends old.held new.held (joined m.answer)
    pub untold : new.outside ≡ old.outside

  -- the batch that is due is run and committed, and all is written
  pub record IsCommitted (m : Move) (counts : BatchCounts) (old new : Moment) : Type 0 where
    pub due : m.is_due ≡ true
    pub place : HasPlace (program_of v) v.rule v.limits m.core
    pub ran : RunsBatch m.core counts old.outside new.outside
    pub core : new.core ≡ core_behind (program_of v) v.rule v.limits m.core
    pub wrote : Appends old.held new.held (whole_text m)

  -- the history has no place for the batch that is due
  pub record FindsFull (m : Move) (old new : Moment) : Type 0 where
    pub due : m.is_due ≡ true
    pub full : IsFull (program_of v) v.rule v.limits m.core
    pub core : new.core ≡ m.core
    pub wrote : Appends old.held new.held (joined m.answer)
    pub untold : new.outside ≡ old.outside

  -- memory was wanted for the batch that is due: nothing is committed, and of its events some first ones were told
  pub record IsUnplanned (m : Move) (old new : Moment) : Type 0 where
    pub due : m.is_due ≡ true
    pub place : HasPlace (program_of v) v.rule v.limits m.core
    pub core : new.core ≡ m.core
    pub wrote : Appends old.held new.held (joined m.answer)
    pub begun : IsToldAlong (batch_on v.compiled m.core) v.parts None old.outside new.outside

  -- the disk failed before the batch that is due was committed, and behind all its events
  pub record IsUnlogged (m : Move) (old new : Moment) : Type 0 where
    pub due : m.is_due ≡ true
    pub place : HasPlace (program_of v) v.rule v.limits m.core
    pub core : new.core ≡ m.core
    pub wrote : Appends old.held new.held (joined m.answer)
    pub events : ℕ
    pub told : IsToldAlong (batch_on v.compiled m.core) v.parts (Some events) old.outside new.outside

  -- what is written at once was written in part
  pub record IsUnanswered (m : Move) (old new : Moment) : Type 0 where
    pub core : new.core ≡ m.core
    pub part : AppendsPrefix old.held new.held (joined m.answer)
    pub untold : new.outside ≡ old.outside

  -- the batch that is due is committed, and its replies were written in part
  pub record IsUnreplied (m : Move) (old new : Moment) : Type 0 where
    pub due : m.is_due ≡ true
    pub place : HasPlace (program_of v) v.rule v.limits m.core
    pub events : ℕ
    pub told : IsToldAlong (batch_on v.compiled m.core) v.parts (Some events) old.outside new.outside
    pub core : new.core ≡ core_behind (program_of v) v.rule v.limits m.core
    pub part : AppendsPrefix old.held new.held (whole_text m)

  -- what was done of it, by the result: the counts are those of the batch that was due
  abbrev pub Moves : Result (Option BatchCounts) Stop → Move → Moment → Moment → Type 0
  Moves (Ok None) m old new = IsAnswered m old new
  Moves (Ok (Some counts)) m old new = IsCommitted m counts old new
  Moves (Err HistoryFull) m old new = FindsFull m old new
  Moves (Err NoMemory) m old new = IsUnplanned m old new
  Moves (Err DiskFault) m old new = IsUnlogged m old new
  Moves (Err WriteFault) m old new = IsUnanswered m old new ⊎ IsUnreplied m old new

  -- a line was answered, or as far as it went
  abbrev pub AnswersLine : Result (Option BatchCounts) Stop → Standing → Line → Moment → Moment → Type 0
  AnswersLine (Ok counts) s line old new = Moves (Ok counts) (move_at s line) old new
  AnswersLine (Err HistoryFull) s line old new = FindsFull (move_at s line) old new
  AnswersLine (Err NoMemory) s line old new = IsUntaken s (move_at s line) old new ⊎ IsUnplanned (move_at s line) old new
  AnswersLine (Err DiskFault) s line old new = IsUnlogged (move_at s line) old new
  AnswersLine (Err WriteFault) s line old new = IsUnanswered (move_at s line) old new ⊎ IsUnreplied (move_at s line) old new

-- where a batch was due and came to this
abbrev pub line_result : Result BatchCounts Stop → Result (Option BatchCounts) Stop
line_result (Ok counts) = Ok (Some counts)
line_result (Err stop) = Err stop

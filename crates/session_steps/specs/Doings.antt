-- What a session has done of its steps: of each in full, or up to the one at which it stopped.
use Rattle.std.specs.Prelude.{◌≡◌, ℕ, ◌⊎◌, Bool, false, true, List, [], ◌∷◌, ◌++◌, length, None, Ok, Err}
use Rattle.std.specs.declared.option.Option.{Option}
use Rattle.std.specs.declared.result.Result.{Result}
use Rattle.std.specs.Io.KnownBytes.{Appends}
use Rattle.sf_outside.specs.Bytes.{AppendsPrefix}
use Rattle.sf_outside.specs.DiskModel.{DiskFacts}
use Rattle.sf_outside.specs.Gains.{joined}
use Rattle.operator_graph.specs.Turns.{Outside}
use Rattle.batch_output.specs.BatchOutput.{Standing}
use Rattle.line_answers.specs.Vocabulary.{IsToldAlong, Core, BatchCounts, Logs, StaysHanded, StoreSettings, Stop}
use Rattle.line_answers.specs.StopVariants.{HistoryFull, NoMemory, DiskFault, WriteFault}
use Rattle.line_answers.specs.Services.{Service, program_of}
use Rattle.line_answers.specs.LineAnswers.{Moment, RunsBatch, Moves, IsUntaken, FindsFull, IsUnplanned, IsUnlogged, IsCommitted, batch_on}
use Rattle.session_steps.specs.declared.tally.Tally.{Tally}
use Rattle.session_steps.specs.Steps.{Step, open_at, move_of, standing_after, printed, ran_on}
use Rattle.session_steps.specs.Flushing.{FlushesBatches}
use Rattle.session_steps.specs.Traces.{with_batch, tally_after, trace_text}

-- where a session is: its core, how many lines came, what its output holds and has handed on, what its trace holds, what was chosen and told, and what is
-- counted of its batches
pub record Point : Type 0 where
  pub core : Core
  pub lines : ℕ
  pub held : Option (List ℕ)
  pub handed : Option (List ℕ)
  pub traced : Option (List ℕ)
  pub outside : Outside
  pub tally : Tally

-- it goes on from there
abbrev pub going : Point → Standing
going p = record { core = p.core; lines = p.lines; is_full = false }

abbrev pub moment : Point → Moment
moment p = record { core = p.core; held = p.held; outside = p.outside }

-- nothing was counted and traced, and what was handed on stays so
pub record IsUncounted (old new : Point) : Type 0 where
  pub tally : new.tally ≡ old.tally
  pub traced : new.traced ≡ old.traced
  pub stays : StaysHanded old.handed new.handed

module _ (v : Service) where
  -- of these steps from this core on, behind so many lines, some may have been done: what is logged behind them, and what each moment since may leave
  abbrev pub LogsSteps : Option StoreSettings → Core → ℕ → List Step → Core → Core → DiskFacts → DiskFacts → Type 0
  LogsSteps settings core lines steps first last old new =
      Logs (program_of v) v.rule settings (ran_on v (open_at core lines) steps) first last old new

  -- batches on these cores were run to their ends, one after another, and have these counts
  abbrev pub RunBatches : List Core → List BatchCounts → Outside → Outside → Type 0
  RunBatches [] [] old new = new ≡ old
  RunBatches [] (counts ∷ more) old new = ⊥
  RunBatches (core ∷ cores) [] old new = ⊥
  RunBatches (core ∷ cores) (counts ∷ more) old new = (between : Outside) × RunsBatch v core counts old between × RunBatches cores more between new

  -- batches on the first of these cores were run to their ends and have these counts, and of the next one perhaps some events were told
  abbrev pub BeginBatches : List Core → List BatchCounts → Outside → Outside → Type 0
  BeginBatches [] [] old new = new ≡ old
  BeginBatches [] (counts ∷ more) old new = ⊥
  BeginBatches (core ∷ cores) [] old new = (new ≡ old) ⊎ IsToldAlong (batch_on v.compiled core) v.parts None old new
  BeginBatches (core ∷ cores) (counts ∷ more) old new =
      (between : Outside) × RunsBatch v core counts old between × BeginBatches cores more between new

module _ (v : Service) (traces : Bool) where
  -- each of these steps was done in full: their lines were printed, their batches were run, counted, and traced where that is asked for, and the output was
  -- flushed behind each
  pub record Does (steps : List Step) (old new : Point) : Type 0 where
    pub stands : standing_after v (going old) steps ≡ going new
    pub wrote : Appends old.held new.held (joined (printed v (going old) steps))
    pub counts : List BatchCounts
    pub ran : RunBatches v (ran_on v (going old) steps) counts old.outside new.outside
    pub tally : new.tally ≡ tally_after old.tally counts
    pub traced : Appends old.traced new.traced (trace_text traces old.tally counts)
    pub flushes : FlushesBatches v steps (going old) (length counts) old.held old.handed new.handed

  -- batches are traced, and one was run, committed, answered and flushed, and its line was written in part
  pub record IsUntraced (step : Step) (old new : Point) : Type 0 where
    pub asked : traces ≡ true
    pub counts : BatchCounts
    pub committed : IsCommitted v (move_of v (going old) step) counts (moment old) (moment new)
    pub tally : new.tally ≡ with_batch old.tally counts
    pub part : AppendsPrefix old.traced new.traced (trace_text traces old.tally (counts ∷ []))
    pub flushes : FlushesBatches v (step ∷ []) (going old) 1 old.held old.handed new.handed

  -- the session stopped at a step
  abbrev pub StopsAt : Stop → Step → Point → Point → Type 0
  StopsAt HistoryFull step old new = FindsFull v (move_of v (going old) step) (moment old) (moment new) × IsUncounted old new
  StopsAt NoMemory step old new =
      (IsUntaken (going old) (move_of v (going old) step) (moment old) (moment new) ⊎ IsUnplanned v (move_of v (going old) step) (moment old) (moment new))
      × IsUncounted old new
  StopsAt DiskFault step old new = IsUnlogged v (move_of v (going old) step) (moment old) (moment new) × IsUncounted old new
  StopsAt WriteFault step old new =
      (Moves v (Err WriteFault) (move_of v (going old) step) (moment old) (moment new) × IsUncounted old new) ⊎ IsUntraced step old new

  -- it did the first of these steps in full, and stopped at the next
  pub record StopsWithin (stop : Stop) (steps : List Step) (old new : Point) : Type 0 where
    pub first : List Step
    pub step : Step
    pub rest : List Step
    pub split : steps ≡ first ++ step ∷ rest
    pub between : Point
    pub did : Does first old between
    pub stopped : StopsAt stop step between new

  -- it did the first of these steps in full, and stopped before the next one
  pub record StopsBetween (steps : List Step) (old new : Point) : Type 0 where
    pub first : List Step
    pub rest : List Step
    pub split : steps ≡ first ++ rest
    pub did : Does first old new

  -- What it came to. Memory may be wanted between two steps too: for more of a line of the input, or behind a batch for a checkpoint, where the disk
  -- may fail as well.
  abbrev pub Comes : {T : Type 0} → Result T Stop → List Step → Point → Point → Type 0
  Comes (Ok value) steps old new = Does steps old new
  Comes (Err HistoryFull) steps old new = StopsWithin HistoryFull steps old new
  Comes (Err NoMemory) steps old new = StopsWithin NoMemory steps old new ⊎ StopsBetween steps old new
  Comes (Err DiskFault) steps old new = StopsWithin DiskFault steps old new ⊎ StopsBetween steps old new
  Comes (Err WriteFault) steps old new = StopsWithin WriteFault steps old new

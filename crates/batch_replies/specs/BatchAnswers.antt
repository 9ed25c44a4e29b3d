-- What a batch that is due comes to where it is run, logged, committed and answered: the core behind it, what the output gained, what is counted,
-- and what is told.
use Rattle.std.specs.Prelude.{◌≡◌, ℕ, ◌+◌, false, true, List, [], ◌∷◌, length, Some, None, Ok, Err, if◌then◌else◌}
use Rattle.std.specs.declared.option.Option.{Option}
use Rattle.std.specs.declared.result.Result.{Result}
use Rattle.std.specs.Io.KnownBytes.{Appends}
use Rattle.sf_value.specs.declared.Outcome.{Outcome}
use Rattle.sf_value.specs.declared.Outcome.TheVariants as outcome
use Rattle.sf_outside.specs.Bytes.{AppendsPrefix}
use Rattle.sf_outside.specs.Gains.{joined}
use Rattle.program_meaning.specs.ClassTables.{Source}
use Rattle.program_meaning.specs.Serial.{outcomes_of}
use Rattle.serial_order.specs.ConflictFree.{Access}
use Rattle.reservations.specs.CommitRules.{Chosen}
use Rattle.operator_graph.specs.Turns.{Outside}
use Rattle.batch_output.specs.Vocabulary.{Batch, IsToldAlong, Engine, Core, core_of, source_of, limit_of, batch_entries, after_batch, accesses_on}
use Rattle.batch_output.specs.BatchOutput.{Limits, committed, has_no_place, batch_lines}
use Rattle.batch_replies.specs.declared.counting.BatchCounts.{BatchCounts}
use Rattle.batch_replies.specs.declared.stops.Stop.{Stop}
use Rattle.batch_replies.specs.declared.stops.Stop.TheVariants.{HistoryFull, NoMemory, DiskFault, WriteFault}

abbrev pub failure_count : List Outcome → ℕ
failure_count [] = 0
failure_count (outcome.Value value ∷ outcomes) = failure_count outcomes
failure_count (outcome.Failed failure ∷ outcomes) = failure_count outcomes + 1

module _ (src : Source) (rule : List Access → Chosen) (limits : Limits) where
  -- the history has a place for all that wait, or not
  abbrev pub HasPlace : Core → Type 0
  HasPlace core = has_no_place src rule limits core ≡ false

  abbrev pub IsFull : Core → Type 0
  IsFull core = has_no_place src rule limits core ≡ true

  -- the core behind the batch that the rule commits, and the text of its reply lines
  abbrev pub core_behind : Core → Core
  core_behind core = after_batch src core (committed src rule limits core)

  -- the core that a batch is run on, where the history has a place for it
  abbrev pub runs_on : Core → List Core
  runs_on core = if has_no_place src rule limits core then [] else core ∷ []

  abbrev pub reply_text : Core → List ℕ
  reply_text core = joined (batch_lines src rule limits core)

  -- how many requests waited, how many of them the rule commits, and how many of these failed
  pub record AreCounts (core : Core) (counts : BatchCounts) : Type 0 where
    pub waited : counts.pending ≡ length core.pending
    pub chosen : counts.committed ≡ length (committed src rule limits core)
    pub failed : counts.failed ≡ failure_count (outcomes_of (batch_entries src core (committed src rule limits core)))

  -- The batch is committed, and all its reply lines are written. Or nothing changes and nothing is written, since the history has no place for it,
  -- for want of memory, or since the disk failed before the commit. Or it is committed, and its reply lines are written in part.
  abbrev pub Answers : Result BatchCounts Stop → Core → Core → Option (List ℕ) → Option (List ℕ) → Type 0
  Answers (Ok counts) old new held held' = HasPlace old × AreCounts old counts × (new ≡ core_behind old) × Appends held held' (reply_text old)
  Answers (Err HistoryFull) old new held held' = IsFull old × (new ≡ old) × (held' ≡ held)
  Answers (Err NoMemory) old new held held' = HasPlace old × (new ≡ old) × (held' ≡ held)
  Answers (Err DiskFault) old new held held' = HasPlace old × (new ≡ old) × (held' ≡ held)
  Answers (Err WriteFault) old new held held' = HasPlace old × (new ≡ core_behind old) × AppendsPrefix held held' (reply_text old)

-- so it is for a batch of an engine; how many requests make a batch is of no account here
abbrev pub AnswersBatch : (List Access → Chosen) → ℕ → Result BatchCounts Stop → Engine → Engine → Option (List ℕ) → Option (List ℕ) → Type 0
AnswersBatch rule size result old new held held' =
    Answers (source_of old) rule (record { batch = size; history = limit_of old }) result (core_of old) (core_of new) held held'

-- the rule commits these of the requests that wait
abbrev pub IsChosenBy : (List Access → Chosen) → Engine → List ℕ → Type 0
IsChosenBy rule e places = places ≡ (rule (accesses_on (source_of e) (core_of e))).committed

-- the chooser was asked, and the watch told, of the events along some picks: of all of them, as many as are counted, where the batch is
-- logged or the disk failed then; and of none where the history has no place for it
abbrev pub TellsBatch : Batch → ℕ → Result BatchCounts Stop → Outside → Outside → Type 0
TellsBatch batch parts (Ok counts) old new = IsToldAlong batch parts (Some counts.events) old new
TellsBatch batch parts (Err HistoryFull) old new = new ≡ old
TellsBatch batch parts (Err NoMemory) old new = IsToldAlong batch parts None old new
TellsBatch batch parts (Err DiskFault) old new = (events : ℕ) × IsToldAlong batch parts (Some events) old new
TellsBatch batch parts (Err WriteFault) old new = (events : ℕ) × IsToldAlong batch parts (Some events) old new

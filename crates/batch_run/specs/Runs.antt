-- What a run has done.
use Rattle.std.specs.Prelude.{◌≡◌, ◌⊎◌, List, ℕ, Err}
use Rattle.std.specs.List.{AllByRecursion}
use Rattle.std.specs.declared.option.Option.{Option}
use Rattle.std.specs.declared.result.Result.{Result}
use Rattle.std.specs.Io.KnownBytes.{Consumes}
use Rattle.sf_outside.specs.DiskModel.{DiskFacts}
use Rattle.block_step.specs.declared.compiled.Compiled.{Compiled}
use Rattle.aria_batch.specs.BatchRun.{source_of}
use Rattle.engine.specs.Cores.{Core, IsSoundCore}
use Rattle.engine.specs.Growth.{GoesOnSerially}
use Rattle.batch_session.specs.Vocabulary.{Tally, Step, Store, StoreSettings, LogsSteps, no_batch, tally_after}
use Rattle.batch_session.specs.InTurn.{IsInTurn}
use Rattle.batch_session.specs.Served.{AreStepsBy, EndsWith}
use Rattle.batch_session.specs.declared.serving.SessionFault.{SessionFault}
use Rattle.batch_session.specs.declared.serving.SessionFault.TheVariants.{NoMemory, WriteFault}
use Rattle.batch_run.specs.RunViews.{Shown, run_service, rule_of}
use Rattle.batch_run.specs.RunTexts.{AnswersInPart, Prints, PrintsOneRun, RepliesAllButOne}
use Rattle.batch_run.specs.RunEvents.{TellsRun, batches_of}
use Rattle.batch_run.specs.GrownCores.{TakesWrites, entries_of}
use Rattle.batch_run.specs.declared.running.RunSettings.{RunSettings}

-- what was printed from a sound core on is one serial run's
pub record IsSerialRun (compiled : Compiled) (s : RunSettings) (start last : Core) (result : Result Tally SessionFault) (old new : Shown) : Type 0 where
  pub prints : PrintsOneRun (source_of compiled) start last old.held new.held
  pub replies : RepliesAllButOne (source_of compiled) start last old.held new.held s (result ≡ Err WriteFault)

-- From this core to that one a run took these bytes of its input, and these are their steps: what it printed is exactly what its result says; whatever the
-- result, it answers what was taken; its events were told; it goes on serially by the entries of the batches that it committed, whose states take
-- what these wrote; and from a sound core on it is a prefix of what one serial run prints.
pub record Ran (compiled : Compiled) (s : RunSettings) (start last : Core) (result : Result Tally SessionFault) (old new : Shown) : Type 0 where
  pub taken : List ℕ
  pub consumed : Consumes old.left new.left taken
  pub ended : Result (Unit {0}) SessionFault
  pub ends : EndsWith result ended
  pub steps : List Step
  pub of_taken : AreStepsBy (run_service compiled s) s.limit ended start taken new.left steps
  pub prints : Prints (source_of compiled) s start new.left old.held new.held taken last result
  pub answers : AnswersInPart (source_of compiled) s start new.left old.held new.held taken
  pub tells : TellsRun compiled s start last steps result old new
  pub goes_on : GoesOnSerially (source_of compiled) start last (entries_of (source_of compiled) (rule_of s) (batches_of compiled s start tells.ended.first))
  pub writes : AllByRecursion (TakesWrites (source_of compiled) (rule_of s)) (batches_of compiled s start steps)
  pub serial : IsSoundCore (source_of compiled) start → IsSerialRun compiled s start last result old new

-- And this was logged of its steps, and may be left in the store by each moment since; and behind the batches that were told the store is where checkpoints in their
-- turn leave it.
pub record RanLogged (compiled : Compiled) (s : RunSettings) (store : Option StoreSettings) (start last : Core) (result : Result Tally SessionFault) (old new : Shown)
    (logged logged' : Core) (facts facts' : DiskFacts) (kept : Option Store) : Type 0 where
  pub ran : Ran compiled s start last result old new
  pub logs : LogsSteps (run_service compiled s) store start 0 ran.steps logged logged' facts facts'
  pub in_turn : IsInTurn s.trace result kept (tally_after no_batch ran.tells.counts).batches

-- memory was wanted before it began
abbrev pub IsUnbegun : Core → Core → Result Tally SessionFault → Shown → Shown → Type 0
IsUnbegun start last result old new = (result ≡ Err NoMemory) × (new ≡ old) × (last ≡ start)

-- or it did, and its output was flushed at the end
abbrev pub Runs : Compiled → RunSettings → Core → Core → Result Tally SessionFault → Shown → Shown → Type 0 → Type 0
Runs compiled s start last result old new IsFlushed = IsUnbegun start last result old new ⊎ (Ran compiled s start last result old new × IsFlushed)

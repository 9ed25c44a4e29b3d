-- A session of a run, as the witness of what the run promises.
use Rattle.std.specs.Prelude.{ℕ, ◌+◌, ◌≡◌, ◌⊎◌, Bool, true, List, [], ◌∷◌, length}
use Rattle.std.specs.declared.option.Option.{Option}
use Rattle.std.specs.Io.KnownBytes.{Consumes}
use Rattle.program_meaning.specs.ClassTables.{Source}
use Rattle.block_step.specs.declared.compiled.Compiled.{Compiled}
use Rattle.aria_batch.specs.BatchRun as batch
use Rattle.entity_compiler.specs.Compiling.{IsCompiledOf}
use Rattle.engine.specs.Cores.{Core}
use Rattle.batch_run.specs.Vocabulary.{begun, Step, EndsAmong, BatchCounts, Service, AreWhole, AreAll, AreFirst}
use Rattle.batch_run.specs.declared.running.RunSettings.{RunSettings}
use Rattle.batch_run.specs.RunViews.{run_service}
use Rattle.batch_run.specs.RunEvents.{batches_of}
use Rattle.command_words.specs.Commands as words
use Rattle.stateflow_cli.specs.Devices.{Devices}
use Rattle.stateflow_cli.specs.Loading.{HoldsOne}
use Rattle.stateflow_cli.specs.Endings.{settings_for}
use Rattle.stateflow_cli.specs.Starts.{IsStart}

-- a status is one of these
abbrev pub IsOneOf : ℕ → List ℕ → Type 0
IsOneOf status [] = ⊥
IsOneOf status (one ∷ more) = (status ≡ one) ⊎ IsOneOf status more

-- so many batches were told of as many as were committed; with the status of a write fault perhaps one less
pub record AreToldBy (status told ran : ℕ) : Type 0 where
  pub all : (status ≡ 4 → ⊥) → told ≡ ran
  pub most : (told ≡ ran) ⊎ (told + 1 ≡ ran)

-- These are the steps of what was taken, by the status. With the first all of the input was taken, and they are those of all lines and of its end; with that of
-- a read fault, and of too long an input, they are those of the whole lines, as far as these were taken; with the others one of the two.
pub record AreStepsFor (v : Service) (limit status : ℕ) (start : Core) (taken : List ℕ) (left : Option (List ℕ)) (steps : List Step) : Type 0 where
  pub all : status ≡ 0 → AreAll v limit start taken left steps
  pub whole : status ≡ 3 → AreWhole v limit taken steps
  pub first : status ≡ 9 → AreFirst v limit taken steps
  pub either : IsOneOf status (5 ∷ 8 ∷ 10 ∷ []) → AreWhole v limit taken steps ⊎ AreAll v limit start taken left steps
  pub any : AreFirst v limit taken steps ⊎ (AreWhole v limit taken steps ⊎ AreAll v limit start taken left steps)

-- The file's text and what it compiles to; the core that the session began with; what it took of the input, and the steps of that; how its batches that were
-- told to their ends were counted; and the core that it left, which is the one behind some first ones of the steps, or has the request of the next line
-- besides; of the batches of these steps all were told. And whether the disk failed.
pub record Session (limit : ℕ) (file : List ℕ) (s : words.RunSettings) (before after : Devices) (status : ℕ) : Type 0 where
  pub one_of : IsOneOf status (0 ∷ 3 ∷ 4 ∷ 5 ∷ 8 ∷ 9 ∷ 10 ∷ [])
  pub compiled : Compiled
  pub holds : HoldsOne (λ text. IsCompiledOf text compiled) (before.content file)
  pub start : Core
  pub is_start : IsStart s before (batch.source_of compiled) holds.text start
  pub taken : List ℕ
  pub consumed : Consumes before.input.left after.input.left taken
  pub steps : List Step
  pub of_taken : AreStepsFor (run_service compiled (settings_for limit s)) limit status start taken after.input.left steps
  pub counts : List BatchCounts
  pub last : Core
  pub reached : EndsAmong (run_service compiled (settings_for limit s)) steps (begun start) last (AreToldBy status (length counts))
  pub failed : Bool
  pub why_failed : failed ≡ true → IsOneOf status (4 ∷ 5 ∷ [])

module _ {limit : ℕ} {file : List ℕ} {s : words.RunSettings} {before after : Devices} {status : ℕ} (it : Session limit file s before after status) where
  abbrev pub source_of : Source
  source_of = batch.source_of it.compiled

  abbrev pub settings_of : RunSettings
  settings_of = settings_for limit s

  -- the cores that its batches run on, and those of the batches that it committed
  abbrev pub batches : List Core
  batches = batches_of it.compiled settings_of it.start it.steps

  abbrev pub committed : List Core
  committed = batches_of it.compiled settings_of it.start it.reached.first

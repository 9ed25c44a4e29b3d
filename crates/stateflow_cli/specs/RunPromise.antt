-- What a call promises that was asked to serve the input by the compiled program, in batches.
use Rattle.std.specs.Prelude.{ℕ, ◌≡◌, ◌⊎◌, List, [], ◌∷◌, Some}
use Rattle.sf_outside.specs.DiskModel.{DiskFacts}
use Rattle.sf_outside.specs.declared.store_disk.StoreFile.{StoreFile}
use Rattle.program_meaning.specs.ClassTables.{Source}
use Rattle.engine.specs.Cores.{Core}
use Rattle.batch_run.specs.RunTexts.{fills_history}
use Rattle.command_words.specs.Commands as words
use Rattle.stateflow_cli.specs.Devices.{Devices, IsIdle}
use Rattle.stateflow_cli.specs.Endings.{settings_for}
use Rattle.stateflow_cli.specs.Starts.{program_of, IsStart}
use Rattle.stateflow_cli.specs.Answers.{TellsStatus, TellsFault}
use Rattle.stateflow_cli.specs.Causes.{HasItsStatus, IsFault, ServedRose, OfText, OfInput, IsToldFor}
use Rattle.stateflow_cli.specs.StoreClauses.{IsBadAt, IsOfAnother, TellsBadStore, DiskFails, IsUnmounted, LeavesUnopened}
use Rattle.stateflow_cli.specs.Session.{IsOneOf, Session}
use Rattle.stateflow_cli.specs.Headline.{Headline}

-- What was found in the folder that is named is bad, or of another program; or it stands for a core, from which on the input is served, as it is without a
-- store from the empty core on.
pub data OfStart (limit : ℕ) (s : words.RunSettings) (before : Devices) (src : Source) (text : List ℕ) (status : ℕ) : Type 0 where
  FindsBad : (dir : List ℕ) (bad : StoreFile) (at : ℕ) → status ≡ 6 → s.store ≡ Some dir → IsBadAt dir before bad at (program_of src text)
      → OfStart limit s before src text status
  FindsAnother : (dir : List ℕ) → status ≡ 7 → s.store ≡ Some dir → IsOfAnother dir before (program_of src text) → OfStart limit s before src text status
  Begins : (start : Core) → IsStart s before src text start → OfInput limit (fills_history src (settings_for limit s) start) before status
      → OfStart limit s before src text status

-- the text of the file has a fault; or what is found in the folder decides, and then the input
abbrev pub RunCause : ℕ → List ℕ → words.RunSettings → Devices → ℕ → Type 0
RunCause limit file s before status = OfText (before.content file) (OfStart limit s before) status

-- No session began: nothing was taken, printed, chosen and told, and the error stream gained the line of the status alone. With 1 a fault of the text of the
-- file was told, and with 6 the place where the store is bad. A store that the words name wasn't mounted; or it was, and is as it was found, or new.
pub record IsUnbegun (file : List ℕ) (s : words.RunSettings) (before after : Devices) (was now : DiskFacts) (status : ℕ) : Type 0 where
  pub one_of : IsOneOf status (1 ∷ 3 ∷ 4 ∷ 5 ∷ 6 ∷ 7 ∷ 8 ∷ [])
  pub idle : IsIdle before after
  pub outside : after.outside ≡ before.outside
  pub line : TellsStatus file before.err after.err status
  pub told : status ≡ 1 → TellsFault file before after
  pub bad : status ≡ 6 → TellsBadStore file s.store before after
  pub store : (dir : List ℕ) → s.store ≡ Some dir → IsUnmounted dir before after was now status ⊎ LeavesUnopened file dir before after now status

pub record RunPromise (limit : ℕ) (file : List ℕ) (s : words.RunSettings) (before after : Devices) (was now : DiskFacts) (status : ℕ) : Type 0 where
  -- no session began, or there is one of which the headline holds
  pub did : IsUnbegun file s before after was now status ⊎ ((it : Session limit file s before after status) × Headline it now)
  -- the status is 0, 1, 6, 7, 9 or 10 exactly where its cause is
  pub causes : HasItsStatus (RunCause limit file s before) (IsToldFor file s.store before)
      (IsFault (ServedRose file before after) (DiskFails limit file s before after now) before after) status

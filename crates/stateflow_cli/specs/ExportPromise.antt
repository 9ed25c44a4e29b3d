-- What a call promises that was asked to export the history of a store.
use Rattle.std.specs.Prelude.{ℕ, ◌≡◌, ◌⊎◌, List, [], ◌∷◌, Some, take}
use Rattle.std.specs.Io.KnownBytes.{Appends}
use Rattle.sf_outside.specs.Bytes.{AppendsPrefix}
use Rattle.sf_outside.specs.DiskModel.{DiskFacts}
use Rattle.sf_outside.specs.Gains.{joined}
use Rattle.sf_outside.specs.Handing.{IsHandedOn}
use Rattle.sf_outside.specs.declared.store_disk.StoreFile.{StoreFile}
use Rattle.program_meaning.specs.ClassTables.{Source}
use Rattle.engine.specs.Cores.{Core}
use Rattle.store_opening.specs.Openings.{LeavesAsFound}
use Rattle.export_laws.specs.Exports.{history_lines}
use Rattle.stateflow_cli.specs.Devices.{Devices}
use Rattle.stateflow_cli.specs.Loading.{Holds, source_in}
use Rattle.stateflow_cli.specs.Starts.{program_of}
use Rattle.stateflow_cli.specs.StoredRuns.{DiskRose}
use Rattle.stateflow_cli.specs.StoreClauses.{IsBadAt, IsOfAnother, TellsBadStore}
use Rattle.stateflow_cli.specs.ExportEnds.{HasCore, HasNone, ReadsStore, LeavesDisk}
use Rattle.stateflow_cli.specs.Answers.{TellsStatus, TellsFault}
use Rattle.stateflow_cli.specs.Causes.{HasItsStatus, IsFault, FileRose, OfText, IsTold}
use Rattle.stateflow_cli.specs.Session.{IsOneOf}

-- the file holds a program, and what was found in the folder stands for this core under it
pub record StandsFor (file dir : List ℕ) (before : Devices) : Type 0 where
  pub holds : Holds (before.content file)
  pub core : Core
  pub is : HasCore dir before (program_of (source_in (before.content file) holds) holds.holds.text) core

-- the lines of its history: for each entry that of its request and that of its reply
abbrev pub lines_of : (file dir : List ℕ) (before : Devices) → StandsFor file dir before → List (List ℕ)
lines_of file dir before s = history_lines (source_in (before.content file) s.holds) s.core.history

-- the output gained all of these lines, and handed them on
pub record WritesAll (file dir : List ℕ) (before after : Devices) : Type 0 where
  pub stands : StandsFor file dir before
  pub wrote : Appends before.out.held after.out.held (joined (lines_of file dir before stands))
  pub handed : IsHandedOn after.out.handed after.out.held

-- or a prefix of their text
pub record WritesFront (file dir : List ℕ) (before after : Devices) : Type 0 where
  pub stands : StandsFor file dir before
  pub front : AppendsPrefix before.out.held after.out.held (joined (lines_of file dir before stands))

-- or the first ones, each whole
pub record WritesFirst (file dir : List ℕ) (before after : Devices) : Type 0 where
  pub stands : StandsFor file dir before
  pub count : ℕ
  pub wrote : Appends before.out.held after.out.held (joined (take count (lines_of file dir before stands)))

-- What was found in the folder is bad, or of another program, or nothing yet, or a store of the program.
pub data OfStore (dir : List ℕ) (before : Devices) (src : Source) (text : List ℕ) (status : ℕ) : Type 0 where
  FindsBad : (bad : StoreFile) (at : ℕ) → status ≡ 6 → IsBadAt dir before bad at (program_of src text) → OfStore dir before src text status
  FindsAnother : status ≡ 7 → IsOfAnother dir before (program_of src text) → OfStore dir before src text status
  FindsNone : status ≡ 11 → HasNone dir before → OfStore dir before src text status
  FindsCore : (core : Core) → status ≡ 0 → HasCore dir before (program_of src text) core → OfStore dir before src text status

-- the program's text is told, and where it has no fault what was found in the folder
pub record AreTold (file dir : List ℕ) (before : Devices) (status : ℕ) : Type 0 where
  pub text : IsTold (before.content file)
  pub found : (status ≡ 1 → ⊥) → IsTold (before.disk.found dir)

pub record ExportPromise (file dir : List ℕ) (before after : Devices) (was now : DiskFacts) (status : ℕ) : Type 0 where
  -- nothing of the input was touched, and nothing was chosen and told
  pub input : after.input ≡ before.input
  pub outside : after.outside ≡ before.outside
  -- the disk is as it was, or the folder was mounted and read: each image since is what was found
  pub store : LeavesDisk dir before.disk after.disk was now ⊎ ReadsStore dir before.disk after.disk was now
  -- with these statuses it was, and a read gives what was found
  pub found : IsOneOf status (0 ∷ 6 ∷ 7 ∷ 11 ∷ []) → ReadsStore dir before.disk after.disk was now × LeavesAsFound (before.disk.found dir) now
  -- with 0 the output gained exactly the lines of the history that the store stands for, and handed them on; with 8 it is as it was, or gained the first ones
  pub all : status ≡ 0 → WritesAll file dir before after
  pub whole : status ≡ 8 → (after.out ≡ before.out) ⊎ WritesFirst file dir before after
  -- whatever the status, it is as it was, or gained a prefix of their text; and with these it is as it was
  pub front : (after.out ≡ before.out) ⊎ WritesFront file dir before after
  pub nothing : IsOneOf status (1 ∷ 3 ∷ 5 ∷ 6 ∷ 7 ∷ 11 ∷ []) → after.out ≡ before.out
  -- with 1 a fault of the program's text was told, with 6 the place where the store is bad, and always the line of the status
  pub told : status ≡ 1 → TellsFault file before after
  pub bad : status ≡ 6 → TellsBadStore file (Some dir) before after
  pub line : TellsStatus file before.err after.err status
  -- the status is 0, 1, 6, 7 or 11 exactly where its cause is
  pub causes : HasItsStatus (OfText (before.content file) (OfStore dir before)) (AreTold file dir before)
      (IsFault (FileRose file before after) (DiskRose dir before.disk after.disk) before after) status

-- How an export of a store's history ends, and what it did to its devices by then.
use Rattle.std.specs.Prelude.{ℕ, ◌≡◌, ◌⊎◌, List, IfSome, Result, Ok, Err, OnOk}
use Rattle.sf_outside.specs.Causes.{Rose}
use Rattle.sf_outside.specs.DiskModel.{DiskFacts}
use Rattle.sf_outside.specs.Gains.{Wrote, Counts}
use Rattle.sf_outside.specs.Handing.{IsHandedOn}
use Rattle.sf_outside.specs.declared.gains.WriteStop.{WriteStop}
use Rattle.sf_outside.specs.declared.gains.WriteStop.TheVariants as of_write
use Rattle.program_text.specs.declared.fault.ProgramFault.{ProgramFault}
use Rattle.snapshot_store.specs.SlotFile.{IsNew}
use Rattle.engine.specs.Cores.{Core}
use Rattle.store_meaning.specs.declared.position.Position.{Position}
use Rattle.store_meaning.specs.StandsFor.{Program, OldStandsFor}
use Rattle.store_opening.specs.Findings.{IsAsFound}
use Rattle.store_opening.specs.Openings.{TellsWhy, LeavesAsFound, StoppedAsFound, IsMounted, IsRefused, MountsFor}
use Rattle.store_opening.specs.declared.finding.FoundStore.{FoundStore}
use Rattle.store_opening.specs.declared.stop.OpenStop.{OpenStop}
use Rattle.store_opening.specs.declared.stop.OpenStop.TheVariants as of_store
use Rattle.batch_run.specs.SessionFaultVariants as of_session
use Rattle.export_laws.specs.Exports.{history_lines}
use Rattle.stateflow_cli.specs.Devices.{Devices, StoreDisk}
use Rattle.stateflow_cli.specs.Loading.{Holds, Refuses, source_in}
use Rattle.stateflow_cli.specs.Starts.{program_of}
use Rattle.stateflow_cli.specs.StoredRuns.{IsUntouched, DiskRose}
use Rattle.stateflow_cli.specs.declared.ending.Ending.{Ending}
use Rattle.stateflow_cli.specs.declared.ending.Ending.TheVariants.{Refused, FileFault, NoMemory, Printed, Unprinted, Stopped, Unopened, Found}
use Rattle.stateflow_cli.specs.declared.ending.Finding.TheVariants as of_found

-- what was found in the folder is a store of the program, which stands for this core
abbrev pub HasCore : List ℕ → Devices → Program → Core → Type 0
HasCore dir before p core = IfSome (before.disk.found dir) (λ image. (position : Position) × OldStandsFor p image core position)

-- nothing was kept in the folder yet
abbrev pub HasNone : List ℕ → Devices → Type 0
HasNone dir before = IfSome (before.disk.found dir) IsNew

-- the folder was mounted, once, and each image that a crash since then may have left is what was found
abbrev pub ReadsStore : List ℕ → StoreDisk → StoreDisk → DiskFacts → DiskFacts → Type 0
ReadsStore dir before after was now = IsMounted dir (IsAsFound (before.found dir)) before.mounts after.mounts was now

-- nothing was asked of the disk, or its mount was refused
abbrev pub LeavesDisk : List ℕ → StoreDisk → StoreDisk → DiskFacts → DiskFacts → Type 0
LeavesDisk dir before after was now = IsUntouched before after was now ⊎ IsRefused dir before.mounts after.mounts before.faults after.faults was now

-- the store can't be looked at: what was found is bad or of another program; or the disk or its mount failed; or memory was wanted
pub record FailsToLook (dir : List ℕ) (p : Program) (before after : StoreDisk) (was now : DiskFacts) (stop : OpenStop) : Type 0 where
  pub answer : IfSome (before.found dir) (TellsWhy stop p)
  pub unchanged : StoppedAsFound stop (before.found dir) now
  pub mounts : MountsFor {T = FoundStore} (Err stop) dir (IsAsFound (before.found dir)) before.mounts after.mounts before.faults after.faults was now
  pub cause : stop ≡ of_store.DiskFault → DiskRose dir before after

-- how the writing of lines ends the call
abbrev pub export_ending : Result (Unit {0}) WriteStop → Ending
export_ending (Ok all) = Printed
export_ending (Err of_write.NoMemory) = Stopped of_session.NoMemory
export_ending (Err of_write.WriteFault) = Unprinted

-- The program's text has a fault, or can't be read, or memory was wanted, and nothing was asked of the disk; or the store can't be looked at, or there is none;
-- or the lines of its history were written, or the first ones of them.
pub data ExportWays (file dir : List ℕ) (before after : Devices) (was now : DiskFacts) (ending : Ending) : Type 0 where
  TurnsDown : (fault : ProgramFault) → ending ≡ Refused fault → Refuses (before.content file) fault → IsUntouched before.disk after.disk was now
      → after.out ≡ before.out → ExportWays file dir before after was now ending
  CannotRead : ending ≡ FileFault → Rose (before.file_faults file) (after.file_faults file) → IsUntouched before.disk after.disk was now
      → after.out ≡ before.out → ExportWays file dir before after was now ending
  WantsMemory : ending ≡ NoMemory → IsUntouched before.disk after.disk was now → after.out ≡ before.out → ExportWays file dir before after was now ending
  CannotLook : (holds : Holds (before.content file)) (stop : OpenStop) → ending ≡ Unopened stop
      → FailsToLook dir (program_of (source_in (before.content file) holds) holds.holds.text) before.disk after.disk was now stop → after.out ≡ before.out
      → ExportWays file dir before after was now ending
  FindsNothing : Holds (before.content file) → ending ≡ Found of_found.NoStore → HasNone dir before → ReadsStore dir before.disk after.disk was now
      → LeavesAsFound (before.disk.found dir) now → after.out ≡ before.out → ExportWays file dir before after was now ending
  Exports : (holds : Holds (before.content file)) (core : Core) (result : Result (Unit {0}) WriteStop) → ending ≡ export_ending result
      → HasCore dir before (program_of (source_in (before.content file) holds) holds.holds.text) core
      → ReadsStore dir before.disk after.disk was now → LeavesAsFound (before.disk.found dir) now
      → Wrote result before.out.held after.out.held (history_lines (source_in (before.content file) holds) core.history)
      → Counts before.out.faults after.out.faults result → OnOk result (IsHandedOn after.out.handed after.out.held)
      → ExportWays file dir before after was now ending

-- it reads nothing of the input, says, chooses and tells nothing
pub record ExportEnds (file dir : List ℕ) (before after : Devices) (was now : DiskFacts) (ending : Ending) : Type 0 where
  pub input : after.input ≡ before.input
  pub err : after.err ≡ before.err
  pub outside : after.outside ≡ before.outside
  pub ways : ExportWays file dir before after was now ending

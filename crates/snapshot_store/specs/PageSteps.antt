-- What it is that bytes were put into a file a page at a time, over a disk.
use Rattle.std.specs.Prelude.{ℕ, ◌≡◌, ◌+◌, ◌-◌, ◌^◌, ◌≤◌, List, ◌++◌, length}
use Rattle.sf_outside.specs.Causes.{Rose}
use Rattle.sf_outside.specs.DiskModel.{DiskFacts, Mounts, LeavesOnly, SeenWritten}
use Rattle.sf_outside.specs.ImageSteps.{ComesBy, OthersStayDurable}
use Rattle.sf_outside.specs.declared.store_disk.StoreFile.{StoreFile}
use Rattle.snapshot_store.specs.SlotSteps.{KeepsFront}

-- the file, the place behind all that was put, and what of it isn't written yet
pub record PageState : Type 0 where
  pub file : StoreFile
  pub at : ℕ
  pub held : List ℕ

-- what isn't written yet goes to places of the file
abbrev pub IsBehind : PageState → Type 0
IsBehind out = length out.held ≤ out.at

-- where it goes
abbrev pub begins : PageState → ℕ
begins out = out.at - length out.held

-- of what was held and of these bytes so many were written there, and the rest is held
pub record Flows (a : PageState) (old : DiskFacts) (b : PageState) (new : DiskFacts) (bytes : List ℕ) : Type 0 where
  pub put : List ℕ
  pub parts : a.held ++ bytes ≡ put ++ b.held
  pub seen : SeenWritten a.file (begins a) put old new

-- up to the last place of a store exactly these bytes were put; and at each moment all that stood before the place where they begin stood there still
pub record Puts (a : PageState) (old : DiskFacts) (b : PageState) (new : DiskFacts) (bytes : List ℕ) : Type 0 where
  pub file : b.file ≡ a.file
  pub up : a.at ≤ b.at
  pub place : a.at + length bytes ≤ 2 ^ 62 → b.at ≡ a.at + length bytes
  pub past : b.at ≤ 2 ^ 62 → a.at + length bytes ≤ 2 ^ 62
  pub behind : IsBehind a → IsBehind b
  pub no_earlier : IsBehind a → begins a ≤ begins b
  pub flows : IsBehind a → b.at ≤ 2 ^ 62 → Flows a old b new bytes
  pub moments : IsBehind a → LeavesOnly old new (ComesBy a.file (KeepsFront (begins a)) old)
  pub others : OthersStayDurable a.file old new

-- some were put, and then the disk failed
pub record Stops (a : PageState) (old new : DiskFacts) : Type 0 where
  pub moments : IsBehind a → LeavesOnly old new (ComesBy a.file (KeepsFront (begins a)) old)
  pub others : OthersStayDurable a.file old new

-- what a disk counts, where no call failed
pub record CountsStay (faults : ℕ) (before : Mounts) (faults_then : ℕ) (now : Mounts) : Type 0 where
  pub later : faults ≤ faults_then
  pub mounts : now ≡ before

-- and where one did
pub record CountsRise (faults : ℕ) (before : Mounts) (faults_then : ℕ) (now : Mounts) : Type 0 where
  pub later : faults ≤ faults_then
  pub rose : Rose faults faults_then
  pub mounts : now ≡ before

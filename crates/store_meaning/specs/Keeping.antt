-- What a disk keeps of a core, whenever it may stop: what a session has to know of its store between two calls.
use Rattle.std.specs.Prelude.{ℕ, ◌≡◌, ◌⊎◌, List, length, Some}
use Rattle.std.specs.List.{slice_get}
use Rattle.sf_outside.specs.DiskModel.{Image, DiskFacts, LeavesOnly}
use Rattle.sf_value.specs.declared.BatchRecord.{BatchRecord}
use Rattle.engine.specs.Cores.{Core}
use Rattle.store_meaning.specs.declared.position.Position.{Position}
use Rattle.engine.specs.Replays.{replayed}
use Rattle.store_meaning.specs.Checkpoints.{IsCheckpointOf, next_of}
use Rattle.store_meaning.specs.LoggedBatches.{CanFollow, behind}
use Rattle.store_meaning.specs.StandsFor.{Program, StandsFor}

-- each image that a crash now may leave stands for the core at the position
pub record KeepsCore (p : Program) (facts : DiskFacts) (core : Core) (position : Position) : Type 0 where
  pub each : (image : Image) → facts.may_leave image → StandsFor p image core position

-- an image stands for the one at its position or for the other at its
abbrev pub StandsForOne : Program → Core → Position → Core → Position → Image → Type 0
StandsForOne p core position next next_position image = StandsFor p image core position ⊎ StandsFor p image next next_position

-- each such image stands for the one or the other, as after a fault
pub record KeepsOne (p : Program) (facts : DiskFacts) (core : Core) (position : Position) (next : Core) (next_position : Position) : Type 0 where
  pub each : (image : Image) → facts.may_leave image → StandsForOne p core position next next_position image

-- each such image stands for some core of some program
abbrev pub KeepsSome : DiskFacts → Position → Type 0
KeepsSome facts position = (p : Program) × (core : Core) × KeepsCore p facts core position

-- ---- one call

-- whatever core was kept, the one behind a batch that can follow it is kept now, behind the record of these bytes
abbrev pub KeepsBatch : DiskFacts → DiskFacts → Position → List ℕ → Type 0
KeepsBatch old new position body = (p : Program) (core : Core) (batch : BatchRecord) → KeepsCore p old core position → CanFollow p core body batch
    → KeepsCore p new (replayed p.source core batch) (behind position body)

-- at each moment since each image stands for that core or for that one
abbrev pub LeavesBatch : DiskFacts → DiskFacts → Position → List ℕ → Type 0
LeavesBatch old new position body = (p : Program) (core : Core) (batch : BatchRecord) → KeepsCore p old core position → CanFollow p core body batch
    → LeavesOnly old new (StandsForOne p core position (replayed p.source core batch) (behind position body))

-- whatever core was kept, a core that a checkpoint of these bytes makes of it is kept now at the start of the next epoch
abbrev pub KeepsCheckpoint : DiskFacts → DiskFacts → Position → List ℕ → List ℕ → Type 0
KeepsCheckpoint old new position more body = (p q : Program) (before core : Core) → KeepsCore p old before position
    → IsCheckpointOf q before position core more body → KeepsCore q new core (next_of position (length more) (length core.history))

-- at each moment since each image stands for the core before, where it did, or for that one there
abbrev pub LeavesCheckpoint : DiskFacts → DiskFacts → Position → List ℕ → List ℕ → Type 0
LeavesCheckpoint old new position more body = (p q : Program) (before core : Core) → KeepsCore p old before position
    → IsCheckpointOf q before position core more body
    → LeavesOnly old new (λ image. StandsFor p image before position ⊎ StandsFor q image core (next_of position (length more) (length core.history)))

-- ---- many calls

-- an image stands for one of these cores, wherever it is
pub record StandsForSome (p : Program) (cores : List Core) (image : Image) : Type 0 where
  pub number : ℕ
  pub core : Core
  pub among : slice_get cores number ≡ Some core
  pub position : Position
  pub stands : StandsFor p image core position

-- each image that a crash since this moment may have left stands for one of these cores
pub record KeptSince (p : Program) (since : ℕ) (facts : DiskFacts) (cores : List Core) : Type 0 where
  pub each : (image : Image) → facts.left_since since image → StandsForSome p cores image

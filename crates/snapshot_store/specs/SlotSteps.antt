-- What each call makes of a slot, of a log and of the history, and what a crash meanwhile leaves.
use Rattle.std.specs.Prelude.{ℕ, ◌≡◌, ◌≢◌, ◌⊎◌, ◌≤◌, List, [], ◌∷◌, length, take, drop, min}
use Rattle.sf_bytes.specs.Gates.{StandsAt, ClosedAt, OpenAt}
use Rattle.sf_bytes.specs.Heads.{IsHead}
use Rattle.sf_outside.specs.DiskModel.{Image, DiskFacts, of_file}
use Rattle.sf_outside.specs.declared.store_disk.StoreFile.{StoreFile}
use Rattle.sf_outside.specs.declared.store_disk.StoreFile.TheVariants.{Hist}
use Rattle.sf_value.specs.declared.heads.Head.{Head}
use Rattle.snapshot_store.specs.SlotFile.{slot_of, log_of, number_of, IsClosedSlot, behind_gate, slot_bytes, HoldsAt, IsNewest, IsNew}

-- ---- one file

-- another gate at most, or a gate where there was no byte
pub record GateChanges (before now : List ℕ) : Type 0 where
  pub behind : drop 1 now ≡ drop 1 before
  pub no_shorter : length before ≤ length now

-- that, and the slot is as it was, or closed
pub record StaysOrCloses (before now : List ℕ) : Type 0 where
  pub gate : GateChanges before now
  pub slot : (now ≡ before) ⊎ IsClosedSlot now

-- that, and a closed gate is there
pub record Closes (before now : List ℕ) : Type 0 where
  pub gate : GateChanges before now
  pub closed : ClosedAt now 0

-- that, and an open one is
pub record Opens (before now : List ℕ) : Type 0 where
  pub gate : GateChanges before now
  pub opened : OpenAt now 0

-- a gate that was there is there still
abbrev pub KeepsGate : List ℕ → List ℕ → Type 0
KeepsGate before now = (gate : ℕ) → StandsAt before 0 (gate ∷ []) → StandsAt now 0 (gate ∷ [])

-- that, and the epoch, the length and the body stand behind it
pub record Fills (epoch : ℕ) (body before now : List ℕ) : Type 0 where
  pub gate : KeepsGate before now
  pub behind : StandsAt now 1 (behind_gate epoch body)

-- all that stood before this place stands there still
pub record KeepsFront (at : ℕ) (before now : List ℕ) : Type 0 where
  pub front : take (min at (length before)) now ≡ take (min at (length before)) before
  pub no_shorter : length before ≤ length now

-- that, and these bytes stand behind it
pub record AddsBehind (at : ℕ) (more before now : List ℕ) : Type 0 where
  pub front : KeepsFront at before now
  pub stands : StandsAt now at more

-- ---- a whole checkpoint

-- the slot of the epoch is open with it and with the body, its log begins with a closed gate, and the history has what was to be added
pub record IsCheckpoint (epoch at : ℕ) (more body : List ℕ) (image : Image) : Type 0 where
  pub slot : StandsAt (of_file (slot_of epoch) image) 0 (slot_bytes epoch body)
  pub holds : (head : Head) → IsHead body head → HoldsAt (number_of epoch) (of_file (slot_of epoch) image) epoch head
  pub log : ClosedAt (of_file (log_of epoch) image) 0
  pub history : StandsAt image.hist at more

-- the slot and the log of the epoch are as they were
pub record StaysAt (epoch : ℕ) (before now : Image) : Type 0 where
  pub slot : of_file (slot_of epoch) now ≡ of_file (slot_of epoch) before
  pub log : of_file (log_of epoch) now ≡ of_file (log_of epoch) before

-- they are as they were; or the slot is closed; or the checkpoint is there
abbrev pub CheckpointStep : ℕ → ℕ → List ℕ → List ℕ → Image → Image → Type 0
CheckpointStep epoch at more body before now = StaysAt epoch before now ⊎ (IsClosedSlot (of_file (slot_of epoch) now) ⊎ IsCheckpoint epoch at more body now)

-- the checkpoint is there
abbrev pub CheckpointDone : ℕ → ℕ → List ℕ → List ℕ → Image → Image → Type 0
CheckpointDone epoch at more body before now = IsCheckpoint epoch at more body now

-- an image that comes from an earlier one by such a step. The history has all that it had before this place, and each other file but the
-- slot and the log of the epoch is the same
pub record ComesBeside (epoch at : ℕ) (Step : Image → Image → Type 0) (old : DiskFacts) (image : Image) : Type 0 where
  pub before : Image
  pub left : old.may_leave before
  pub step : Step before image
  pub history : KeepsFront at before.hist image.hist
  pub others : (file : StoreFile) → file ≢ slot_of epoch → file ≢ log_of epoch → file ≢ Hist → of_file file image ≡ of_file file before

-- what was new is new still, and what was the newest head is so still, with the same log and all that it names of the history
pub record KeepsNewest (before now : Image) : Type 0 where
  pub is_new : IsNew before → IsNew now
  pub newest : (epoch : ℕ) (head : Head) → IsNewest before epoch head → IsNewest now epoch head
  pub log : (epoch : ℕ) (head : Head) → IsNewest before epoch head → of_file (log_of epoch) now ≡ of_file (log_of epoch) before
  pub history : (epoch : ℕ) (head : Head) → IsNewest before epoch head → KeepsFront head.bytes before.hist now.hist

-- an image that comes from an earlier one whose newest it has still
abbrev pub ComesKeeping : DiskFacts → Image → Type 0
ComesKeeping old image = (before : Image) × old.may_leave before × KeepsNewest before image

-- the head of this body is the newest, its log begins with a closed gate, and the history has what was to be added
pub record IsKept (epoch at : ℕ) (more body : List ℕ) (image : Image) : Type 0 where
  pub newest : (head : Head) → IsHead body head → IsNewest image epoch head
  pub log : ClosedAt (of_file (log_of epoch) image) 0
  pub history : StandsAt image.hist at more

-- an image that comes from an earlier one whose newest it has still, or has the new head behind the history of the earlier one
abbrev pub KeepsOrIsKept : ℕ → ℕ → List ℕ → List ℕ → DiskFacts → Image → Type 0
KeepsOrIsKept epoch at more body old image =
    (before : Image) × old.may_leave before × (KeepsNewest before image ⊎ (IsKept epoch at more body image × KeepsFront at before.hist image.hist))

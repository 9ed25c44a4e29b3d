-- That the files of a disk are one store at most.
use Rattle.std.specs.Prelude.{ℕ, ◌≡◌, List}
use Rattle.sf_outside.specs.DiskModel.{Image}
use Rattle.sf_outside.specs.declared.store_disk.StoreFile.{StoreFile}
use Rattle.sf_value.specs.declared.Snapshot.{Snapshot}
use Rattle.snapshot_store.specs.SlotFile.{IsNew}
use Rattle.recovery.specs.declared.opened.Placed.{Placed}
use Rattle.recovery.specs.StoreImage.{IsOld, IsBad}

-- ---- of one kind

abbrev pub NewIsNotOld : Type 0
NewIsNotOld = (image : Image) (epoch : ℕ) (kept : Snapshot) (bytes : ℕ) (batches : List Placed) (at : ℕ) → IsNew image → IsOld image epoch kept bytes batches at → ⊥

abbrev pub NewIsNotBad : Type 0
NewIsNotBad = (image : Image) (file : StoreFile) (at : ℕ) → IsNew image → IsBad image file at → ⊥

abbrev pub OldIsNotBad : Type 0
OldIsNotBad = (image : Image) (epoch : ℕ) (kept : Snapshot) (bytes : ℕ) (batches : List Placed) (at : ℕ) (file : StoreFile) (place : ℕ) → IsOld image epoch kept bytes batches at → IsBad image file place → ⊥

-- ---- with one content

-- the parts of two old stores are the same
pub record SameStore (e f : ℕ) (kept other : Snapshot) (m n : ℕ) (batches others : List Placed) (at place : ℕ) : Type 0 where
  pub epoch : e ≡ f
  pub snapshot : kept ≡ other
  pub bytes : m ≡ n
  pub log : batches ≡ others
  pub gate : at ≡ place

abbrev pub OldIsOne : Type 0
OldIsOne = (image : Image) (e f : ℕ) (kept other : Snapshot) (m n : ℕ) (batches others : List Placed) (at place : ℕ)
    → IsOld image e kept m batches at → IsOld image f other n others place → SameStore e f kept other m n batches others at place

abbrev pub BadIsOne : Type 0
BadIsOne = (image : Image) (file other : StoreFile) (at place : ℕ) → IsBad image file at → IsBad image other place → (file ≡ other) × (at ≡ place)

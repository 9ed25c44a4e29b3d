-- What the files of a store are together: new, as the slots say alone; or bad at a place of a file; or old, with a
-- snapshot, whose history stands in a file of its own, and the batches of its log.
use Rattle.std.specs.Prelude.{ℕ, ◌≡◌, ◌⊎◌, List, [], ◌∷◌, length, map}
use Rattle.sf_bytes.specs.Entries.{HistoryIs, HistoryBreaks}
use Rattle.sf_bytes.specs.Gates.{ClosedAt}
use Rattle.sf_outside.specs.DiskModel.{Image, of_file}
use Rattle.sf_outside.specs.declared.store_disk.StoreFile.{StoreFile}
use Rattle.sf_outside.specs.declared.store_disk.StoreFile.TheVariants.{Hist}
use Rattle.sf_value.specs.Heads.{snapshot_of}
use Rattle.sf_value.specs.declared.BatchRecord.{BatchRecord}
use Rattle.sf_value.specs.declared.Snapshot.{Snapshot}
use Rattle.sf_value.specs.declared.heads.Head.{Head}
use Rattle.request_log.specs.LogFile.{gate_behind, IsBatch, RecordAt, IsBadAt}
use Rattle.snapshot_store.specs.SlotFile.{slot_file, log_of, IsNewest, IsFirstBad}
use Rattle.recovery.specs.declared.opened.Placed.{Placed}

-- ---- batches with places

abbrev pub batches_of : List Placed → List BatchRecord
batches_of batches = map (λ placed. placed.batch) batches

-- the first is at this place, each other where the gate behind a spelling of the one before it is, and the gate behind
-- the last is at the last place
abbrev pub ArePlaced : ℕ → List Placed → ℕ → Type 0
ArePlaced at [] end = at ≡ end
ArePlaced at (placed ∷ batches) end = (body : List ℕ) × (placed.at ≡ at) × IsBatch body placed.batch × ArePlaced (gate_behind at (length body)) batches end

-- ---- logs

-- from this place on there are records of these batches at their places, and the gate behind them belongs at the last place
abbrev pub RecordsTo : List ℕ → ℕ → List Placed → ℕ → Type 0
RecordsTo file at [] end = at ≡ end
RecordsTo file at (placed ∷ batches) end = (next : ℕ) × (placed.at ≡ at) × RecordAt file at placed.batch next × RecordsTo file next batches end

-- there are records of these batches at their places, and behind them the first closed gate is at the last place
pub record EndsAt (file : List ℕ) (batches : List Placed) (at : ℕ) : Type 0 where
  pub records : RecordsTo file 0 batches at
  pub closed : ClosedAt file at

-- there are records up to this place, and no gate is there or no record behind an open one
abbrev pub BreaksAt : List ℕ → ℕ → Type 0
BreaksAt file at = (batches : List Placed) × RecordsTo file 0 batches at × IsBadAt file at

-- ---- the whole

-- the newest head, with the entries that it names in so many bytes of the history, is this snapshot
pub record KeepsSnapshot (image : Image) (epoch : ℕ) (kept : Snapshot) (bytes : ℕ) : Type 0 where
  pub head : Head
  pub newest : IsNewest image epoch head
  pub named : bytes ≡ head.bytes
  pub history : HistoryIs image.hist head.kept head.bytes kept.history
  pub whole : kept ≡ snapshot_of head kept.history

-- the epoch and the snapshot are the newest, and its log has these batches at their places up to the closed gate at the
-- last place
pub record IsOld (image : Image) (epoch : ℕ) (kept : Snapshot) (bytes : ℕ) (batches : List Placed) (at : ℕ) : Type 0 where
  pub newest : KeepsSnapshot image epoch kept bytes
  pub log : EndsAt (of_file (log_of epoch) image) batches at

-- this is the first bad slot, and the place is its start
pub record HasBadSlot (image : Image) (file : StoreFile) (at : ℕ) : Type 0 where
  pub slot : ℕ
  pub first : IsFirstBad image slot
  pub same_file : file ≡ slot_file slot
  pub start : at ≡ 0

-- no slot is bad, and this is the place of the history where what the newest head names of it breaks
pub record HasBadHistory (image : Image) (file : StoreFile) (at : ℕ) : Type 0 where
  pub epoch : ℕ
  pub head : Head
  pub newest : IsNewest image epoch head
  pub same_file : file ≡ Hist
  pub breaks : HistoryBreaks image.hist head.kept head.bytes at

-- neither is bad, and this is the log of the newest snapshot and the place where it goes bad
pub record HasBadLog (image : Image) (file : StoreFile) (at : ℕ) : Type 0 where
  pub epoch : ℕ
  pub kept : Snapshot
  pub bytes : ℕ
  pub newest : KeepsSnapshot image epoch kept bytes
  pub same_file : file ≡ log_of epoch
  pub breaks : BreaksAt (of_file file image) at

-- one of the three
abbrev pub IsBad : Image → StoreFile → ℕ → Type 0
IsBad image file at = HasBadSlot image file at ⊎ (HasBadHistory image file at ⊎ HasBadLog image file at)

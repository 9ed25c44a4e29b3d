-- What the files of a store come to by one record more in the log, and by one checkpoint more.
use Rattle.std.specs.Prelude.{ℕ, ◌≡◌, ◌+◌, List, [], ◌∷◌, ◌++◌, length}
use Rattle.sf_bytes.specs.Entries.{EntriesTo, HistoryIs}
use Rattle.sf_bytes.specs.Heads.{IsHead}
use Rattle.sf_outside.specs.DiskModel.{Image, of_file, with_file}
use Rattle.sf_value.specs.Heads.{snapshot_of}
use Rattle.sf_value.specs.declared.BatchRecord.{BatchRecord}
use Rattle.sf_value.specs.declared.Entry.{Entry}
use Rattle.sf_value.specs.declared.Snapshot.{Snapshot}
use Rattle.sf_value.specs.declared.heads.Head.{Head}
use Rattle.request_log.specs.Appends.{StaysClosed, HasRecord}
use Rattle.request_log.specs.LogFile.{gate_behind, IsBatch, LogFrom}
use Rattle.snapshot_store.specs.SlotFile.{log_of}
use Rattle.snapshot_store.specs.SlotSteps.{KeepsFront, KeepsNewest, IsKept}
use Rattle.recovery.specs.declared.opened.Placed.{Placed}
use Rattle.recovery.specs.StoreImage.{batches_of, KeepsSnapshot, IsOld}

-- ---- without places

-- the epoch and the snapshot are the newest, and its log has these batches up to the closed gate at the last place
pub record HoldsBatches (image : Image) (epoch : ℕ) (kept : Snapshot) (bytes : ℕ) (batches : List BatchRecord) (at : ℕ) : Type 0 where
  pub newest : KeepsSnapshot image epoch kept bytes
  pub log : LogFrom (of_file (log_of epoch) image) 0 batches at

abbrev pub OldHoldsBatches : Type 0
OldHoldsBatches = (image : Image) (epoch : ℕ) (kept : Snapshot) (bytes : ℕ) (batches : List Placed) (at : ℕ)
    → IsOld image epoch kept bytes batches at → HoldsBatches image epoch kept bytes (batches_of batches) at

abbrev pub BatchesHavePlaces : Type 0
BatchesHavePlaces = (image : Image) (epoch : ℕ) (kept : Snapshot) (bytes : ℕ) (batches : List BatchRecord) (at : ℕ)
    → HoldsBatches image epoch kept bytes batches at → (placed : List Placed) × (batches_of placed ≡ batches) × IsOld image epoch kept bytes placed at

-- ---- one record more

-- a step of the log of this epoch, each other file being the same
pub record LogSteps (epoch : ℕ) (Step : List ℕ → List ℕ → Type 0) (before now : Image) : Type 0 where
  pub step : Step (of_file (log_of epoch) before) (of_file (log_of epoch) now)
  pub others : now ≡ with_file (log_of epoch) (of_file (log_of epoch) now) before

abbrev pub RecordAddsBatch : Type 0
RecordAddsBatch = (before now : Image) (epoch : ℕ) (kept : Snapshot) (bytes : ℕ) (batches : List BatchRecord) (at : ℕ) (body : List ℕ) (batch : BatchRecord)
    → HoldsBatches before epoch kept bytes batches at → IsBatch body batch → LogSteps epoch (HasRecord at body) before now
    → HoldsBatches now epoch kept bytes (batches ++ batch ∷ []) (gate_behind at (length body))

abbrev pub ClosedGateAddsNone : Type 0
ClosedGateAddsNone = (before now : Image) (epoch : ℕ) (kept : Snapshot) (bytes : ℕ) (batches : List BatchRecord) (at : ℕ)
    → HoldsBatches before epoch kept bytes batches at → LogSteps epoch (StaysClosed at) before now → HoldsBatches now epoch kept bytes batches at

-- ---- one checkpoint more

-- a head names these entries, which an earlier image had in its history up to this place, and behind them those that were to be added
pub record AddsTo (before now : Image) (at : ℕ) (more : List ℕ) (entries added : List Entry) (head : Head) : Type 0 where
  pub had : HistoryIs before.hist (length entries) at entries
  pub front : KeepsFront at before.hist now.hist
  pub spells : EntriesTo more 0 added (length more)
  pub kept : head.kept ≡ length entries + length added
  pub bytes : head.bytes ≡ at + length more

abbrev pub CheckpointBegins : Type 0
CheckpointBegins = (before now : Image) (epoch at : ℕ) (more body : List ℕ) (entries added : List Entry) (head : Head)
    → IsHead body head → IsKept epoch at more body now → AddsTo before now at more entries added head
    → HoldsBatches now epoch (snapshot_of head (entries ++ added)) (at + length more) [] 0

abbrev pub CheckpointKeeps : Type 0
CheckpointKeeps = (before now : Image) (epoch : ℕ) (kept : Snapshot) (bytes : ℕ) (batches : List BatchRecord) (at : ℕ)
    → HoldsBatches before epoch kept bytes batches at → KeepsNewest before now → HoldsBatches now epoch kept bytes batches at

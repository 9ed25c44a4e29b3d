-- What the files of a store come to by a step of the log, and by a checkpoint.
use Rattle.std.proofs.Common.{◌≡◌, ◌≢◌, inr, ℕ, ◌+◌, List, ◌++◌, length, min, refl, sym, ap, ◌∙◌, subst, arith}
use Rattle.sf_bytes.specs.Entries.{HistoryIs}
use Rattle.sf_bytes.proofs.Histories.{run_reach, history_stays, history_grows}
use Rattle.sf_outside.specs.DiskModel.{Image, of_file}
use Rattle.sf_outside.specs.declared.store_disk.StoreFile.{StoreFile}
use Rattle.sf_outside.specs.declared.store_disk.StoreFile.TheVariants.{Hist}
use Rattle.sf_outside.proofs.DiskLaws.{of_file-other}
use Rattle.sf_value.specs.declared.Entry.{Entry}
use Rattle.sf_value.specs.declared.Snapshot.{Snapshot}
use Rattle.sf_value.specs.declared.heads.Head.{Head}
use Rattle.request_log.specs.LogFile.{LogFrom}
use Rattle.snapshot_store.specs.SlotFile.{number_of, slot_of, log_of, HoldsAt, IsOlder, IsNewest, IsNew, IsNext, NamesWithin}
use Rattle.snapshot_store.specs.SlotSteps.{KeepsFront}
use Rattle.snapshot_store.proofs.Epochs.{slot_differs, other_slot-log, history-log}
use Rattle.snapshot_store.proofs.OneNewest.{one_newest, newest_not_new}
use Rattle.recovery.specs.StoreImage.{KeepsSnapshot}
use Rattle.recovery.specs.StoreSteps.{OldHoldsBatches, BatchesHavePlaces, LogSteps, RecordAddsBatch, ClosedGateAddsNone, CheckpointBegins, CheckpointKeeps}
use Rattle.recovery.proofs.Logs.{plain_log, placed_log}

-- ---- places

pub old_holds : OldHoldsBatches
old_holds image epoch kept bytes batches at old = record { newest = old.newest; log = plain_log (of_file (log_of epoch) image) 0 batches at old.log.records old.log.closed }

pub have_places : BatchesHavePlaces
have_places image epoch kept bytes batches at held =
    let there = placed_log (of_file (log_of epoch) image) 0 batches at held.log in
    (there.placed, there.same, record { newest = held.newest; log = record { records = there.records; closed = there.closed } })

-- ---- histories

-- what stood before a place that the history reached stands there still
pub history_kept : (before now : List ℕ) (kept bytes : ℕ) (entries : List Entry) → KeepsFront bytes before now → HistoryIs before kept bytes entries → HistoryIs now kept bytes entries
history_kept before now kept bytes entries keeps is =
    let reach = run_reach before 0 entries bytes (omega arith) is.stand in
    history_stays before now kept bytes (min bytes (length before)) entries is (omega (arith, reach)) keeps.front

-- ---- steps of the log

-- they touch no slot, and no history
module _ (before now : Image) (epoch : ℕ) (Step : List ℕ → List ℕ → Type 0) (steps : LogSteps epoch Step before now) where
  same : (file : StoreFile) → file ≢ log_of epoch → of_file file now ≡ of_file file before
  same file differs = ap (of_file file) steps.others ∙ of_file-other (log_of epoch) file (of_file (log_of epoch) now) before differs

  newest_still : (head : Head) → IsNewest before epoch head → IsNewest now epoch head
  newest_still head was = record {
    here = subst (λ file. HoldsAt (number_of epoch) file epoch head) (sym (same (slot_of epoch) (slot_differs epoch))) was.here;
    other = subst (IsOlder epoch (number_of (epoch + 1))) (sym (same (slot_of (epoch + 1)) (other_slot-log epoch))) was.other;
  }

  snapshot_still : (kept : Snapshot) (bytes : ℕ) → KeepsSnapshot before epoch kept bytes → KeepsSnapshot now epoch kept bytes
  snapshot_still kept bytes was = record {
    head = was.head;
    newest = newest_still was.head was.newest;
    named = was.named;
    history = subst (λ file. HistoryIs file was.head.kept was.head.bytes kept.history) (sym (same Hist (history-log epoch))) was.history;
    whole = was.whole;
  }

pub record_adds : RecordAddsBatch
record_adds before now epoch kept bytes batches at body batch held is steps = record {
  newest = snapshot_still before now epoch _ steps kept bytes held.newest;
  log = steps.step.log batches batch held.log is;
}

pub gate_adds_none : ClosedGateAddsNone
gate_adds_none before now epoch kept bytes batches at held steps = record {
  newest = snapshot_still before now epoch _ steps kept bytes held.newest;
  log = steps.step.log batches held.log;
}

-- ---- checkpoints

pub checkpoint_begins : CheckpointBegins
checkpoint_begins before now epoch at more body entries added head is done adds =
    let stays = history_kept before.hist now.hist (length entries) at entries adds.front adds.had in
    let grown = history_grows now.hist more (length entries) at entries added stays done.history adds.spells in
    let counted = subst (λ kept. HistoryIs now.hist kept (at + length more) (entries ++ added)) (sym adds.kept) grown in
    record {
      newest = record {
        head = head;
        newest = done.newest head is;
        named = sym adds.bytes;
        history = subst (λ bytes. HistoryIs now.hist head.kept bytes (entries ++ added)) (sym adds.bytes) counted;
        whole = refl;
      };
      log = (refl, done.log);
    }

pub checkpoint_keeps : CheckpointKeeps
checkpoint_keeps before now epoch kept bytes batches at held keeps =
    let was = held.newest in
    record {
      newest = record {
        head = was.head;
        newest = keeps.newest epoch was.head was.newest;
        named = was.named;
        history = history_kept before.hist now.hist was.head.kept was.head.bytes kept.history (keeps.history epoch was.head was.newest) was.history;
        whole = was.whole;
      };
      log = subst (λ file. LogFrom file 0 batches at) (sym (keeps.log epoch was.head was.newest)) held.log;
    }

-- ---- what a checkpoint needs of an image

-- behind a snapshot
pub snapshot_names : (image : Image) (epoch : ℕ) (kept : Snapshot) (bytes : ℕ) → KeepsSnapshot image epoch kept bytes → NamesWithin bytes image
snapshot_names image epoch kept bytes keeps other head newest =
    let same = (one_newest image other epoch head keeps.head newest keeps.newest).1 in
    omega (arith, keeps.named, ap (λ (h : Head). h.bytes) same)

pub snapshot_next : (image : Image) (epoch : ℕ) (kept : Snapshot) (bytes : ℕ) → KeepsSnapshot image epoch kept bytes → IsNext (epoch + 1) image
snapshot_next image epoch kept bytes keeps = inr (epoch, keeps.head, keeps.newest, refl)

-- and where there is none
pub new_names : (image : Image) (at : ℕ) → IsNew image → NamesWithin at image
new_names image at is_new epoch head newest = absurd (newest_not_new image epoch head newest is_new)

-- the entries of a snapshot stand up to the bytes that are named
pub snapshot_had : (image : Image) (epoch : ℕ) (kept : Snapshot) (bytes : ℕ) → KeepsSnapshot image epoch kept bytes → HistoryIs image.hist (length kept.history) bytes kept.history
snapshot_had image epoch kept bytes keeps =
    let counted = subst (λ n. HistoryIs image.hist n keeps.head.bytes kept.history) (sym keeps.history.count) keeps.history in
    subst (λ n. HistoryIs image.hist (length kept.history) n kept.history) (sym keeps.named) counted

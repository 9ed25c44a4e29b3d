-- An image is one store: new, or old with one content, or bad at one place.
use Rattle.std.proofs.Common.{◌≡◌, inl, inr, ℕ, zero, suc, ◌+◌, ◌<◌, List, refl, sym, ap, ◌∙◌, subst, arith}
use Rattle.std.proofs.lemmas.Bool.{cases_eq}
use Rattle.sf_bytes.specs.Entries.{HistoryIs, HistoryBreaks}
use Rattle.sf_bytes.proofs.Histories.{history_is_one, history_is_whole, break_is_one}
use Rattle.sf_outside.specs.DiskModel.{Image, of_file}
use Rattle.sf_outside.specs.declared.store_disk.StoreFile.{StoreFile}
use Rattle.sf_value.specs.Heads.{snapshot_of}
use Rattle.sf_value.specs.declared.Snapshot.{Snapshot}
use Rattle.sf_value.specs.declared.heads.Head.{Head}
use Rattle.snapshot_store.specs.SlotFile.{number_of, slot_file, log_of, IsBadSlot, IsGoodSlot, IsOlder, IsNewest, IsNew, IsFirstBad}
use Rattle.snapshot_store.proofs.OneNewest.{not_both, one_newest, newest_not_new}
use Rattle.recovery.specs.StoreImage.{EndsAt, BreaksAt, KeepsSnapshot, HasBadHistory}
use Rattle.recovery.specs.OneStore.{NewIsNotOld, NewIsNotBad, OldIsNotBad, OldIsOne, BadIsOne}
use Rattle.recovery.proofs.OneLog.{one_log, one_break, log_not_broken}

-- ---- slots

good_not_bad : (number : ℕ) (file : List ℕ) → IsGoodSlot number file → IsBadSlot number file → ⊥
good_not_bad number file (inl closed) bad = not_both file bad.0 closed
good_not_bad number file (inr holds) bad = bad.1 holds.0 holds.1 holds.2

older_good : (epoch number : ℕ) (file : List ℕ) → IsOlder epoch number file → IsGoodSlot number file
older_good epoch number file (inl closed) = inl closed
older_good epoch number file (inr older) = inr (older.0, older.1, older.3)

-- where there is a newest head both slots are good
newest_good : (image : Image) (epoch : ℕ) (head : Head) → IsNewest image epoch head → (number : ℕ) → number < 2 → IsGoodSlot number (of_file (slot_file number) image)
newest_good image epoch head newest number one_of = elim (cases_eq (number_of epoch) number) [
  | inl same ↦ subst (λ n. IsGoodSlot n (of_file (slot_file n) image)) same (inr (epoch, head, newest.here))
  | inr not ↦
      let other : number_of (epoch + 1) ≡ number = omega (arith, not, one_of) in
      subst (λ n. IsGoodSlot n (of_file (slot_file n) image)) other (older_good epoch (number_of (epoch + 1)) (of_file (slot_file (number_of (epoch + 1))) image) newest.other)
]

newest_none_bad : (image : Image) (epoch : ℕ) (head : Head) → IsNewest image epoch head → (slot : ℕ) → IsFirstBad image slot → ⊥
newest_none_bad image epoch head newest zero bad = good_not_bad 0 image.snap0 (newest_good image epoch head newest 0 (omega arith)) bad
newest_none_bad image epoch head newest (suc n) bad = good_not_bad 1 image.snap1 (newest_good image epoch head newest 1 (omega arith)) bad.2

new_none_bad : (image : Image) → IsNew image → (slot : ℕ) → IsFirstBad image slot → ⊥
new_none_bad image is_new zero bad = not_both image.snap0 bad.0 is_new.0
new_none_bad image is_new (suc n) bad = not_both image.snap1 bad.2.0 is_new.1

one_first : (image : Image) (a b : ℕ) → IsFirstBad image a → IsFirstBad image b → a ≡ b
one_first image zero zero first second = refl
one_first image zero (suc n) first second = absurd (good_not_bad 0 image.snap0 second.1 first)
one_first image (suc m) zero first second = absurd (good_not_bad 0 image.snap0 first.1 second)
one_first image (suc m) (suc n) first second = ap suc (first.0 ∙ sym second.0)

-- ---- snapshots and their histories

-- what is kept is one snapshot
pub record SameSnapshot (e f : ℕ) (kept other : Snapshot) (m n : ℕ) : Type 0 where
  pub epoch : e ≡ f
  pub snapshot : kept ≡ other
  pub bytes : m ≡ n

pub one_kept : (image : Image) (e f : ℕ) (kept other : Snapshot) (m n : ℕ) → KeepsSnapshot image e kept m → KeepsSnapshot image f other n → SameSnapshot e f kept other m n
one_kept image e f kept other m n a b =
    let same = one_newest image e f a.head b.head a.newest b.newest in
    let there = subst (λ (head : Head). HistoryIs image.hist head.kept head.bytes kept.history) same.1 a.history in
    let entries = history_is_one image.hist b.head.kept b.head.bytes kept.history other.history there b.history in
    record {
      epoch = same.0;
      snapshot = a.whole ∙ (λ i. snapshot_of (same.1 i) (entries i)) ∙ sym b.whole;
      bytes = a.named ∙ ap (λ (head : Head). head.bytes) same.1 ∙ sym b.named;
    }

-- its history doesn't break
kept_unbroken : (image : Image) (epoch : ℕ) (kept : Snapshot) (bytes : ℕ) (file : StoreFile) (at : ℕ) → KeepsSnapshot image epoch kept bytes → HasBadHistory image file at → ⊥
kept_unbroken image epoch kept bytes file at keeps bad =
    let same = (one_newest image epoch bad.epoch keeps.head bad.head keeps.newest bad.newest).1 in
    let there = subst (λ (head : Head). HistoryIs image.hist head.kept head.bytes kept.history) same keeps.history in
    history_is_whole image.hist bad.head.kept bad.head.bytes kept.history at there bad.breaks

-- and one that does breaks at one place
one_bad_history : (image : Image) (file other : StoreFile) (at place : ℕ) → HasBadHistory image file at → HasBadHistory image other place → (file ≡ other) × (at ≡ place)
one_bad_history image file other at place a b =
    let same = (one_newest image a.epoch b.epoch a.head b.head a.newest b.newest).1 in
    let there = subst (λ (head : Head). HistoryBreaks image.hist head.kept head.bytes at) same a.breaks in
    (a.same_file ∙ sym b.same_file, break_is_one image.hist b.head.kept b.head.bytes at place there b.breaks)

-- ---- kinds

pub new_not_old : NewIsNotOld
new_not_old image epoch kept bytes batches at is_new old = newest_not_new image epoch old.newest.head old.newest.newest is_new

pub new_not_bad : NewIsNotBad
new_not_bad image file at is_new (inl bad) = new_none_bad image is_new bad.slot bad.first
new_not_bad image file at is_new (inr (inl bad)) = newest_not_new image bad.epoch bad.head bad.newest is_new
new_not_bad image file at is_new (inr (inr bad)) = newest_not_new image bad.epoch bad.newest.head bad.newest.newest is_new

pub old_not_bad : OldIsNotBad
old_not_bad image epoch kept bytes batches at file place old (inl bad) = newest_none_bad image epoch old.newest.head old.newest.newest bad.slot bad.first
old_not_bad image epoch kept bytes batches at file place old (inr (inl bad)) = kept_unbroken image epoch kept bytes file place old.newest bad
old_not_bad image epoch kept bytes batches at file place old (inr (inr bad)) =
    let same : bad.epoch ≡ epoch = (one_kept image bad.epoch epoch bad.kept kept bad.bytes bytes bad.newest old.newest).epoch in
    let log = of_file (log_of epoch) image in
    let breaks : BreaksAt log place = subst (λ f. BreaksAt (of_file f image) place) (bad.same_file ∙ ap log_of same) bad.breaks in
    log_not_broken log batches at place old.log breaks

-- ---- contents

pub one_old : OldIsOne
one_old image e f kept other m n batches others at place a b =
    let newest = one_kept image e f kept other m n a.newest b.newest in
    let log : EndsAt (of_file (log_of f) image) batches at = subst (λ epoch. EndsAt (of_file (log_of epoch) image) batches at) newest.epoch a.log in
    let same = one_log (of_file (log_of f) image) batches others at place log b.log in
    record { epoch = newest.epoch; snapshot = newest.snapshot; bytes = newest.bytes; log = same.0; gate = same.1 }

pub one_bad : BadIsOne
one_bad image file other at place (inl a) (inl b) =
    (a.same_file ∙ ap slot_file (one_first image a.slot b.slot a.first b.first) ∙ sym b.same_file, a.start ∙ sym b.start)
one_bad image file other at place (inl a) (inr (inl b)) = absurd (newest_none_bad image b.epoch b.head b.newest a.slot a.first)
one_bad image file other at place (inl a) (inr (inr b)) = absurd (newest_none_bad image b.epoch b.newest.head b.newest.newest a.slot a.first)
one_bad image file other at place (inr (inl a)) (inl b) = absurd (newest_none_bad image a.epoch a.head a.newest b.slot b.first)
one_bad image file other at place (inr (inr a)) (inl b) = absurd (newest_none_bad image a.epoch a.newest.head a.newest.newest b.slot b.first)
one_bad image file other at place (inr (inl a)) (inr (inl b)) = one_bad_history image file other at place a b
one_bad image file other at place (inr (inl a)) (inr (inr b)) = absurd (kept_unbroken image b.epoch b.kept b.bytes file at b.newest a)
one_bad image file other at place (inr (inr a)) (inr (inl b)) = absurd (kept_unbroken image a.epoch a.kept a.bytes other place a.newest b)
one_bad image file other at place (inr (inr a)) (inr (inr b)) =
    let same : file ≡ other = a.same_file ∙ ap log_of (one_kept image a.epoch b.epoch a.kept b.kept a.bytes b.bytes a.newest b.newest).epoch ∙ sym b.same_file in
    (same, one_break (of_file other image) at place (subst (λ f. BreaksAt (of_file f image) at) same a.breaks) b.breaks)

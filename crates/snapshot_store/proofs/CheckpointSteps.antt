-- A checkpoint, one call after another. Each call that succeeds takes it to a stage, which says what all images have then.
use Rattle.std.proofs.Common.{◌≡◌, ◌≢◌, ◌⊎◌, inl, inr, ℕ, zero, suc, ◌+◌, ◌≤◌, ◌<◌, ◌^◌, List, [], ◌∷◌, length, take, refl, sym, ap, ◌∙◌, subst, arith}
use Rattle.sf_bytes.specs.Gates.{open_gate, StandsAt, ClosedAt, OpenAt}
use Rattle.sf_bytes.proofs.Stands.{Stands-both, Closed-length}
use Rattle.sf_outside.specs.DiskModel.{Image, DiskFacts, of_file, LeavesOnly}
use Rattle.sf_outside.specs.ImageSteps.{ComesBy}
use Rattle.sf_outside.proofs.DiskLaws.{LeavesOnly-then, LeavesOnly-weaker}
use Rattle.sf_outside.proofs.ImageSteps.{comes_other}
use Rattle.sf_outside.specs.declared.store_disk.StoreFile.{StoreFile}
use Rattle.sf_outside.specs.declared.store_disk.StoreFile.TheVariants.{Snap0, Snap1, Hist}
use Rattle.sf_value.specs.declared.heads.Head.{Head}
use Rattle.snapshot_store.specs.SlotFile.{IsEpoch, number_of, slot_file, log_file, slot_of, log_of, IsClosedSlot, behind_gate, slot_bytes, HoldsAt, IsOlder, IsNewest, IsNew, IsNext, NamesWithin}
use Rattle.snapshot_store.specs.SlotSteps.{GateChanges, StaysOrCloses, Closes, Opens, KeepsGate, Fills, KeepsFront, AddsBehind, IsCheckpoint, CheckpointStep, CheckpointDone, ComesBeside, KeepsNewest, ComesKeeping, IsKept, KeepsOrIsKept}
use Rattle.snapshot_store.proofs.Epochs.{slot_differs, log_differs, slot-history, log-history, history-slot, history-log, other_slot-slot, other_slot-log, other_log-slot, other_log-log}
use Rattle.snapshot_store.proofs.Gates.{gate_cases}
use Rattle.snapshot_store.proofs.Histories.{front_same, front_part, front_then}
use Rattle.snapshot_store.proofs.OneNewest.{one_newest, newest_not_new}

-- ---- the other slot

-- a slot of a new image, whichever it is
new_slot : (image : Image) → IsNew image → (n : ℕ) → IsClosedSlot (of_file (slot_file n) image)
new_slot image is_new zero = is_new.0
new_slot image is_new (suc n) = is_new.1

both_closed : (image : Image) (m n : ℕ) → m + n ≡ 1 → IsClosedSlot (of_file (slot_file m) image) → IsClosedSlot (of_file (slot_file n) image) → IsNew image
both_closed image zero zero both here other = absurd (omega (arith, both))
both_closed image zero (suc n) both here other = (here, other)
both_closed image (suc m) zero both here other = (other, here)
both_closed image (suc m) (suc n) both here other = absurd (omega (arith, both))

-- the other slot is closed, or open with a smaller epoch
pub other_older : (epoch : ℕ) (image : Image) → IsNext epoch image → IsOlder epoch (number_of (epoch + 1)) (of_file (slot_of (epoch + 1)) image)
other_older epoch image (inl first) = inl (new_slot image first.0 (number_of (epoch + 1)))
other_older epoch image (inr next) =
    let same : number_of next.0 ≡ number_of (epoch + 1) = omega (arith, next.3) in
    inr (next.0, next.1, omega (arith, next.3), subst (λ n. HoldsAt n (of_file (slot_file n) image) next.0 next.1) same next.2.here)

module _ (epoch at : ℕ) (more body : List ℕ) (old : DiskFacts) where
  -- ---- stages

  -- an image with such a slot, such a log and such a history. The history has all that an earlier image had before the place, and each
  -- other file is as it was there
  abbrev pub Staged : (List ℕ → Type 0) → (List ℕ → Type 0) → (List ℕ → Type 0) → Image → Type 0
  Staged Slot Log History image = ComesBeside epoch at (λ before now. Slot (of_file (slot_of epoch) now) × Log (of_file (log_of epoch) now) × History (of_file Hist now)) old image

  abbrev pub Any : List ℕ → Type 0
  Any file = Unit {0}

  abbrev pub Shut : List ℕ → Type 0
  Shut file = ClosedAt file 0

  -- a closed gate, and all of the head behind it
  pub record Filled (file : List ℕ) : Type 0 where
    pub closed : ClosedAt file 0
    pub behind : StandsAt file 1 (behind_gate epoch body)

  abbrev pub Whole : List ℕ → Type 0
  Whole file = StandsAt file 0 (slot_bytes epoch body)

  abbrev pub Added : List ℕ → Type 0
  Added file = StandsAt file at more

  -- what a crash leaves meanwhile
  abbrev pub Meanwhile : Image → Type 0
  Meanwhile image = ComesBeside epoch at (CheckpointStep epoch at more body) old image

  -- the calls so far left nothing else, and now each image has such a slot, such a log and such a history
  pub record Stage (Slot Log History : List ℕ → Type 0) (mid : DiskFacts) : Type 0 where
    pub so_far : LeavesOnly old mid Meanwhile
    pub each : (image : Image) → mid.may_leave image → Staged Slot Log History image

  no_step : (image : Image) → old.may_leave image → Staged Any Any Any image
  no_step image left = record { before = image; left = left; step = (tt, tt, tt); history = front_same at (of_file Hist image); others = λ file slot log hist. refl }

  -- ---- a step more, of one file

  module _ (mid : DiskFacts) (Slot Log History : List ℕ → Type 0) (so_far : (between : Image) → mid.may_leave between → Staged Slot Log History between) (Step : List ℕ → List ℕ → Type 0) (Then : List ℕ → Type 0) (image : Image) where
    slot_then : ((before now : List ℕ) → Slot before → Step before now → Then now) → ComesBy (slot_of epoch) Step mid image → Staged Then Log History image
    slot_then follows came =
        let from = so_far came.before came.left in
        let same = λ (file : StoreFile) (differs : file ≢ slot_of epoch). comes_other (slot_of epoch) file Step mid image came differs in
        record {
          before = from.before;
          left = from.left;
          step = (
            follows (of_file (slot_of epoch) came.before) (of_file (slot_of epoch) image) from.step.0 came.step,
            subst Log (sym (same (log_of epoch) (log_differs epoch))) from.step.1,
            subst History (sym (same Hist (history-slot epoch))) from.step.2,
          );
          history = subst (KeepsFront at (of_file Hist from.before)) (sym (same Hist (history-slot epoch))) from.history;
          others = λ file slot log hist. same file slot ∙ from.others file slot log hist;
        }

    log_then : ((before now : List ℕ) → Log before → Step before now → Then now) → ComesBy (log_of epoch) Step mid image → Staged Slot Then History image
    log_then follows came =
        let from = so_far came.before came.left in
        let same = λ (file : StoreFile) (differs : file ≢ log_of epoch). comes_other (log_of epoch) file Step mid image came differs in
        record {
          before = from.before;
          left = from.left;
          step = (
            subst Slot (sym (same (slot_of epoch) (slot_differs epoch))) from.step.0,
            follows (of_file (log_of epoch) came.before) (of_file (log_of epoch) image) from.step.1 came.step,
            subst History (sym (same Hist (history-log epoch))) from.step.2,
          );
          history = subst (KeepsFront at (of_file Hist from.before)) (sym (same Hist (history-log epoch))) from.history;
          others = λ file slot log hist. same file log ∙ from.others file slot log hist;
        }

    hist_then : ((before now : List ℕ) → Step before now → KeepsFront at before now × Then now) → ComesBy Hist Step mid image → Staged Slot Log Then image
    hist_then follows came =
        let from = so_far came.before came.left in
        let same = λ (file : StoreFile) (differs : file ≢ Hist). comes_other Hist file Step mid image came differs in
        let next = follows (of_file Hist came.before) (of_file Hist image) came.step in
        record {
          before = from.before;
          left = from.left;
          step = (
            subst Slot (sym (same (slot_of epoch) (slot-history epoch))) from.step.0,
            subst Log (sym (same (log_of epoch) (log-history epoch))) from.step.1,
            next.1,
          );
          history = front_then at (of_file Hist from.before) (of_file Hist came.before) (of_file Hist image) from.history next.0;
          others = λ file slot log hist. same file hist ∙ from.others file slot log hist;
        }

  -- ---- what a crash leaves meanwhile

  closing_step : (image : Image) → ComesBy (slot_of epoch) StaysOrCloses old image → Meanwhile image
  closing_step image came =
      let same = λ (file : StoreFile) (differs : file ≢ slot_of epoch). comes_other (slot_of epoch) file StaysOrCloses old image came differs in
      record {
        before = came.before;
        left = came.left;
        step = elim (came.step.slot) [
          | inl stays ↦ inl (record { slot = stays; log = same (log_of epoch) (log_differs epoch) })
          | inr closed ↦ inr (inl closed)
        ];
        history = subst (KeepsFront at (of_file Hist came.before)) (sym (same Hist (history-slot epoch))) (front_same at (of_file Hist came.before));
        others = λ file slot log hist. same file slot;
      }

  shut_step : (Log History : List ℕ → Type 0) (image : Image) → Staged Shut Log History image → Meanwhile image
  shut_step Log History image staged = record { before = staged.before; left = staged.left; step = inr (inl (inr staged.step.0)); history = staged.history; others = staged.others }

  -- one call more
  meanwhile_then : (mid new : DiskFacts) (P : Image → Type 0) → LeavesOnly old mid Meanwhile → LeavesOnly mid new P → ((image : Image) → P image → Meanwhile image) → LeavesOnly old new Meanwhile
  meanwhile_then mid new P so_far moments each = LeavesOnly-then old mid new Meanwhile so_far (LeavesOnly-weaker mid new P Meanwhile moments each)

  -- ---- one call after another

  pub closing : (new : DiskFacts) → LeavesOnly old new (ComesBy (slot_of epoch) StaysOrCloses old) → LeavesOnly old new Meanwhile
  closing new moments = LeavesOnly-weaker old new (ComesBy (slot_of epoch) StaysOrCloses old) Meanwhile moments closing_step

  pub closed_stage : (new : DiskFacts) → LeavesOnly old new (ComesBy (slot_of epoch) StaysOrCloses old) → ((image : Image) → new.may_leave image → ComesBy (slot_of epoch) Closes old image) → Stage Shut Any Any new
  closed_stage new moments now = record {
    so_far = closing new moments;
    each = λ image left. slot_then old Any Any Any no_step Closes Shut image (λ before file any step. step.closed) (now image left);
  }

  pub clearing : (mid new : DiskFacts) → Stage Shut Any Any mid → LeavesOnly mid new (ComesBy (log_of epoch) GateChanges mid) → LeavesOnly old new Meanwhile
  clearing mid new stage moments =
      meanwhile_then mid new (ComesBy (log_of epoch) GateChanges mid) stage.so_far moments
      (λ image came. shut_step Any Any image (log_then mid Shut Any Any stage.each GateChanges Any image (λ before file any step. tt) came))

  pub cleared_stage : (mid new : DiskFacts) → Stage Shut Any Any mid → LeavesOnly mid new (ComesBy (log_of epoch) GateChanges mid) → ((image : Image) → new.may_leave image → ComesBy (log_of epoch) Closes mid image) → Stage Shut Shut Any new
  cleared_stage mid new stage moments now = record {
    so_far = clearing mid new stage moments;
    each = λ image left. log_then mid Shut Any Any stage.each Closes Shut image (λ before file any step. step.closed) (now image left);
  }

  pub adding : (mid new : DiskFacts) → Stage Shut Shut Any mid → LeavesOnly mid new (ComesBy Hist (KeepsFront at) mid) → LeavesOnly old new Meanwhile
  adding mid new stage moments =
      meanwhile_then mid new (ComesBy Hist (KeepsFront at) mid) stage.so_far moments
      (λ image came. shut_step Shut Any image (hist_then mid Shut Shut Any stage.each (KeepsFront at) Any image (λ before file step. (step, tt)) came))

  pub added_stage : (mid new : DiskFacts) → Stage Shut Shut Any mid → LeavesOnly mid new (ComesBy Hist (KeepsFront at) mid) → ((image : Image) → new.may_leave image → ComesBy Hist (AddsBehind at more) mid image) → Stage Shut Shut Added new
  added_stage mid new stage moments now = record {
    so_far = adding mid new stage moments;
    each = λ image left. hist_then mid Shut Shut Any stage.each (AddsBehind at more) Added image (λ before file step. (step.front, step.stands)) (now image left);
  }

  pub filling : (mid new : DiskFacts) → Stage Shut Shut Added mid → LeavesOnly mid new (ComesBy (slot_of epoch) KeepsGate mid) → LeavesOnly old new Meanwhile
  filling mid new stage moments =
      meanwhile_then mid new (ComesBy (slot_of epoch) KeepsGate mid) stage.so_far moments
      (λ image came. shut_step Shut Added image (slot_then mid Shut Shut Added stage.each KeepsGate Shut image (λ before file closed step. (closed.0, closed.1, step closed.0 closed.2)) came))

  filled : (before now : List ℕ) → Shut before → Fills epoch body before now → Filled now
  filled before now closed step = record { closed = (closed.0, closed.1, step.gate closed.0 closed.2); behind = step.behind }

  pub filled_stage : (mid new : DiskFacts) → Stage Shut Shut Added mid → LeavesOnly mid new (ComesBy (slot_of epoch) KeepsGate mid) → ((image : Image) → new.may_leave image → ComesBy (slot_of epoch) (Fills epoch body) mid image) → Stage Filled Shut Added new
  filled_stage mid new stage moments now = record {
    so_far = filling mid new stage moments;
    each = λ image left. slot_then mid Shut Shut Added stage.each (Fills epoch body) Filled image filled (now image left);
  }

  -- behind a gate that was opened, or torn
  behind_kept : (before now : List ℕ) → Filled before → GateChanges before now → StandsAt now 1 (behind_gate epoch body)
  behind_kept before now file step = ap (take (length (behind_gate epoch body))) step.behind ∙ file.behind

  whole : (before now : List ℕ) → Filled before → GateChanges before now → OpenAt now 0 → Whole now
  whole before now file step opened = Stands-both now 0 (open_gate ∷ []) (behind_gate epoch body) opened (behind_kept before now file step)

  -- the gate is opened, or torn
  abbrev AfterGate : List ℕ → Type 0
  AfterGate file = Whole file ⊎ Shut file

  torn_gate : (before now : List ℕ) → Filled before → GateChanges before now → AfterGate now
  torn_gate before now file step = elim (gate_cases now (omega (arith, Closed-length before 0 file.closed, step.no_shorter))) [
    | inl opened ↦ inl (whole before now file step opened)
    | inr closed ↦ inr closed
  ]

  module _ (in_range : IsEpoch epoch) (small : length body < 2 ^ 64) where
    is_checkpoint : (image : Image) → Whole (of_file (slot_of epoch) image) → Shut (of_file (log_of epoch) image) → Added (of_file Hist image) → IsCheckpoint epoch at more body image
    is_checkpoint image stands closed added = record {
      slot = stands;
      holds = λ head is. record {
        body = body;
        spells = is;
        stands = stands;
        in_range = in_range;
        own = refl;
        countable = small;
      };
      log = closed;
      history = added;
    }

    opening_step : (image : Image) → Staged AfterGate Shut Added image → Meanwhile image
    opening_step image staged = record {
      before = staged.before;
      left = staged.left;
      step = elim (staged.step.0) [
        | inl stands ↦ inr (inr (is_checkpoint image stands staged.step.1 staged.step.2))
        | inr closed ↦ inr (inl (inr closed))
      ];
      history = staged.history;
      others = staged.others;
    }

    pub opening : (mid new : DiskFacts) → Stage Filled Shut Added mid → LeavesOnly mid new (ComesBy (slot_of epoch) GateChanges mid) → LeavesOnly old new Meanwhile
    opening mid new stage moments =
        meanwhile_then mid new (ComesBy (slot_of epoch) GateChanges mid) stage.so_far moments
        (λ image came. opening_step image (slot_then mid Filled Shut Added stage.each GateChanges AfterGate image torn_gate came))

    -- the checkpoint is done
    pub opened_now : (mid new : DiskFacts) → Stage Filled Shut Added mid → ((image : Image) → new.may_leave image → ComesBy (slot_of epoch) Opens mid image) → (image : Image) → new.may_leave image → ComesBeside epoch at (CheckpointDone epoch at more body) old image
    opened_now mid new stage now image left =
        let staged = slot_then mid Filled Shut Added stage.each Opens Whole image (λ before file was step. whole before file was step.gate step.opened) (now image left) in
        record { before = staged.before; left = staged.left; step = is_checkpoint image staged.step.0 staged.step.1 staged.step.2; history = staged.history; others = staged.others }

-- ---- what that makes of the newest head

module _ (epoch at : ℕ) (more body : List ℕ) (old : DiskFacts) (next : (image : Image) → old.may_leave image → IsNext epoch image) where
  -- each file but the history, the slot and the log of the epoch is the same
  abbrev Beside : Image → Image → Type 0
  Beside before image = (file : StoreFile) → file ≢ slot_of epoch → file ≢ log_of epoch → file ≢ Hist → of_file file image ≡ of_file file before

  -- so are the slot and the log of the epoch after it
  same_slot : (before image : Image) → Beside before image → of_file (slot_of (epoch + 1)) image ≡ of_file (slot_of (epoch + 1)) before
  same_slot before image others = others (slot_of (epoch + 1)) (other_slot-slot epoch) (other_slot-log epoch) (slot-history (epoch + 1))

  same_log : (before image : Image) → Beside before image → of_file (log_of (epoch + 1)) image ≡ of_file (log_of (epoch + 1)) before
  same_log before image others = others (log_of (epoch + 1)) (other_log-slot epoch) (other_log-log epoch) (log-history (epoch + 1))

  kept_there : (before image : Image) → old.may_leave before → Beside before image → IsCheckpoint epoch at more body image → IsKept epoch at more body image
  kept_there before image left others done = record {
    newest = λ head is. record {
      here = done.holds head is;
      other = subst (IsOlder epoch (number_of (epoch + 1))) (sym (same_slot before image others)) (other_older epoch before (next before left));
    };
    log = done.log;
    history = done.history;
  }

  pub is_kept : (image : Image) → ComesBeside epoch at (CheckpointDone epoch at more body) old image → IsKept epoch at more body image
  is_kept image came = kept_there came.before image came.left came.others came.step

  -- the slot of the epoch is as it was, or closed
  abbrev Quiet : Image → Image → Type 0
  Quiet before image = (of_file (slot_of epoch) image ≡ of_file (slot_of epoch) before) ⊎ IsClosedSlot (of_file (slot_of epoch) image)

  -- so it is closed where it was
  closed_still : (before image : Image) → Quiet before image → IsClosedSlot (of_file (slot_of epoch) before) → IsClosedSlot (of_file (slot_of epoch) image)
  closed_still before image (inl same) was = subst IsClosedSlot (sym same) was
  closed_still before image (inr closed) was = closed

  older_still : (newest : ℕ) (before image : Image) → Quiet before image → IsOlder newest (number_of epoch) (of_file (slot_of epoch) before) → IsOlder newest (number_of epoch) (of_file (slot_of epoch) image)
  older_still newest before image (inl same) was = subst (IsOlder newest (number_of epoch)) (sym same) was
  older_still newest before image (inr closed) was = inl closed

  module _ (before image : Image) (quiet : Quiet before image) (others : Beside before image) where
    -- both slots of a new image
    new_still : IsNew before → IsNew image
    new_still is_new =
        both_closed image (number_of epoch) (number_of (epoch + 1)) (omega arith)
        (closed_still before image quiet (new_slot before is_new (number_of epoch)))
        (subst IsClosedSlot (sym (same_slot before image others)) (new_slot before is_new (number_of (epoch + 1))))

    module _ (newest : ℕ) (head : Head) (is : epoch ≡ newest + 1) where
      number : number_of (epoch + 1) ≡ number_of newest
      number = omega (arith, is)

      behind : number_of (newest + 1) ≡ number_of epoch
      behind = omega (arith, is)

      newest_still : IsNewest before newest head → IsNewest image newest head
      newest_still was =
          let slots = subst (λ n. of_file (slot_file n) image ≡ of_file (slot_file n) before) number (same_slot before image others) in
          let older = subst (λ n. IsOlder newest n (of_file (slot_file n) before)) behind was.other in
          record {
            here = subst (λ file. HoldsAt (number_of newest) file newest head) (sym slots) was.here;
            other = subst (λ n. IsOlder newest n (of_file (slot_file n) image)) (sym behind) (older_still newest before image quiet older);
          }

      log_still : of_file (log_of newest) image ≡ of_file (log_of newest) before
      log_still = subst (λ n. of_file (log_file n) image ≡ of_file (log_file n) before) number (same_log before image others)

  module _ (names : (image : Image) → old.may_leave image → NamesWithin at image) where
    keeps : (before image : Image) → old.may_leave before → Quiet before image → KeepsFront at (of_file Hist before) (of_file Hist image) → Beside before image → IsNext epoch before → KeepsNewest before image
    keeps before image left quiet front others (inl first) = record {
      is_new = new_still before image quiet others;
      newest = λ newest head was. absurd (newest_not_new before newest head was first.0);
      log = λ newest head was. absurd (newest_not_new before newest head was first.0);
      history = λ newest head was. absurd (newest_not_new before newest head was first.0);
    }
    keeps before image left quiet front others (inr after) =
        let one_before = λ (newest : ℕ) (head : Head) (was : IsNewest before newest head). after.3 ∙ ap (λ n. n + 1) (one_newest before after.0 newest after.1 head after.2 was).0 in
        record {
          is_new = λ was. absurd (newest_not_new before after.0 after.1 after.2 was);
          newest = λ newest head was. newest_still before image quiet others newest head (one_before newest head was) was;
          log = λ newest head was. log_still before image quiet others newest head (one_before newest head was);
          history = λ newest head was. front_part head.bytes at (of_file Hist before) (of_file Hist image) (names before left newest head was) front;
        }

    stands_at : (image : Image) → (came : ComesBeside epoch at (CheckpointStep epoch at more body) old image) → CheckpointStep epoch at more body came.before image → KeepsOrIsKept epoch at more body old image
    stands_at image came (inl stays) = (came.before, came.left, inl (keeps came.before image came.left (inl stays.slot) came.history came.others (next came.before came.left)))
    stands_at image came (inr (inl closed)) = (came.before, came.left, inl (keeps came.before image came.left (inr closed) came.history came.others (next came.before came.left)))
    stands_at image came (inr (inr done)) = (came.before, came.left, inr (kept_there came.before image came.left came.others done, came.history))

    pub stands : (new : DiskFacts) → LeavesOnly old new (Meanwhile epoch at more body old) → LeavesOnly old new (KeepsOrIsKept epoch at more body old)
    stands new moments = LeavesOnly-weaker old new (Meanwhile epoch at more body old) (KeepsOrIsKept epoch at more body old) moments (λ image came. stands_at image came came.step)

    -- the newest of an image that keeps it names no more than it did
    named_within : (before image : Image) → old.may_leave before → KeepsNewest before image → IsNext epoch before → NamesWithin at image
    named_within before image left kept_newest (inl first) newest head is = absurd (newest_not_new image newest head is (kept_newest.is_new first.0))
    named_within before image left kept_newest (inr after) newest head is =
        let same = (one_newest image after.0 newest after.1 head (kept_newest.newest after.0 after.1 after.2) is).1 in
        subst (λ (found : Head). found.bytes ≤ at) same (names before left after.0 after.1 after.2)

    -- so while the slot is closed the history may be added to at the same place
    pub named_still : (mid : DiskFacts) → Stage epoch at more body old (Shut epoch at more body old) (Shut epoch at more body old) (Any epoch at more body old) mid → (image : Image) → mid.may_leave image → NamesWithin at image
    named_still mid stage image left =
        let staged = stage.each image left in
        let was = next staged.before staged.left in
        named_within staged.before image staged.left (keeps staged.before image staged.left (inr (inr staged.step.0)) staged.history staged.others was) was

-- ---- a call that writes the history alone

module _ (at : ℕ) (old : DiskFacts) (names : (image : Image) → old.may_leave image → NamesWithin at image) where
  keeps_beside : (image : Image) → ComesBy Hist (KeepsFront at) old image → ComesKeeping old image
  keeps_beside image came =
      let before = came.before in
      let same = λ (file : StoreFile) (differs : file ≢ Hist). comes_other Hist file (KeepsFront at) old image came differs in (
        before,
        came.left,
        record {
          is_new = λ was. (subst IsClosedSlot (sym (same Snap0 (λ is. cc))) was.0, subst IsClosedSlot (sym (same Snap1 (λ is. cc))) was.1);
          newest = λ epoch head was. record {
            here = subst (λ file. HoldsAt (number_of epoch) file epoch head) (sym (same (slot_of epoch) (slot-history epoch))) was.here;
            other = subst (IsOlder epoch (number_of (epoch + 1))) (sym (same (slot_of (epoch + 1)) (slot-history (epoch + 1)))) was.other;
          };
          log = λ epoch head was. same (log_of epoch) (log-history epoch);
          history = λ epoch head was. front_part head.bytes at (of_file Hist before) (of_file Hist image) (names before came.left epoch head was) came.step;
        },
      )

  pub stands_beside : (new : DiskFacts) → LeavesOnly old new (ComesBy Hist (KeepsFront at) old) → LeavesOnly old new (ComesKeeping old)
  stands_beside new moments = LeavesOnly-weaker old new (ComesBy Hist (KeepsFront at) old) (ComesKeeping old) moments keeps_beside

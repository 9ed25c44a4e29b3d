-- What a disk keeps of a core while records and checkpoints are written to it.
use Rattle.std.proofs.Common.{◌≡◌, ◌⊎◌, ℕ, zero, suc, ◌+◌, ◌≤◌, inl, inr, List, [], ◌∷◌, ◌++◌, length, Some, refl, sym, ap, subst}
use Rattle.std.specs.List.{slice_get}
use Rattle.std.proofs.lemmas.Option.{none-some}
use Rattle.sf_bytes.specs.Gates.{ClosedAt}
use Rattle.sf_outside.specs.DiskModel.{Image, DiskFacts, of_file, LeavesOnly, Stays}
use Rattle.sf_outside.specs.declared.store_disk.StoreFile.{StoreFile}
use Rattle.sf_outside.specs.ImageSteps.{ComesBy}
use Rattle.sf_outside.proofs.DiskLaws.{left_now, LeavesOnly-weaker}
use Rattle.sf_value.specs.declared.BatchRecord.{BatchRecord}
use Rattle.request_log.specs.Appends.{HasRecord, StaysOrHasRecord}
use Rattle.request_log.specs.LogFile.{LogFrom}
use Rattle.snapshot_store.specs.SlotFile.{log_of, IsNext, NamesWithin}
use Rattle.snapshot_store.specs.SlotSteps.{CheckpointDone, ComesBeside, IsKept, KeepsOrIsKept}
use Rattle.recovery.specs.StoreSteps.{LogSteps}
use Rattle.recovery.proofs.StoreSteps.{snapshot_next, snapshot_names, new_names}
use Rattle.engine.specs.Cores.{Core}
use Rattle.engine.specs.Replays.{replayed}
use Rattle.store_meaning.specs.declared.position.Position.{Position}
use Rattle.store_meaning.specs.Checkpoints.{IsCheckpointOf, next_of}
use Rattle.store_meaning.specs.Keeping.{KeepsCore, KeepsSome, KeepsOne, StandsForOne, KeepsBatch, LeavesBatch, KeepsCheckpoint, LeavesCheckpoint, StandsForSome, KeptSince}
use Rattle.store_meaning.specs.LoggedBatches.{CanFollow, behind}
use Rattle.store_meaning.specs.StandsFor.{Program, StandsFor}
use Rattle.store_meaning.proofs.StoreSteps.{is_old, batch_stands, closed_gate_stands, checkpoint_stands, checkpoint_stays}

log_closed : (file : List ℕ) (at : ℕ) (batches : List BatchRecord) (end : ℕ) → LogFrom file at batches end → ClosedAt file end
log_closed file at [] end log = subst (ClosedAt file) log.0 log.1
log_closed file at (batch ∷ batches) end log = log_closed file log.0 batches end log.2

among_more : {A : Type 0} (xs : List A) (y : A) (i : ℕ) (x : A) → slice_get xs i ≡ Some x → slice_get (xs ++ y ∷ []) i ≡ Some x
among_more [] y i x is = absurd (none-some x is)
among_more (first ∷ xs) y zero x is = is
among_more (first ∷ xs) y (suc i) x is = among_more xs y i x is

last_among : {A : Type 0} (xs : List A) (y : A) → slice_get (xs ++ y ∷ []) (length xs) ≡ Some y
last_among [] y = refl
last_among (first ∷ xs) y = last_among xs y

-- an image that comes by a step of the log of an epoch
log_steps : (epoch : ℕ) (Step : List ℕ → List ℕ → Type 0) (old : DiskFacts) (image : Image) (came : ComesBy (log_of epoch) Step old image) → LogSteps epoch Step came.before image
log_steps epoch Step old image came = record { step = came.step; others = came.others }

module _ (p : Program) where
  -- ---- nothing is written

  pub stays_kept : (old new : DiskFacts) (core : Core) (position : Position) → Stays old new → KeepsCore p old core position → KeepsCore p new core position
  stays_kept old new core position stays keeps = record { each = λ image left. keeps.each image (stays.images image left) }

  -- ---- after a fault

  -- what each image had that a crash left meanwhile, each has that it leaves now
  pub one_left : (old new : DiskFacts) (core : Core) (position : Position) (next : Core) (next_position : Position) → LeavesOnly old new (StandsForOne p core position next next_position)
      → KeepsOne p new core position next next_position
  one_left old new core position next next_position leaves = record { each = left_now old new (StandsForOne p core position next next_position) leaves }

  -- ---- what the calls need

  pub gate_closed : (facts : DiskFacts) (core : Core) (position : Position) → KeepsCore p facts core position → 1 ≤ position.epoch → (image : Image) → facts.may_leave image
      → ClosedAt (of_file (log_of position.epoch) image) position.at
  gate_closed facts core position keeps began image left =
      let old = is_old p image core position (keeps.each image left) began in
      log_closed (of_file (log_of position.epoch) image) 0 old.batches position.at old.holds.log

  module _ (facts : DiskFacts) (core : Core) (position : Position) (keeps : KeepsCore p facts core position) (image : Image) (left : facts.may_leave image) where
    pub is_next : IsNext (position.epoch + 1) image
    is_next = by (keeps.each image left)
      where
        by : StandsFor p image core position → IsNext (position.epoch + 1) image
        by (inl a) = inl (a.0, ap (λ (x : Position). x.epoch + 1) a.2)
        by (inr old) = snapshot_next image position.epoch old.kept position.bytes old.holds.newest

    pub names_within : NamesWithin position.bytes image
    names_within = by (keeps.each image left)
      where
        by : StandsFor p image core position → NamesWithin position.bytes image
        by (inl a) = new_names image position.bytes a.0
        by (inr old) = snapshot_names image position.epoch old.kept position.bytes old.holds.newest

  -- ---- a record in the log

  module _ (old new : DiskFacts) (core : Core) (position : Position) (keeps : KeepsCore p old core position) (began : 1 ≤ position.epoch) (body : List ℕ) (batch : BatchRecord) (follows : CanFollow p core body batch) where
    has_record : (before image : Image) → old.may_leave before → LogSteps position.epoch (HasRecord position.at body) before image → StandsFor p image (replayed p.source core batch) (behind position body)
    has_record before image left steps = batch_stands p before image core position body batch (keeps.each before left) began follows steps

    one_of_both : (image : Image) → ComesBy (log_of position.epoch) (StaysOrHasRecord position.at body) old image → StandsForOne p core position (replayed p.source core batch) (behind position body) image
    one_of_both image came = by came.step
      where
        by : StaysOrHasRecord position.at body (of_file (log_of position.epoch) came.before) (of_file (log_of position.epoch) image) → StandsForOne p core position (replayed p.source core batch) (behind position body) image
        by (inl stays) = inl (closed_gate_stands p came.before image core position (keeps.each came.before came.left) began (record { step = stays; others = came.others }))
        by (inr there) = inr (has_record came.before image came.left (record { step = there; others = came.others }))

    -- at each moment of `append` an image stands for the core before the batch or for the one behind it
    pub append_leaves : LeavesOnly old new (ComesBy (log_of position.epoch) (StaysOrHasRecord position.at body) old) → LeavesOnly old new (StandsForOne p core position (replayed p.source core batch) (behind position body))
    append_leaves moments =
        LeavesOnly-weaker old new (ComesBy (log_of position.epoch) (StaysOrHasRecord position.at body) old) (StandsForOne p core position (replayed p.source core batch) (behind position body)) moments one_of_both

    -- and once it has answered, for the one behind it
    pub append_keeps : ((image : Image) → new.may_leave image → ComesBy (log_of position.epoch) (HasRecord position.at body) old image) → KeepsCore p new (replayed p.source core batch) (behind position body)
    append_keeps now = record {
      each = λ image left.
          let came = now image left in
          has_record came.before image came.left (log_steps position.epoch (HasRecord position.at body) old image came);
    }

-- ---- a checkpoint

module _ (p q : Program) (old new : DiskFacts) (before core : Core) (position : Position) (keeps : KeepsCore p old before position) (more body : List ℕ) (is : IsCheckpointOf q before position core more body) where
  abbrev next : Position
  next = next_of position (length more) (length core.history)

  abbrev HereOrAnew : Image → Type 0
  HereOrAnew image = StandsFor p image before position ⊎ StandsFor q image core next

  here_or_anew : (image : Image) → KeepsOrIsKept (position.epoch + 1) position.bytes more body old image → HereOrAnew image
  here_or_anew image came = elim (came.2) [
    | inl stays ↦ inl (checkpoint_stays p came.0 image before position (keeps.each came.0 came.1) stays)
    | inr done ↦ inr (checkpoint_stands p q came.0 image before core position more body (keeps.each came.0 came.1) is done.0 done.1)
  ]

  -- at each moment of `checkpoint` an image stands for the core before, where it did, or for the new one at the start of the next epoch
  pub checkpoint_leaves : LeavesOnly old new (KeepsOrIsKept (position.epoch + 1) position.bytes more body old) → LeavesOnly old new HereOrAnew
  checkpoint_leaves moments = LeavesOnly-weaker old new (KeepsOrIsKept (position.epoch + 1) position.bytes more body old) HereOrAnew moments here_or_anew

  -- and once it has answered, there
  pub checkpoint_keeps : ((image : Image) → new.may_leave image → ComesBeside (position.epoch + 1) position.bytes (CheckpointDone (position.epoch + 1) position.bytes more body) old image)
      → ((image : Image) → new.may_leave image → IsKept (position.epoch + 1) position.bytes more body image) → KeepsCore q new core next
  checkpoint_keeps now kept = record {
    each = λ image left.
        let came = now image left in
        checkpoint_stands p q came.before image before core position more body (keeps.each came.before came.left) is (kept image left) came.history;
  }

-- ---- calls that write

module _ (old new : DiskFacts) (position : Position) (body : List ℕ) where
  module _ (began : 1 ≤ position.epoch) (file : StoreFile) (is_log : file ≡ log_of position.epoch) where
    pub needs_closed : KeepsSome old position → (image : Image) → old.may_leave image → ClosedAt (of_file file image) position.at
    needs_closed some = subst (λ f. (image : Image) → old.may_leave image → ClosedAt (of_file f image) position.at) (sym is_log) (gate_closed some.0 old some.1 position some.2 began)

    pub leaves_batch : LeavesOnly old new (ComesBy file (StaysOrHasRecord position.at body) old) → LeavesBatch old new position body
    leaves_batch moments = λ p core batch keeps follows.
        append_leaves p old new core position keeps began body batch follows (subst (λ f. LeavesOnly old new (ComesBy f (StaysOrHasRecord position.at body) old)) is_log moments)

    pub keeps_batch : ((image : Image) → new.may_leave image → ComesBy file (HasRecord position.at body) old image) → KeepsBatch old new position body
    keeps_batch now = λ p core batch keeps follows.
        append_keeps p old new core position keeps began body batch follows (subst (λ f. (image : Image) → new.may_leave image → ComesBy f (HasRecord position.at body) old image) is_log now)

module _ (old new : DiskFacts) (position : Position) (more body : List ℕ) where
  pub needs_names : KeepsSome old position → (image : Image) → old.may_leave image → NamesWithin position.bytes image
  needs_names some = names_within some.0 old some.1 position some.2

  pub leaves_checkpoint : LeavesOnly old new (KeepsOrIsKept (position.epoch + 1) position.bytes more body old) → LeavesCheckpoint old new position more body
  leaves_checkpoint moments = λ p q before core keeps is. checkpoint_leaves p q old new before core position keeps more body is moments

  pub keeps_checkpoint : ((image : Image) → new.may_leave image → ComesBeside (position.epoch + 1) position.bytes (CheckpointDone (position.epoch + 1) position.bytes more body) old image)
      → ((image : Image) → new.may_leave image → IsKept (position.epoch + 1) position.bytes more body image) → KeepsCheckpoint old new position more body
  keeps_checkpoint now kept = λ p q before core keeps is. checkpoint_keeps p q old new before core position keeps more body is now kept

module _ (p : Program) where
  -- ---- since a moment

  pub since_begun : (facts : DiskFacts) (core : Core) (position : Position) → KeepsCore p facts core position → KeptSince p facts.moment facts (core ∷ [])
  since_begun facts core position keeps = record {
    each = λ image left. record { number = 0; core = core; among = refl; position = position; stands = keeps.each image (facts.only_now image left) };
  }

  module _ (since : ℕ) (old new : DiskFacts) (cores : List Core) (so_far : KeptSince p since old cores) (within : since ≤ old.moment) where
    -- calls that change nothing
    pub since_stays : Stays old new → KeptSince p since new cores
    since_stays stays = record {
      each = λ image left. elim (stays.time.nothing_else since image within left) [
        | inl before ↦ so_far.each image before
        | inr now ↦ so_far.each image (old.counts_now since image within (stays.images image now))
      ];
    }

    module _ (core : Core) (position : Position) (number : ℕ) (among : slice_get cores number ≡ Some core) where
      -- a call that leaves a core among these where it was or somewhere else
      pub since_same : (place : Position) → LeavesOnly old new (StandsForOne p core position core place) → KeptSince p since new cores
      since_same place leaves = record {
        each = λ image left. elim (leaves.before since image within left) [
          | inl before ↦ so_far.each image before
          | inr now ↦ one_of image now
        ];
      }
        where
          one_of : (image : Image) → StandsForOne p core position core place image → StandsForSome p cores image
          one_of image (inl here) = record { number = number; core = core; among = among; position = position; stands = here }
          one_of image (inr there) = record { number = number; core = core; among = among; position = place; stands = there }

      -- a call that leaves a core among these or one more
      pub since_more : (next : Core) (next_position : Position) → LeavesOnly old new (StandsForOne p core position next next_position) → KeptSince p since new (cores ++ next ∷ [])
      since_more next next_position leaves = record {
        each = λ image left. elim (leaves.before since image within left) [
          | inl before ↦ more image (so_far.each image before)
          | inr now ↦ one_of image now
        ];
      }
        where
          more : (image : Image) → StandsForSome p cores image → StandsForSome p (cores ++ next ∷ []) image
          more image s = record { number = s.number; core = s.core; among = among_more cores next s.number s.core s.among; position = s.position; stands = s.stands }

          one_of : (image : Image) → StandsForOne p core position next next_position image → StandsForSome p (cores ++ next ∷ []) image
          one_of image (inl here) = record { number = number; core = core; among = among_more cores next number core among; position = position; stands = here }
          one_of image (inr there) = record { number = length cores; core = next; among = last_among cores next; position = next_position; stands = there }

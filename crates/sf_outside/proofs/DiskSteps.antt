-- What one call more does to the facts of a disk in memory.
use Rattle.std.proofs.Common.{◌≡◌, ◌≢◌, ◌⊎◌, inl, inr, ℕ, List, [], ◌∷◌, ◌++◌, length, Some, refl, sym, ap, ◌∙◌, subst, arith, length-append}
use Rattle.std.proofs.lemmas.List.{take-append-le, take_all}
use Rattle.std.proofs.lemmas.Bool.{cases_lt}
use Rattle.sf_outside.specs.declared.store_disk.StoreFile.{StoreFile}
use Rattle.sf_outside.specs.declared.store_disk.StoreFile.TheVariants.{Log0, Log1, Snap0, Snap1, Hist}
use Rattle.sf_outside.specs.DiskModel.{PerFile, Image, of_file, with_file, written, Torn, Elapses, LeavesOnly, Stays, SeenWritten, IsDurable, IsClean}
use Rattle.sf_outside.specs.ImageSteps.{ComesTorn}
use Rattle.sf_outside.specs.SinceMoments.{SomeSince}
use Rattle.sf_outside.specs.DiskCalls.{DiskCall, Quiet, Write, Sync, Mount, FileHistory, file_after_write, file_after_sync, after_call, after_calls, files_after, clean_files, bytes_now, FileLeaves, Leaves, reads_each, facts_after}
use Rattle.sf_outside.proofs.Writes.{written-torn}
use Rattle.sf_outside.proofs.DiskLaws.{of_file-same, of_file-other, with_file-same, with_file-again, same_files, TornFile-none, LeavesOnly-start, LeavesOnly-next}

-- what holds of the new thing for one file, and of the old ones for the others, holds of each
pub changed_each : {A : Type 0} (P : StoreFile → A → Type 0) (file : StoreFile) (x : A) (things : PerFile A) → P file x → ((other : StoreFile) → other ≢ file → P other (of_file other things))
    → (other : StoreFile) → P other (of_file other (with_file file x things))
changed_each P Log0 x things here there Log0 = here
changed_each P Log0 x things here there Log1 = there Log1 (λ same. cc)
changed_each P Log0 x things here there Snap0 = there Snap0 (λ same. cc)
changed_each P Log0 x things here there Snap1 = there Snap1 (λ same. cc)
changed_each P Log0 x things here there Hist = there Hist (λ same. cc)
changed_each P Log1 x things here there Log0 = there Log0 (λ same. cc)
changed_each P Log1 x things here there Log1 = here
changed_each P Log1 x things here there Snap0 = there Snap0 (λ same. cc)
changed_each P Log1 x things here there Snap1 = there Snap1 (λ same. cc)
changed_each P Log1 x things here there Hist = there Hist (λ same. cc)
changed_each P Snap0 x things here there Log0 = there Log0 (λ same. cc)
changed_each P Snap0 x things here there Log1 = there Log1 (λ same. cc)
changed_each P Snap0 x things here there Snap0 = here
changed_each P Snap0 x things here there Snap1 = there Snap1 (λ same. cc)
changed_each P Snap0 x things here there Hist = there Hist (λ same. cc)
changed_each P Snap1 x things here there Log0 = there Log0 (λ same. cc)
changed_each P Snap1 x things here there Log1 = there Log1 (λ same. cc)
changed_each P Snap1 x things here there Snap0 = there Snap0 (λ same. cc)
changed_each P Snap1 x things here there Snap1 = here
changed_each P Snap1 x things here there Hist = there Hist (λ same. cc)
changed_each P Hist x things here there Log0 = there Log0 (λ same. cc)
changed_each P Hist x things here there Log1 = there Log1 (λ same. cc)
changed_each P Hist x things here there Snap0 = there Snap0 (λ same. cc)
changed_each P Hist x things here there Snap1 = there Snap1 (λ same. cc)
changed_each P Hist x things here there Hist = here

-- ---- the files after one call more

pub after_calls-more : (calls : List DiskCall) (call : DiskCall) (files : PerFile FileHistory) → after_calls (calls ++ call ∷ []) files ≡ after_call call (after_calls calls files)
after_calls-more [] call files = refl
after_calls-more (first ∷ calls) call files = after_calls-more calls call (after_call first files)

-- ---- moments

module _ {A : Type 0} (P : List A → Type 0) (calls : List A) (call : A) (since : ℕ) where
  some_more : SomeSince P (calls ++ call ∷ []) since → SomeSince P calls since ⊎ P (calls ++ call ∷ [])
  some_more some = elim (cases_lt (length calls) some.0) [
    | inr within ↦ inl (some.0, some.1, within, subst P (take-append-le some.0 calls (call ∷ []) within) some.3)
    | inl past ↦ inr (subst P (take_all some.0 (calls ++ call ∷ []) (omega (arith, past, length-append calls (call ∷ [])))) some.3)
  ]

  some_kept : SomeSince P calls since → SomeSince P (calls ++ call ∷ []) since
  some_kept some = (some.0, some.1, omega (arith, some.2, length-append calls (call ∷ [])), subst P (sym (take-append-le some.0 calls (call ∷ []) some.2)) some.3)

-- ---- of a disk that began with this image

module _ (start : Image) where
  pub Elapses-call : (calls : List DiskCall) (call : DiskCall) → Elapses (facts_after start calls) (facts_after start (calls ++ call ∷ []))
  Elapses-call calls call = record {
    later = omega (arith, length-append calls (call ∷ []));
    nothing_else = λ since image le left. some_more (λ first. Leaves (files_after start first) image) calls call since left;
    keeps = λ since image le left. some_kept (λ first. Leaves (files_after start first) image) calls call since left;
  }

  -- ---- what each call leaves

  bytes_now-quiet : (calls : List DiskCall) (call : DiskCall) → ((files : PerFile FileHistory) → bytes_now (after_call call files) ≡ bytes_now files) → bytes_now (files_after start (calls ++ call ∷ [])) ≡ bytes_now (files_after start calls)
  bytes_now-quiet calls call same = ap bytes_now (after_calls-more calls call (clean_files start)) ∙ same (files_after start calls)

  -- a call that leaves the bytes as they are, and no image but those from before
  stays_with : (calls : List DiskCall) (call : DiskCall) → ((files : PerFile FileHistory) → bytes_now (after_call call files) ≡ bytes_now files) → ((files : PerFile FileHistory) (image : Image) → Leaves (after_call call files) image → Leaves files image)
      → Stays (facts_after start calls) (facts_after start (calls ++ call ∷ []))
  stays_with calls call same fewer = record {
    seen = ap Some (bytes_now-quiet calls call same);
    images = λ image leaves. fewer (files_after start calls) image (subst (λ files. Leaves files image) (after_calls-more calls call (clean_files start)) leaves);
    time = Elapses-call calls call;
  }

  pub Stays-quiet : (calls : List DiskCall) → Stays (facts_after start calls) (facts_after start (calls ++ Quiet ∷ []))
  Stays-quiet calls = stays_with calls Quiet (λ files. refl) (λ files image leaves. leaves)

  bytes_now-sync : (file : StoreFile) (files : PerFile FileHistory) → bytes_now (with_file file (file_after_sync (of_file file files)) files) ≡ bytes_now files
  bytes_now-sync Log0 files = refl
  bytes_now-sync Log1 files = refl
  bytes_now-sync Snap0 files = refl
  bytes_now-sync Snap1 files = refl
  bytes_now-sync Hist files = refl

  synced_leaves : (file : FileHistory) (bytes : List ℕ) → FileLeaves (file_after_sync file) bytes → bytes ≡ file.now
  synced_leaves file bytes (inl now) = now
  synced_leaves file bytes (inr synced) = synced

  pub Stays-sync : (file : StoreFile) (calls : List DiskCall) → Stays (facts_after start calls) (facts_after start (calls ++ Sync file ∷ []))
  Stays-sync file calls = stays_with calls (Sync file) (bytes_now-sync file) (λ files image leaves. record {
    each = λ other.
        changed_each (λ f history. FileLeaves history (of_file f image) → FileLeaves (of_file f files) (of_file f image)) file (file_after_sync (of_file file files)) files
        (λ left. inl (synced_leaves (of_file file files) (of_file file image) left)) (λ f differs left. left) other (leaves.each other);
  })

  pub IsDurable-sync : (file : StoreFile) (calls : List DiskCall) → IsDurable file (facts_after start (calls ++ Sync file ∷ []))
  IsDurable-sync file calls image leaves =
      let files = files_after start calls in
      let history : of_file file (after_call (Sync file) files) ≡ file_after_sync (of_file file files) = of_file-same file (file_after_sync (of_file file files)) files in
      let left : FileLeaves (of_file file (after_call (Sync file) files)) (of_file file image) = subst (λ all. FileLeaves (of_file file all) (of_file file image)) (after_calls-more calls (Sync file) (clean_files start)) (leaves.each file) in
      synced_leaves (of_file file files) (of_file file image) (subst (λ h. FileLeaves h (of_file file image)) history left)
      ∙ sym (reads_each files file) ∙ sym (ap (of_file file) (bytes_now-quiet calls (Sync file) (bytes_now-sync file)))

  pub bytes_now-mount : (calls : List DiskCall) → bytes_now (files_after start (calls ++ Mount ∷ [])) ≡ bytes_now (files_after start calls)
  bytes_now-mount calls = bytes_now-quiet calls Mount (λ files. refl)

  mount_each : (files : PerFile FileHistory) (image : Image) → Leaves (after_call Mount files) image → (file : StoreFile) → of_file file (bytes_now files) ≡ of_file file image
  mount_each files image leaves Log0 = sym (synced_leaves files.log0 image.log0 (leaves.each Log0))
  mount_each files image leaves Log1 = sym (synced_leaves files.log1 image.log1 (leaves.each Log1))
  mount_each files image leaves Snap0 = sym (synced_leaves files.snap0 image.snap0 (leaves.each Snap0))
  mount_each files image leaves Snap1 = sym (synced_leaves files.snap1 image.snap1 (leaves.each Snap1))
  mount_each files image leaves Hist = sym (synced_leaves files.hist image.hist (leaves.each Hist))

  pub IsClean-mount : (calls : List DiskCall) → IsClean (facts_after start (calls ++ Mount ∷ []))
  IsClean-mount calls image leaves =
      let files = files_after start calls in
      ap Some (bytes_now-mount calls ∙ same_files (bytes_now files) image (mount_each files image (subst (λ all. Leaves all image) (after_calls-more calls Mount (clean_files start)) leaves)))

  -- what a crash leaves of a file after a write, it left before, torn by the write
  write_leaves : (at : ℕ) (bytes : List ℕ) (file : FileHistory) (left : List ℕ) → FileLeaves (file_after_write at bytes file) left → (between : List ℕ) × FileLeaves file between × Torn at (length bytes) between left
  write_leaves at bytes file left (inl now) = (file.now, inl refl, subst (Torn at (length bytes) file.now) (sym now) (written-torn file.now at bytes))
  write_leaves at bytes file left (inr torn) = (torn.0, inr torn.1, torn.2)

  bytes_now-write : (file : StoreFile) (at : ℕ) (bytes : List ℕ) (files : PerFile FileHistory)
      → bytes_now (with_file file (file_after_write at bytes (of_file file files)) files) ≡ with_file file (written (of_file file (bytes_now files)) at bytes) (bytes_now files)
  bytes_now-write Log0 at bytes files = refl
  bytes_now-write Log1 at bytes files = refl
  bytes_now-write Snap0 at bytes files = refl
  bytes_now-write Snap1 at bytes files = refl
  bytes_now-write Hist at bytes files = refl

  pub SeenWritten-write : (file : StoreFile) (at : ℕ) (bytes : List ℕ) (calls : List DiskCall) → SeenWritten file at bytes (facts_after start calls) (facts_after start (calls ++ Write file at bytes ∷ []))
  SeenWritten-write file at bytes calls = ap bytes_now (after_calls-more calls (Write file at bytes) (clean_files start)) ∙ bytes_now-write file at bytes (files_after start calls)

  written_comes : (file : StoreFile) (at : ℕ) (bytes : List ℕ) (calls : List DiskCall) (image : Image) → Leaves (files_after start (calls ++ Write file at bytes ∷ [])) image → ComesTorn file at (length bytes) (facts_after start calls) image
  written_comes file at bytes calls image leaves =
      let files = files_after start calls in
      let changed = file_after_write at bytes (of_file file files) in
      let all : Leaves (after_call (Write file at bytes) files) image = subst (λ f. Leaves f image) (after_calls-more calls (Write file at bytes) (clean_files start)) leaves in
      let here = write_leaves at bytes (of_file file files) (of_file file image) (subst (λ h. FileLeaves h (of_file file image)) (of_file-same file changed files) (all.each file)) in
      let before : Image = with_file file here.0 image in (
        before,
        record {
          each = λ other. changed_each (λ f bytes. FileLeaves (of_file f files) bytes) file here.0 image here.1
              (λ f differs. subst (λ h. FileLeaves h (of_file f image)) (of_file-other file f changed files differs) (all.each f)) other;
        },
        record {
          bytes = of_file file image;
          torn = subst (λ b. Torn at (length bytes) b (of_file file image)) (sym (of_file-same file here.0 image)) here.2;
          image = sym (with_file-again file here.0 (of_file file image) image ∙ with_file-same file image);
        },
      )

  -- and so at each moment
  pub LeavesOnly-write : (file : StoreFile) (at : ℕ) (bytes : List ℕ) (calls : List DiskCall)
      → LeavesOnly (facts_after start calls) (facts_after start (calls ++ Write file at bytes ∷ [])) (ComesTorn file at (length bytes) (facts_after start calls))
  LeavesOnly-write file at bytes calls =
      let old = facts_after start calls in
      let Comes = ComesTorn file at (length bytes) old in
      LeavesOnly-next old old (facts_after start (calls ++ Write file at bytes ∷ [])) Comes
      (LeavesOnly-start old Comes (λ image left. (image, left, TornFile-none file at (length bytes) image)))
      (Elapses-call calls (Write file at bytes)) (written_comes file at bytes calls)

  -- ---- bytes that are what a read gives are so after one call more

  pub holds_quiet : (image : Image) (calls more : List DiskCall) → image ≡ bytes_now (files_after start calls) → more ≡ calls ++ Quiet ∷ [] → image ≡ bytes_now (files_after start more)
  holds_quiet image calls more holds is = holds ∙ sym (bytes_now-quiet calls Quiet (λ files. refl)) ∙ ap (λ all. bytes_now (files_after start all)) (sym is)

  pub holds_sync : (file : StoreFile) (image : Image) (calls more : List DiskCall) → image ≡ bytes_now (files_after start calls) → more ≡ calls ++ Sync file ∷ [] → image ≡ bytes_now (files_after start more)
  holds_sync file image calls more holds is = holds ∙ sym (bytes_now-quiet calls (Sync file) (bytes_now-sync file)) ∙ ap (λ all. bytes_now (files_after start all)) (sym is)

  pub holds_mount : (image : Image) (calls more : List DiskCall) → image ≡ bytes_now (files_after start calls) → more ≡ calls ++ Mount ∷ [] → image ≡ bytes_now (files_after start more)
  holds_mount image calls more holds is = holds ∙ sym (bytes_now-mount calls) ∙ ap (λ all. bytes_now (files_after start all)) (sym is)

  pub holds_write : (file : StoreFile) (at : ℕ) (bytes : List ℕ) (image new : Image) (calls more : List DiskCall) → image ≡ bytes_now (files_after start calls) → new ≡ with_file file (written (of_file file image) at bytes) image → more ≡ calls ++ Write file at bytes ∷ []
      → new ≡ bytes_now (files_after start more)
  holds_write file at bytes image new calls more holds changed is =
      changed ∙ ap (λ old. with_file file (written (of_file file old) at bytes) old) holds ∙ sym (SeenWritten-write file at bytes calls) ∙ ap (λ all. bytes_now (files_after start all)) (sym is)

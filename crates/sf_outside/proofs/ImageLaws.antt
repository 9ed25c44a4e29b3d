-- The image at a moment is one that a crash leaves then, no other is longer, and what each call makes of it.
use Rattle.std.proofs.Common.{Result, Ok, Err, IfOk, ◌≡◌, inl, inr, ℕ, zero, suc, ◌+◌, ◌-◌, ◌≤◌, ◌<◌, List, [], ◌∷◌, ◌++◌, length, take, drop, replicate, min, max, refl, sym, ap, ◌∙◌, subst, arith}
use Rattle.std.proofs.lemmas.Bool.Decides.{nat_tests}
use Rattle.std.proofs.lemmas.List.{length-replicate}
use Rattle.sf_outside.specs.declared.store_disk.StoreFile.{StoreFile}
use Rattle.sf_outside.specs.declared.store_disk.StoreFile.TheVariants.{Log0, Log1, Snap0, Snap1, Hist}
use Rattle.sf_outside.specs.DiskModel.{PerFile, Image, Torn, of_file, with_file, written, written_end}
use Rattle.sf_outside.specs.DiskCalls.{DiskCall, Quiet, Write, Sync, Mount, FileHistory, clean_files, after_call, after_calls, files_after, bytes_now, reads_each, TornBy, FileLeaves, Leaves}
use Rattle.sf_outside.specs.DiskFiles.{FitsIn}
use Rattle.sf_outside.specs.DiskState.{DiskState}
use Rattle.sf_outside.specs.Images.{filled, filled_by, file_left, files_left, image_after, longest, begun_with, now_after, left_after, SameLengths}
use Rattle.sf_outside.proofs.DiskLaws.{with_file-same}
use Rattle.sf_outside.proofs.DiskSteps.{after_calls-more}
use Rattle.sf_outside.proofs.Writes.{written-torn, length-written, Torn-none}

-- ---- a file that is filled

-- a write of no bytes fills nothing
filled-none : (fill at : ℕ) (file : List ℕ) → filled fill at 0 file ≡ file
filled-none fill at file =
    let from = min at (length file) in
    let none : written_end at 0 - from ≡ 0 = omega arith in
    ap (λ k. written file from (replicate k fill)) none

-- what is filled is torn
pub filled-torn : (fill at n : ℕ) (file : List ℕ) → Torn at n file (filled fill at n file)
filled-torn fill at zero file =
    let same = filled-none fill at file in
    record { before = ap (take (min at (length file))) same; after = ap (drop (at + 0)) same; no_shorter = omega (arith, ap length same); no_longer = omega (arith, ap length same) }
filled-torn fill at (suc m) file =
    let n = suc m in
    let from = min at (length file) in
    let ends : written_end at n ≡ at + n = grind (arith, nat_tests) in
    let k = written_end at n - from in
    let torn = written-torn file from (replicate k fill) in
    let long : length (replicate {A = ℕ} k fill) ≡ k = length-replicate {A = ℕ} k fill in
    let end : from + length (replicate {A = ℕ} k fill) ≡ at + n = omega (arith, long, ends) in
    let least : min from (length file) ≡ from = omega arith in
    let far : written_end from (length (replicate {A = ℕ} k fill)) ≤ at + n = grind (arith, nat_tests, end) in
    record {
      before = subst (λ j. take j (filled fill at n file) ≡ take j file) least torn.before;
      after = subst (λ j. drop j (filled fill at n file) ≡ drop j file) end torn.after;
      no_shorter = torn.no_shorter;
      no_longer = omega (arith, torn.no_longer, far, ends);
    }

-- how long it is
length-filled : (fill at n : ℕ) (file : List ℕ) → 0 < n → length (filled fill at n file) ≡ max (length file) (at + n)
length-filled fill at n file some =
    let from = min at (length file) in
    let ends : written_end at n ≡ at + n = grind (arith, nat_tests) in
    let k = written_end at n - from in
    let long : length (replicate {A = ℕ} k fill) ≡ k = length-replicate {A = ℕ} k fill in
    let is = length-written file from (replicate k fill) (omega (arith, long, ends, some)) in
    omega (arith, is, long, ends)

-- no file that is torn so is longer, and none that was shorter before
no_torn_longer : (fill at n : ℕ) (old other new : List ℕ) → length old ≤ length other → Torn at n old new → length new ≤ length (filled fill at n other)
no_torn_longer fill at zero old other new shorter torn = omega (arith, shorter, ap length (Torn-none at old new torn), ap length (filled-none fill at other))
no_torn_longer fill at (suc m) old other new shorter torn =
    let n = suc m in
    let ends : written_end at n ≡ at + n = grind (arith, nat_tests) in
    omega (arith, shorter, torn.no_longer, ends, length-filled fill at n other (omega arith))

-- ---- the image

torn_by_filled : (fill : ℕ) (writes : List (ℕ × ℕ)) (file : List ℕ) → TornBy writes file (filled_by fill writes file)
torn_by_filled fill [] file = refl
torn_by_filled fill (write ∷ writes) file = (filled_by fill writes file, torn_by_filled fill writes file, filled-torn fill write.0 write.1 (filled_by fill writes file))

left_each : (fill : ℕ) (files : PerFile FileHistory) (file : StoreFile) → of_file file (files_left fill files) ≡ file_left fill (of_file file files)
left_each fill files Log0 = refl
left_each fill files Log1 = refl
left_each fill files Snap0 = refl
left_each fill files Snap1 = refl
left_each fill files Hist = refl

-- a crash leaves it
pub image_left : (fill : ℕ) (start : Image) (calls : List DiskCall) → Leaves (files_after start calls) (image_after fill start calls)
image_left fill start calls =
    let files = files_after start calls in
    record { each = λ file. inr (subst (TornBy (of_file file files).writes (of_file file files).synced) (sym (left_each fill files file)) (torn_by_filled fill (of_file file files).writes (of_file file files).synced)) }

-- ---- call by call

bytes_now-call : (call : DiskCall) (files : PerFile FileHistory) → bytes_now (after_call call files) ≡ now_after call (bytes_now files)
bytes_now-call Quiet files = refl
bytes_now-call (Write Log0 at bytes) files = refl
bytes_now-call (Write Log1 at bytes) files = refl
bytes_now-call (Write Snap0 at bytes) files = refl
bytes_now-call (Write Snap1 at bytes) files = refl
bytes_now-call (Write Hist at bytes) files = refl
bytes_now-call (Sync Log0) files = refl
bytes_now-call (Sync Log1) files = refl
bytes_now-call (Sync Snap0) files = refl
bytes_now-call (Sync Snap1) files = refl
bytes_now-call (Sync Hist) files = refl
bytes_now-call Mount files = refl

files_left-call : (fill : ℕ) (call : DiskCall) (files : PerFile FileHistory) → files_left fill (after_call call files) ≡ left_after fill call (bytes_now files) (files_left fill files)
files_left-call fill Quiet files = refl
files_left-call fill (Write Log0 at bytes) files = refl
files_left-call fill (Write Log1 at bytes) files = refl
files_left-call fill (Write Snap0 at bytes) files = refl
files_left-call fill (Write Snap1 at bytes) files = refl
files_left-call fill (Write Hist at bytes) files = refl
files_left-call fill (Sync Log0) files = refl
files_left-call fill (Sync Log1) files = refl
files_left-call fill (Sync Snap0) files = refl
files_left-call fill (Sync Snap1) files = refl
files_left-call fill (Sync Hist) files = refl
files_left-call fill Mount files = refl

pub bytes_now-next : (start : Image) (calls : List DiskCall) (call : DiskCall) → bytes_now (files_after start (calls ++ call ∷ [])) ≡ now_after call (bytes_now (files_after start calls))
bytes_now-next start calls call = ap bytes_now (after_calls-more calls call (clean_files start)) ∙ bytes_now-call call (files_after start calls)

pub image_after-next : (fill : ℕ) (start : Image) (calls : List DiskCall) (call : DiskCall) → image_after fill start (calls ++ call ∷ []) ≡ left_after fill call (bytes_now (files_after start calls)) (image_after fill start calls)
image_after-next fill start calls call = ap (files_left fill) (after_calls-more calls call (clean_files start)) ∙ files_left-call fill call (files_after start calls)

-- ---- lengths

-- a write makes a file as long whether it is done or fills
same_length : (fill at : ℕ) (bytes now left : List ℕ) → length now ≡ length left → length (written now at bytes) ≡ length (filled fill at (length bytes) left)
same_length fill at [] now left same = omega (arith, same, ap length (filled-none fill at left))
same_length fill at (byte ∷ bytes) now left same = omega (arith, same, length-written now at (byte ∷ bytes) (omega arith), length-filled fill at (length (byte ∷ bytes)) left (omega arith))

-- another thing for one file of each
with_same : (file : StoreFile) (x y : List ℕ) (one other : Image) → length x ≡ length y → SameLengths one other → SameLengths (with_file file x one) (with_file file y other)
with_same Log0 x y one other here same = record { each = λ file. by_file file }
  where
    by_file : (file : StoreFile) → length (of_file file (with_file Log0 x one)) ≡ length (of_file file (with_file Log0 y other))
    by_file Log0 = here
    by_file Log1 = same.each Log1
    by_file Snap0 = same.each Snap0
    by_file Snap1 = same.each Snap1
    by_file Hist = same.each Hist
with_same Log1 x y one other here same = record { each = λ file. by_file file }
  where
    by_file : (file : StoreFile) → length (of_file file (with_file Log1 x one)) ≡ length (of_file file (with_file Log1 y other))
    by_file Log0 = same.each Log0
    by_file Log1 = here
    by_file Snap0 = same.each Snap0
    by_file Snap1 = same.each Snap1
    by_file Hist = same.each Hist
with_same Snap0 x y one other here same = record { each = λ file. by_file file }
  where
    by_file : (file : StoreFile) → length (of_file file (with_file Snap0 x one)) ≡ length (of_file file (with_file Snap0 y other))
    by_file Log0 = same.each Log0
    by_file Log1 = same.each Log1
    by_file Snap0 = here
    by_file Snap1 = same.each Snap1
    by_file Hist = same.each Hist
with_same Snap1 x y one other here same = record { each = λ file. by_file file }
  where
    by_file : (file : StoreFile) → length (of_file file (with_file Snap1 x one)) ≡ length (of_file file (with_file Snap1 y other))
    by_file Log0 = same.each Log0
    by_file Log1 = same.each Log1
    by_file Snap0 = same.each Snap0
    by_file Snap1 = here
    by_file Hist = same.each Hist
with_same Hist x y one other here same = record { each = λ file. by_file file }
  where
    by_file : (file : StoreFile) → length (of_file file (with_file Hist x one)) ≡ length (of_file file (with_file Hist y other))
    by_file Log0 = same.each Log0
    by_file Log1 = same.each Log1
    by_file Snap0 = same.each Snap0
    by_file Snap1 = same.each Snap1
    by_file Hist = here

pub same_lengths-call : (fill : ℕ) (call : DiskCall) (now left : Image) → SameLengths now left → SameLengths (now_after call now) (left_after fill call now left)
same_lengths-call fill Quiet now left same = same
same_lengths-call fill (Write file at bytes) now left same =
    with_same file (written (of_file file now) at bytes) (filled fill at (length bytes) (of_file file left)) now left (same_length fill at bytes (of_file file now) (of_file file left) (same.each file)) same
same_lengths-call fill (Sync file) now left same =
    subst (λ from. SameLengths from (with_file file (of_file file now) left)) (with_file-same file now) (with_same file (of_file file now) (of_file file now) now left refl same)
same_lengths-call fill Mount now left same = record { each = λ file. refl }

same_after : (fill : ℕ) (calls : List DiskCall) (files : PerFile FileHistory) → SameLengths (bytes_now files) (files_left fill files) → SameLengths (bytes_now (after_calls calls files)) (files_left fill (after_calls calls files))
same_after fill [] files same = same
same_after fill (call ∷ calls) files same =
    same_after fill calls (after_call call files)
    (subst (λ now. SameLengths now (files_left fill (after_call call files))) (sym (bytes_now-call call files))
    (subst (SameLengths (now_after call (bytes_now files))) (sym (files_left-call fill call files)) (same_lengths-call fill call (bytes_now files) (files_left fill files) same)))

torn_by_shorter : (fill : ℕ) (writes : List (ℕ × ℕ)) (file bytes : List ℕ) → TornBy writes file bytes → length bytes ≤ length (filled_by fill writes file)
torn_by_shorter fill [] file bytes same = omega (arith, ap length same)
torn_by_shorter fill (write ∷ writes) file bytes torn =
    no_torn_longer fill write.0 write.1 torn.0 (filled_by fill writes file) bytes (torn_by_shorter fill writes file torn.0 torn.1) torn.2

-- of all images that a crash leaves at a moment none has a longer file
pub image_longest : (fill : ℕ) (start : Image) (calls : List DiskCall) (image : Image) → Leaves (files_after start calls) image → (file : StoreFile) → length (of_file file image) ≤ length (of_file file (image_after fill start calls))
image_longest fill start calls image leaves file = by_kind (leaves.each file)
  where
    files : PerFile FileHistory
    files = files_after start calls

    same : SameLengths (bytes_now files) (files_left fill files)
    same = same_after fill calls (clean_files start) (record { each = λ other. ap length (reads_each (clean_files start) other) ∙ ap length (sym (clean_left other)) })
      where
        clean_left : (other : StoreFile) → of_file other (files_left fill (clean_files start)) ≡ (of_file other (clean_files start)).now
        clean_left Log0 = refl
        clean_left Log1 = refl
        clean_left Snap0 = refl
        clean_left Snap1 = refl
        clean_left Hist = refl

    by_kind : FileLeaves (of_file file files) (of_file file image) → length (of_file file image) ≤ length (of_file file (image_after fill start calls))
    by_kind (inl now) = omega (arith, ap length now, ap length (reads_each files file), same.each file)
    by_kind (inr torn) = omega (arith, torn_by_shorter fill (of_file file files).writes (of_file file files).synced (of_file file image) torn, ap length (left_each fill files file))

-- ---- a disk that begins with an image

-- where the longest file has room, each has
pub longest_fits : (image : Image) (room : ℕ) → longest image ≤ room → FitsIn room image
longest_fits image room within = record { each = λ file. by_file file }
  where
    by_file : (file : StoreFile) → length (of_file file image) ≤ room
    by_file Log0 = omega (arith, within)
    by_file Log1 = omega (arith, within)
    by_file Snap0 = omega (arith, within)
    by_file Snap1 = omega (arith, within)
    by_file Hist = omega (arith, within)

-- a disk that begins with the image begins with one that has what the image has
pub begun_has : {E : Type 0} (P : Image → Type 0) (result : Result DiskState E) (bytes more fill : ℕ) (start image : Image) (calls : List DiskCall) → P (image_after fill start calls) → image ≡ image_after fill start calls
    → IfOk result (λ made. made ≡ begun_with bytes more image) → IfOk result (λ made. P made.start)
begun_has P (Ok made) bytes more fill start image calls has is begun = subst P (sym (ap (λ (disk : DiskState). disk.start) begun ∙ is)) has
begun_has P (Err error) bytes more fill start image calls has is begun = tt

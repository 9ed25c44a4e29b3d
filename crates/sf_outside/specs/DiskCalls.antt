-- A disk in memory: the calls that it had, and what each of them leaves.
use Rattle.std.specs.Prelude.{ℕ, ◌≡◌, ◌⊎◌, List, [], ◌∷◌, length, Some, refl}
use mathlib.Core.Logic.{inl}
use Rattle.sf_outside.specs.DiskModel.{PerFile, Image, DiskFacts, Torn, of_file, with_file, written}
use Rattle.sf_outside.specs.declared.store_disk.StoreFile.{StoreFile}
use Rattle.sf_outside.specs.declared.store_disk.StoreFile.TheVariants.{Log0, Log1, Snap0, Snap1, Hist}
use Rattle.sf_outside.specs.SinceMoments.{SomeSince, counts_last, last_only}

-- a call: one that changes nothing on the disk, a write that was done, a sync, or a mount
pub data DiskCall : Type 0 where
  Quiet : DiskCall
  Write : StoreFile → ℕ → List ℕ → DiskCall
  Sync : StoreFile → DiskCall
  Mount : DiskCall

-- a file: what a read gives, what it was at the last sync, and place and length of each write since, the newest first
pub record FileHistory : Type 0 where
  pub now : List ℕ
  pub synced : List ℕ
  pub writes : List (ℕ × ℕ)

-- a file that a crash leaves as a read gives it
abbrev pub clean_file : List ℕ → FileHistory
clean_file bytes = record { now = bytes; synced = bytes; writes = [] }

abbrev pub file_after_write : ℕ → List ℕ → FileHistory → FileHistory
file_after_write at bytes file = record { now = written file.now at bytes; synced = file.synced; writes = (at, length bytes) ∷ file.writes }

abbrev pub file_after_sync : FileHistory → FileHistory
file_after_sync file = record { now = file.now; synced = file.now; writes = [] }

-- the files of a disk that begins with this image
abbrev pub clean_files : Image → PerFile FileHistory
clean_files start = record {
  log0 = clean_file start.log0;
  log1 = clean_file start.log1;
  snap0 = clean_file start.snap0;
  snap1 = clean_file start.snap1;
  hist = clean_file start.hist;
}

-- no file has a byte
abbrev pub no_bytes : Image
no_bytes = record { log0 = []; log1 = []; snap0 = []; snap1 = []; hist = [] }

abbrev pub after_call : DiskCall → PerFile FileHistory → PerFile FileHistory
after_call Quiet files = files
after_call (Write file at bytes) files = with_file file (file_after_write at bytes (of_file file files)) files
after_call (Sync file) files = with_file file (file_after_sync (of_file file files)) files
after_call Mount files = record {
  log0 = file_after_sync files.log0;
  log1 = file_after_sync files.log1;
  snap0 = file_after_sync files.snap0;
  snap1 = file_after_sync files.snap1;
  hist = file_after_sync files.hist;
}

-- the files after these calls, from the first on
abbrev pub after_calls : List DiskCall → PerFile FileHistory → PerFile FileHistory
after_calls [] files = files
after_calls (call ∷ calls) files = after_calls calls (after_call call files)

-- the files of a disk that began with this image and had these calls
abbrev pub files_after : Image → List DiskCall → PerFile FileHistory
files_after start calls = after_calls calls (clean_files start)

-- what a read gives
abbrev pub bytes_now : PerFile FileHistory → Image
bytes_now files = record { log0 = files.log0.now; log1 = files.log1.now; snap0 = files.snap0.now; snap1 = files.snap1.now; hist = files.hist.now }

-- torn by these writes, the newest first
abbrev pub TornBy : List (ℕ × ℕ) → List ℕ → List ℕ → Type 0
TornBy [] old new = new ≡ old
TornBy (write ∷ writes) old new = (between : List ℕ) × TornBy writes old between × Torn write.0 write.1 between new

-- a crash leaves a file as a read gives it, or as it was at the last sync, torn by the writes since
abbrev pub FileLeaves : FileHistory → List ℕ → Type 0
FileLeaves file bytes = (bytes ≡ file.now) ⊎ TornBy file.writes file.synced bytes

-- each file for itself
pub record Leaves (files : PerFile FileHistory) (image : Image) : Type 0 where
  pub each : (file : StoreFile) → FileLeaves (of_file file files) (of_file file image)

-- file by file
pub reads_each : (files : PerFile FileHistory) (file : StoreFile) → of_file file (bytes_now files) ≡ (of_file file files).now
reads_each files Log0 = refl
reads_each files Log1 = refl
reads_each files Snap0 = refl
reads_each files Snap1 = refl
reads_each files Hist = refl

-- a disk as it reads is one of its images
pub leaves_now : (files : PerFile FileHistory) → Leaves files (bytes_now files)
leaves_now files = record { each = λ file. inl (reads_each files file) }

-- what is told of such a disk: a moment is the number of calls so far
abbrev pub facts_after : Image → List DiskCall → DiskFacts
facts_after start calls = record {
  seen = Some (bytes_now (files_after start calls));
  may_leave = Leaves (files_after start calls);
  moment = length calls;
  left_since = λ since image. SomeSince (λ first. Leaves (files_after start first) image) calls since;
  told = λ image leaves. refl;
  reads = leaves_now (files_after start calls);
  counts_now = λ since image within leaves. counts_last (λ first. Leaves (files_after start first) image) calls since within leaves;
  only_now = λ image left. last_only (λ first. Leaves (files_after start first) image) calls left;
}

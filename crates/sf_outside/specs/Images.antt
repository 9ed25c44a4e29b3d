-- The image of a disk in memory at a moment: what a crash leaves there, with one byte wherever any may stand and each file as long as it may be.
use Rattle.std.specs.Prelude.{ℕ, ◌≡◌, ◌+◌, ◌-◌, ◌≤◌, List, [], ◌∷◌, length, min, max, replicate, None}
use Rattle.sf_outside.specs.DiskModel.{PerFile, Image, DiskFacts, of_file, with_file, written, written_end}
use Rattle.sf_outside.specs.DiskCalls.{DiskCall, Quiet, Write, Sync, Mount, FileHistory, files_after}
use Rattle.sf_outside.specs.DiskState.{DiskState}
use Rattle.sf_outside.specs.declared.store_disk.StoreFile.{StoreFile}

-- a file torn by a write of n bytes: this byte stands from the place, or the old end before it, up to the written end
abbrev pub filled : ℕ → ℕ → ℕ → List ℕ → List ℕ
filled fill at n file = written file (min at (length file)) (replicate (written_end at n - min at (length file)) fill)

-- torn so by these writes, the newest first
abbrev pub filled_by : ℕ → List (ℕ × ℕ) → List ℕ → List ℕ
filled_by fill [] file = file
filled_by fill (write ∷ writes) file = filled fill write.0 write.1 (filled_by fill writes file)

-- what was synced, torn so by the writes since
abbrev pub file_left : ℕ → FileHistory → List ℕ
file_left fill file = filled_by fill file.writes file.synced

abbrev pub files_left : ℕ → PerFile FileHistory → Image
files_left fill files = record {
  log0 = file_left fill files.log0;
  log1 = file_left fill files.log1;
  snap0 = file_left fill files.snap0;
  snap1 = file_left fill files.snap1;
  hist = file_left fill files.hist;
}

-- the image of a disk that began with this one and had these calls
abbrev pub image_after : ℕ → Image → List DiskCall → Image
image_after fill start calls = files_left fill (files_after start calls)

-- no image that a crash may leave has a longer file
abbrev pub IsLongest : DiskFacts → Image → Type 0
IsLongest facts image = (other : Image) → facts.may_leave other → (file : StoreFile) → length (of_file file other) ≤ length (of_file file image)

-- how many bytes the longest file has
abbrev pub longest : Image → ℕ
longest image = max (max (max (max (length image.log0) (length image.log1)) (length image.snap0)) (length image.snap1)) (length image.hist)

-- a disk that begins with this image, with room for so many bytes behind the longest file and for so many calls, of which none is to fail
abbrev pub begun_with : ℕ → ℕ → Image → DiskState
begun_with bytes calls image = record {
  start = image;
  calls = [];
  limit = calls;
  room = longest image + bytes;
  fail_at = [];
  made = 0;
  faults = 0;
  mounts = record { count = 0; name = None; moment = 0; refusals = [] };
}

-- ---- call by call

-- what a read gives behind a call
abbrev pub now_after : DiskCall → Image → Image
now_after Quiet now = now
now_after (Write file at bytes) now = with_file file (written (of_file file now) at bytes) now
now_after (Sync file) now = now
now_after Mount now = now

-- the image behind a call, by what a read gave before it
abbrev pub left_after : ℕ → DiskCall → Image → Image → Image
left_after fill Quiet now left = left
left_after fill (Write file at bytes) now left = with_file file (filled fill at (length bytes) (of_file file left)) left
left_after fill (Sync file) now left = with_file file (of_file file now) left
left_after fill Mount now left = now

-- each file is as long in the one as in the other
pub record SameLengths (one other : Image) : Type 0 where
  pub each : (file : StoreFile) → length (of_file file one) ≡ length (of_file file other)

-- What the files of a disk in memory show.
use Rattle.std.specs.Prelude.{ℕ, ◌≤◌, List, length}
use Rattle.sf_outside.specs.DiskModel.{Image, of_file}
use Rattle.sf_outside.specs.declared.store_disk.StoreFile.{StoreFile}

-- a file: its bytes, and how many it can hold
pub record FileRoom : Type 0 where
  pub bytes : List ℕ
  pub room : ℕ

-- the files, and how many bytes each can hold
pub record FilesRoom : Type 0 where
  pub image : Image
  pub room : ℕ

-- each file has at most so many bytes
pub record FitsIn (room : ℕ) (image : Image) : Type 0 where
  pub each : (file : StoreFile) → length (of_file file image) ≤ room

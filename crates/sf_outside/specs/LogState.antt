-- What the log of a disk in memory shows.
use Rattle.std.specs.Prelude.{ℕ, ◌+◌, List, [], ◌∷◌, length}
use Rattle.sf_outside.specs.DiskCalls.{DiskCall, Quiet, Write, Sync, Mount}

-- the calls, how many it can take, and how many bytes all its writes may have
pub record LogState : Type 0 where
  pub calls : List DiskCall
  pub limit : ℕ
  pub room : ℕ

-- how many bytes the writes have
abbrev pub bytes_written : List DiskCall → ℕ
bytes_written [] = 0
bytes_written (Quiet ∷ calls) = bytes_written calls
bytes_written (Write file at bytes ∷ calls) = length bytes + bytes_written calls
bytes_written (Sync file ∷ calls) = bytes_written calls
bytes_written (Mount ∷ calls) = bytes_written calls

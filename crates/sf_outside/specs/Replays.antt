-- Files on which the first notes of a log are played.
use Rattle.std.specs.Prelude.{ℕ, ◌≡◌, List}
use Rattle.sf_outside.specs.declared.call_log.Note.{Note}
use Rattle.sf_outside.specs.CallLog.{calls_of, noted_bytes}
use Rattle.sf_outside.specs.DiskCalls.{files_after, bytes_now}
use Rattle.sf_outside.specs.DiskFiles.{FilesRoom}
use Rattle.sf_outside.specs.Images.{image_after, SameLengths}

-- The files on the one side are as a read gives them behind these notes, those on the other as a crash leaves them. Both
-- were the same at first, and so many bytes of the writes were used.
pub record Played (fill : ℕ) (bytes : List ℕ) (began_now began_left : FilesRoom) (notes : List Note) (spent : ℕ) (now_files left_files : FilesRoom) : Type 0 where
  pub used : spent ≡ noted_bytes notes
  pub now : now_files ≡ record began_now { image = bytes_now (files_after began_now.image (calls_of notes bytes)) }
  pub left : left_files ≡ record began_left { image = image_after fill began_now.image (calls_of notes bytes) }
  pub same : SameLengths now_files.image left_files.image

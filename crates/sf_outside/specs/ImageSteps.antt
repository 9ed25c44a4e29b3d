-- Images that come from earlier ones by a step of one file.
use Rattle.std.specs.Prelude.{ℕ, ◌≡◌, ◌≢◌, List}
use Rattle.sf_outside.specs.DiskModel.{Image, DiskFacts, of_file, with_file, TornFile, IsDurable}
use Rattle.sf_outside.specs.declared.store_disk.StoreFile.{StoreFile}

-- an image that comes from an earlier one by a write of n bytes to this file, whole or torn
abbrev pub ComesTorn : StoreFile → ℕ → ℕ → DiskFacts → Image → Type 0
ComesTorn file at n old image = (before : Image) × old.may_leave before × TornFile file at n before image

-- an image that comes from an earlier one by such a step of this file, the other files being the same
pub record ComesBy (file : StoreFile) (Step : List ℕ → List ℕ → Type 0) (old : DiskFacts) (image : Image) : Type 0 where
  pub before : Image
  pub left : old.may_leave before
  pub step : Step (of_file file before) (of_file file image)
  pub others : image ≡ with_file file (of_file file image) before

-- each other file that a crash left as a read gave it is left so still
abbrev pub OthersStayDurable : StoreFile → DiskFacts → DiskFacts → Type 0
OthersStayDurable file old new = (other : StoreFile) → other ≢ file → IsDurable other old → IsDurable other new

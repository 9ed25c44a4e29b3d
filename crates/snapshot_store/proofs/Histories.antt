-- The file of the history: when its front is kept, and what a write behind it makes of it.
use Rattle.std.proofs.Common.{ℕ, List}
use Rattle.sf_outside.specs.declared.store_disk.StoreFile.{StoreFile}
use Rattle.sf_outside.specs.declared.store_disk.StoreFile.TheVariants.{Hist}
use Rattle.sf_outside.specs.DiskModel.{Image, DiskFacts, Torn, LeavesOnly, SeenWritten, IsDurable}
use Rattle.sf_outside.specs.ImageSteps.{ComesTorn, ComesBy}
use Rattle.sf_outside.proofs.DiskLaws.{left_now, LeavesOnly-weaker}
use Rattle.sf_outside.proofs.ImageSteps.{comes_torn, comes_weaker, written_stands}
pub use Rattle.snapshot_store.specs.FrontLaws.{front_same, front_part, front_then}
use Rattle.snapshot_store.specs.SlotSteps.{KeepsFront, AddsBehind}

-- ---- one file

-- a torn write behind it
pub front_torn : (at n : ℕ) (before now : List ℕ) → Torn at n before now → KeepsFront at before now
front_torn at n before now torn = record { front = torn.before; no_shorter = torn.no_shorter }

-- ---- the disk

-- at each moment of a torn write
pub torn_moments : (file : StoreFile) (at n : ℕ) (old new : DiskFacts) → LeavesOnly old new (ComesTorn file at n old) → LeavesOnly old new (ComesBy file (KeepsFront at) old)
torn_moments file at n old new moments =
    LeavesOnly-weaker old new (ComesTorn file at n old) (ComesBy file (KeepsFront at) old) moments
    (λ image torn. comes_torn file at n (KeepsFront at) old image (front_torn at n) torn)

-- once it is safe, the bytes stand behind the front
pub added_now : (at : ℕ) (more : List ℕ) (old new : DiskFacts) → LeavesOnly old new (ComesBy Hist (KeepsFront at) old) → SeenWritten Hist at more old new → IsDurable Hist new
    → (image : Image) → new.may_leave image → ComesBy Hist (AddsBehind at more) old image
added_now at more old new moments seen durable image left =
    let came = left_now old new (ComesBy Hist (KeepsFront at) old) moments image left in
    comes_weaker Hist (KeepsFront at) (AddsBehind at more) old image came (record {
      front = came.step;
      stands = written_stands Hist at more old.seen new.seen image (old.told came.before came.left) seen (durable image left);
    })

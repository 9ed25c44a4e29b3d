-- What the writes behind a gate make of a slot, and what a crash meanwhile leaves.
use Rattle.std.proofs.Common.{◌≡◌, ℕ, List, [], ◌∷◌, length, min, refl, arith}
use Rattle.sf_bytes.specs.ByteForms.{long_bytes}
use Rattle.sf_bytes.proofs.Stands.{Stands-length, Stands-same}
use Rattle.sf_outside.specs.declared.store_disk.StoreFile.{StoreFile}
use Rattle.sf_outside.specs.DiskModel.{Image, DiskFacts, of_file, LeavesOnly, SeenWritten, IsDurable}
use Rattle.sf_outside.specs.ImageSteps.{ComesBy}
use Rattle.sf_outside.proofs.DiskLaws.{left_now, LeavesOnly-weaker}
use Rattle.sf_outside.proofs.ImageSteps.{comes_weaker, written_stands}
use Rattle.snapshot_store.specs.SlotFile.{behind_gate}
use Rattle.snapshot_store.specs.SlotSteps.{KeepsGate, KeepsFront, Fills}

pub long-length : (n : ℕ) → length (long_bytes n) ≡ 8
unfolding long_bytes
long-length n = refl

gate_kept : (before now : List ℕ) → KeepsFront 1 before now → KeepsGate before now
gate_kept before now keeps gate stands =
    Stands-same before now (min 1 (length before)) 0 (gate ∷ []) keeps.front (omega (arith, Stands-length before 0 (gate ∷ []) stands (omega arith))) stands

module _ (slot : StoreFile) where
  abbrev pub Staged : DiskFacts → Image → Type 0
  Staged old image = ComesBy slot KeepsGate old image

  -- writes behind the gate
  pub staged_front : (old new : DiskFacts) → LeavesOnly old new (ComesBy slot (KeepsFront 1) old) → LeavesOnly old new (Staged old)
  staged_front old new moments =
      LeavesOnly-weaker old new (ComesBy slot (KeepsFront 1) old) (Staged old) moments
      (λ image came. comes_weaker slot (KeepsFront 1) KeepsGate old image came (gate_kept (of_file slot came.before) (of_file slot image) came.step))

  -- and what a crash leaves then
  pub filled_now : (epoch : ℕ) (body : List ℕ) (old new : DiskFacts) → LeavesOnly old new (Staged old) → SeenWritten slot 1 (behind_gate epoch body) old new → IsDurable slot new
      → (image : Image) → new.may_leave image → ComesBy slot (Fills epoch body) old image
  filled_now epoch body old new moments seen durable image left =
      let came = left_now old new (Staged old) moments image left in
      comes_weaker slot KeepsGate (Fills epoch body) old image came (record {
        gate = came.step;
        behind = written_stands slot 1 (behind_gate epoch body) old.seen new.seen image (old.told came.before came.left) seen (durable image left);
      })

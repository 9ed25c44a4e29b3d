-- When the front of a file is kept.
use Rattle.std.proofs.Common.{ℕ, ◌≤◌, List, length, min, refl, ◌∙◌, arith}
use Rattle.sf_bytes.proofs.Stands.{front-shorter}
use Rattle.snapshot_store.specs.SlotSteps.{KeepsFront}

pub front_same : (at : ℕ) (file : List ℕ) → KeepsFront at file file
front_same at file = record { front = refl; no_shorter = omega arith }

-- a part of it
pub front_part : (part at : ℕ) (before now : List ℕ) → part ≤ at → KeepsFront at before now → KeepsFront part before now
front_part part at before now within keeps = record {
  front = front-shorter before now (min at (length before)) (min part (length before)) keeps.front (omega (arith, within));
  no_shorter = keeps.no_shorter;
}

-- one step after another
pub front_then : (at : ℕ) (a b c : List ℕ) → KeepsFront at a b → KeepsFront at b c → KeepsFront at a c
front_then at a b c first second = record {
  front = front-shorter b c (min at (length b)) (min at (length a)) second.front (omega (arith, first.no_shorter)) ∙ first.front;
  no_shorter = omega (arith, first.no_shorter, second.no_shorter);
}

use Rattle.std.proofs.Common.{◌≡◌, ◌≤◌, ℕ, length, drop, nat_eq}
use Rattle.std.specs.Prelude.{◌==◌}
use Rattle.std.specs.List.{position_from}
use Rattle.indexmap.specs.IndexMap.{get}
use Rattle.py_tree.specs.ClassViews.{numbers_of}
use Rattle.py_tree.proofs.class_index.places_of.Given as goal

abbrev pub decreases-loop-at : goal.decreases-loop-at
decreases-loop-at l = l.at

abbrev pub invariant-loop-at : goal.invariant-loop-at
invariant-loop-at l = record {
  within : l.at ≤ length l.names;
  so_far : (name : ℕ) → get nat_eq l.places name ≡ position_from (λ n. n == name) l.at (numbers_of (drop l.at l.names));
}

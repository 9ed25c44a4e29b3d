use Rattle.std.proofs.Common.{◌≡◌, ◌≤◌, ℕ, false, length, drop}
use Rattle.py_tree.specs.PlainExpressions.{plain_exprs, exprs_of}
use Rattle.call_graph.specs.SuspendingCode.{exprs_suspend}
use Rattle.hoisting.specs.Views.{leaves_of}
use Rattle.expression_hoister.proofs.wants.up_to_last.Given as goal

abbrev pub invariant-loop-count : goal.invariant-loop-count
invariant-loop-count l = record {
  within : l.count ≤ length l.items;
  behind : (k : ℕ) → l.count ≤ k → exprs_suspend (leaves_of l.setting) (exprs_of (plain_exprs (drop k l.items))) ≡ false;
}

abbrev pub decreases-loop-count : goal.decreases-loop-count
decreases-loop-count l = l.count

use Rattle.std.proofs.Common.{◌≡◌, ◌++◌, length, reverse}
use Rattle.method_splitter.proofs.turning.turn.Given as goal

abbrev pub invariant-loop-left : goal.invariant-loop-left
invariant-loop-left g l = record {
  count : l.left ≡ length l.list;
  so_far : l.made ++ reverse l.list ≡ reverse l.initial.list;
}

abbrev pub decreases-loop-left : goal.decreases-loop-left
decreases-loop-left g l = l.left

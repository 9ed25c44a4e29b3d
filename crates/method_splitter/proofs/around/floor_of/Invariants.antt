use Rattle.std.proofs.Common.{◌≡◌, ◌≤◌, length, drop}
use Rattle.method_splitter.specs.Split as spec
use Rattle.method_splitter.specs.Rests.{plain_caughts}
use Rattle.method_splitter.proofs.around.floor_of.Given as goal

abbrev pub invariant-loop-at : goal.invariant-loop-at
invariant-loop-at l = record {
  within : l.at ≤ length l.catches;
  last : l.low ≡ spec.floor (drop l.at (plain_caughts l.catches));
}

abbrev pub decreases-loop-at : goal.decreases-loop-at
decreases-loop-at l = l.at

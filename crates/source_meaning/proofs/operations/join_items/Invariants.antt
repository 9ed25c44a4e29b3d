use Rattle.std.proofs.Common.{◌≡◌, ◌++◌, take}
use Rattle.source_meaning.proofs.operations.join_items.Given as goal

abbrev pub invariant-loop-value : goal.invariant-loop-value
invariant-loop-value l = l.made ≡ l.left ++ take l.value-index l.right

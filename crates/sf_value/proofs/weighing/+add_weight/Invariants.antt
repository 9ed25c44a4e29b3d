use Rattle.std.proofs.Common.{◌≡◌, ◌+◌, ◌≤◌, drop, min}
use Rattle.std.specs.List.{sum_by}
use Rattle.sf_value.specs.Weight.{weight_of}
use Rattle.sf_value.proofs.weighing.+add_weight.Given as goal

abbrev pub invariant-loop-item : goal.invariant-loop-item
invariant-loop-item l = (l.total ≤ 65537) × (min (l.total + sum_by weight_of (drop l.item-index l.item-items)) 65537 ≡ min (l.so_far + (1 + sum_by weight_of l.item-items)) 65537)

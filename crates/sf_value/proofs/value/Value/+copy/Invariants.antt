use Rattle.std.proofs.Common.{◌≡◌, take}
use Rattle.sf_value.proofs.value.Value.+copy.Given as goal

abbrev pub invariant-loop-item : goal.invariant-loop-item
invariant-loop-item l = l.made ≡ take l.item-index l.item-items

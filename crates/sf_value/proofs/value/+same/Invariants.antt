use Rattle.std.proofs.Common.{◌≡◌, take}
use Rattle.sf_value.proofs.value.+same.Given as goal

abbrev pub invariant-same_all-loop-i : goal.invariant-same_all-loop-i
invariant-same_all-loop-i l = take l.i l.xs ≡ take l.i l.ys

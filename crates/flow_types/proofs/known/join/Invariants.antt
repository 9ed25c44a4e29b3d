use Rattle.std.proofs.Common.{◌≡◌, take}
use Rattle.py_tree.specs.Flow.{joined}
use Rattle.flow_types.specs.Views.{plain_standings}
use Rattle.flow_types.proofs.known.join.Given as goal

abbrev pub invariant-loop-i : goal.invariant-loop-i
invariant-loop-i l = plain_standings l.made ≡ joined (plain_standings (take l.i l.first)) (plain_standings (take l.i l.second))

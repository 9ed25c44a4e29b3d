use Rattle.std.proofs.Common.{◌≡◌, take}
use Rattle.py_tree.specs.Flow.{known_at}
use Rattle.entity_types.specs.Views.{plain_locals}
use Rattle.flow_types.specs.Views.{plain_standings}
use Rattle.flow_types.proofs.known.known_at.Given as goal

abbrev pub invariant-loop-local : goal.invariant-loop-local
invariant-loop-local l = plain_standings l.made ≡ known_at (plain_locals (take l.local-index l.locals))

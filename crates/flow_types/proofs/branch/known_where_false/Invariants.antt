use Rattle.std.proofs.Common.{◌≡◌, false, take}
use Rattle.py_tree.specs.PlainExpressions.{plain_expr}
use Rattle.py_tree.specs.FlowEnvironment.{shown, narrowed}
use Rattle.py_tree.specs.Flow.{known_at}
use Rattle.entity_types.specs.Views.{plain_locals}
use Rattle.flow_types.specs.Views.{plain_standings}
use Rattle.flow_types.proofs.branch.known_where_false.Given as goal

abbrev pub invariant-loop-local : goal.invariant-loop-local
invariant-loop-local l = plain_standings l.made ≡ known_at (narrowed (shown false (plain_expr l.test)) (plain_locals (take l.local-index l.locals)))

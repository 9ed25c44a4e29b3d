use Rattle.std.proofs.Common.{◌≡◌, ◌++◌, length, take, drop}
use Rattle.py_tree.specs.PlainExpressions.{plain_expr}
use Rattle.py_tree.specs.FlowEnvironment.{shown, narrowed}
use Rattle.entity_types.specs.Views.{plain_locals}
use Rattle.entity_types.specs.Scopes.{known_by}
use Rattle.entity_types.proofs.narrowing.mark_shown.Given as goal

abbrev pub invariant-loop-i : goal.invariant-loop-i
invariant-loop-i l = record {
  count : length l.not_none ≡ length l.locals;
  marked : narrowed (shown l.truth (plain_expr l.test)) (known_by (plain_locals l.locals) l.initial.not_none) ≡ take l.i (known_by (plain_locals l.locals) l.not_none) ++ narrowed (shown l.truth (plain_expr l.test)) (drop l.i (known_by (plain_locals l.locals) l.not_none));
}

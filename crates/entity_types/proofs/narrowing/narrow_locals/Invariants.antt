use Rattle.std.proofs.Common.{◌≡◌, ◌++◌, length, take, drop}
use Rattle.py_tree.specs.PlainExpressions.{plain_expr}
use Rattle.py_tree.specs.FlowEnvironment.{shown, narrowed}
use Rattle.entity_types.specs.Views.{plain_locals}
use Rattle.entity_types.proofs.narrowing.narrow_locals.Given as goal

abbrev pub invariant-loop-i : goal.invariant-loop-i
invariant-loop-i l = record {
  count : length l.locals ≡ length l.initial.locals;
  marked : narrowed (shown l.truth (plain_expr l.test)) (plain_locals l.initial.locals) ≡ take l.i (plain_locals l.locals) ++ narrowed (shown l.truth (plain_expr l.test)) (drop l.i (plain_locals l.locals));
}

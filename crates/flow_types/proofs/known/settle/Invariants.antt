use Rattle.std.proofs.Common.{◌≡◌, ◌++◌, length, take, drop}
use Rattle.py_tree.specs.Flow.{settled}
use Rattle.entity_types.specs.Views.{plain_locals}
use Rattle.flow_types.specs.Views.{plain_standings}
use Rattle.flow_types.proofs.known.settle.Given as goal

abbrev pub invariant-loop-i : goal.invariant-loop-i
invariant-loop-i l = record {
  count : length l.locals ≡ length l.initial.locals;
  settles : settled (plain_locals l.initial.locals) (plain_standings l.known) ≡ take l.i (plain_locals l.locals) ++ settled (drop l.i (plain_locals l.locals)) (drop l.i (plain_standings l.known));
}

use Rattle.std.proofs.Common.{◌≡◌, [], ◌∷◌, ◌++◌, length, take, drop}
use Rattle.py_tree.specs.Flow.{at_head}
use Rattle.entity_types.specs.Views.{plain_locals}
use Rattle.flow_types.proofs.head.forget.Given as goal

abbrev pub invariant-loop-i : goal.invariant-loop-i
invariant-loop-i l = record {
  count : length l.locals ≡ length l.initial.locals;
  forgets : at_head (l.name.0 ∷ []) (plain_locals l.initial.locals) ≡ take l.i (plain_locals l.locals) ++ at_head (l.name.0 ∷ []) (drop l.i (plain_locals l.locals));
}

use Rattle.std.proofs.Common.{◌≡◌, ◌++◌, length, map, take, drop}
use Rattle.entity_types.specs.Views.{plain_locals}
use Rattle.method_hoister.specs.SmallCode.{given_by}
use Rattle.method_hoister.proofs.loops.give.Given as goal

abbrev pub invariant-loop-i : goal.invariant-loop-i
invariant-loop-i l = record {
  count : length l.locals ≡ length l.initial.locals;
  gives : map (given_by l.name.0 l.not_none) (plain_locals l.initial.locals) ≡ take l.i (plain_locals l.locals) ++ map (given_by l.name.0 l.not_none) (drop l.i (plain_locals l.locals));
}

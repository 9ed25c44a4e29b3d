use Rattle.std.proofs.Common.{◌≡◌, ◌++◌, length, map, take, drop}
use Rattle.entity_types.specs.Views.{plain_locals}
use Rattle.flow_types.specs.Views.{given_by}
use Rattle.flow_types.proofs.locals.give.Given as goal

abbrev pub invariant-loop-i : goal.invariant-loop-i
invariant-loop-i l = record {
  count : length l.locals ≡ length l.initial.locals;
  gives : map (given_by l.name.0 l.may_be_none) (plain_locals l.initial.locals) ≡ take l.i (plain_locals l.locals) ++ map (given_by l.name.0 l.may_be_none) (drop l.i (plain_locals l.locals));
}

use Rattle.std.proofs.Common.{◌≡◌, drop}
use Rattle.py_tree.specs.FlowEnvironment.{local_of}
use Rattle.entity_types.specs.Views.{plain_locals}
use Rattle.method_hoister.proofs.targets.type_before.Given as goal

abbrev pub invariant-loop-local : goal.invariant-loop-local
invariant-loop-local l = local_of (plain_locals l.locals) l.name.0 ≡ local_of (plain_locals (drop l.local-index l.locals)) l.name.0

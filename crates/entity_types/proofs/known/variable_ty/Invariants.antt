use Rattle.std.proofs.Common.{◌≡◌, drop}
use Rattle.py_tree.specs.FlowEnvironment.{local_of}
use Rattle.entity_types.specs.Views.{plain_locals}
use Rattle.entity_types.specs.Scopes.{known_by}
use Rattle.entity_types.proofs.known.variable_ty.Given as goal

abbrev pub invariant-loop-i : goal.invariant-loop-i
invariant-loop-i l = local_of (known_by (plain_locals l.locals) l.not_none) l.name.0 ≡ local_of (known_by (plain_locals (drop l.i l.locals)) (drop l.i l.not_none)) l.name.0

use Rattle.std.proofs.Common.{◌≡◌, map, drop}
use Rattle.py_tree.specs.ExpressionTypes.{method_in}
use Rattle.entity_tables.specs.Views.{plain_sig}
use Rattle.entity_types.proofs.lookup.method_in.Given as goal

abbrev pub invariant-loop-method : goal.invariant-loop-method
invariant-loop-method l = method_in (map plain_sig l.methods) l.name.0 ≡ method_in (map plain_sig (drop l.method-index l.methods)) l.name.0

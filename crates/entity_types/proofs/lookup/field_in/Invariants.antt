use Rattle.std.proofs.Common.{◌≡◌, map, drop}
use Rattle.py_tree.specs.ExpressionTypes.{field_in}
use Rattle.entity_tables.specs.Views.{plain_field}
use Rattle.entity_types.proofs.lookup.field_in.Given as goal

abbrev pub invariant-loop-field : goal.invariant-loop-field
invariant-loop-field l = field_in (map plain_field l.fields) l.name.0 ≡ field_in (map plain_field (drop l.field-index l.fields)) l.name.0

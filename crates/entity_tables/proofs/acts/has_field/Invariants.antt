use Rattle.std.proofs.Common.{◌≡◌, drop}
use Rattle.py_tree.specs.ClassRules.{is_field}
use Rattle.py_tree.specs.ClassViews.{numbers_of}
use Rattle.entity_tables.proofs.acts.has_field.Given as goal

abbrev pub invariant-loop-field : goal.invariant-loop-field
invariant-loop-field l = is_field (numbers_of l.fields) l.name.0 ≡ is_field (numbers_of (drop l.field-index l.fields)) l.name.0

use Rattle.std.proofs.Common.{◌≡◌, ◌≤◌}
use Rattle.py_tree.specs.PlainStatements.{plain_stmts}
use Rattle.py_tree.specs.ClassRules.{fields_of, field_place}
use Rattle.py_tree.proofs.KeyLaws.{field_from}
use Rattle.py_tree.proofs.key.field_place.Given as goal

abbrev pub invariant-loop-stmt : goal.invariant-loop-stmt
invariant-loop-stmt l = record {
  so_far : field_place (fields_of (plain_stmts l.body)) l.name.0 ≡ field_from l.place l.stmt-index l.body l.name.0;
  few : l.place ≤ l.stmt-index;
}

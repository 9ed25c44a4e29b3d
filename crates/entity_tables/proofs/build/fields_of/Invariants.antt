use Rattle.std.proofs.Common.{◌≡◌, map, take}
use Rattle.py_tree.specs.PlainStatements.{plain_stmts}
use Rattle.py_tree.specs.ClassRules.{fields_of}
use Rattle.entity_tables.specs.Views.{plain_field}
use Rattle.entity_tables.proofs.build.fields_of.Given as goal

abbrev pub invariant-loop-stmt : goal.invariant-loop-stmt
invariant-loop-stmt l = map plain_field l.made ≡ fields_of (plain_stmts (take l.stmt-index l.body))

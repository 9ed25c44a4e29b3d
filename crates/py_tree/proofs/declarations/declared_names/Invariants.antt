use Rattle.std.proofs.Common.{◌≡◌, take}
use Rattle.py_tree.specs.PlainStatements.{plain_stmts}
use Rattle.py_tree.specs.ClassRules.{field_names}
use Rattle.py_tree.specs.ClassViews.{numbers_of}
use Rattle.py_tree.proofs.declarations.declared_names.Given as goal

abbrev pub invariant-loop-stmt : goal.invariant-loop-stmt
invariant-loop-stmt l = numbers_of l.declared.items ≡ field_names (plain_stmts (take l.stmt-index l.body))

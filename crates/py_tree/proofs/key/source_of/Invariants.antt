use Rattle.std.proofs.Common.{◌≡◌, drop}
use Rattle.py_tree.specs.PlainStatements.{plain_stmts}
use Rattle.py_tree.specs.ClassRules.{source_of}
use Rattle.py_tree.proofs.key.source_of.Given as goal

abbrev pub invariant-loop-stmt : goal.invariant-loop-stmt
invariant-loop-stmt l = source_of (plain_stmts l.body) l.name.0 ≡ source_of (plain_stmts (drop l.stmt-index l.body)) l.name.0

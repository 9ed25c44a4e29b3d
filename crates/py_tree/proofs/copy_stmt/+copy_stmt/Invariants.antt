use Rattle.std.proofs.Common.{◌≡◌, take}
use Rattle.py_tree.specs.PlainStatements.{plain_stmts, plain_arms}
use Rattle.py_tree.proofs.copy_stmt.+copy_stmt.Given as goal

abbrev pub invariant-copy_stmts-loop-stmt : goal.invariant-copy_stmts-loop-stmt
invariant-copy_stmts-loop-stmt l = plain_stmts l.made ≡ plain_stmts (take l.stmt-index l.stmt-items)

abbrev pub invariant-copy_arms-loop-arm : goal.invariant-copy_arms-loop-arm
invariant-copy_arms-loop-arm l = plain_arms l.made ≡ plain_arms (take l.arm-index l.arm-items)

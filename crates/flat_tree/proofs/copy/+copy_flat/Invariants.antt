use Rattle.std.proofs.Common.{◌≡◌, take}
use Rattle.flat_tree.specs.PlainFlat.{plain_flat_stmts, plain_flat_arms, plain_flat_clauses, plain_operands}
use Rattle.flat_tree.proofs.copy.+copy_flat.Given as goal

abbrev pub invariant-copy_stmts-loop-stmt : goal.invariant-copy_stmts-loop-stmt
invariant-copy_stmts-loop-stmt l = plain_flat_stmts l.made ≡ plain_flat_stmts (take l.stmt-index l.stmt-items)

abbrev pub invariant-copy_arms-loop-arm : goal.invariant-copy_arms-loop-arm
invariant-copy_arms-loop-arm l = plain_flat_arms l.made ≡ plain_flat_arms (take l.arm-index l.arm-items)

abbrev pub invariant-copy_operands-loop-operand : goal.invariant-copy_operands-loop-operand
invariant-copy_operands-loop-operand l = plain_operands l.made ≡ plain_operands (take l.operand-index l.operand-items)

abbrev pub invariant-copy_clauses-loop-clause : goal.invariant-copy_clauses-loop-clause
invariant-copy_clauses-loop-clause l = plain_flat_clauses l.made ≡ plain_flat_clauses (take l.clause-index l.clause-items)

use Rattle.std.proofs.Common.{◌≡◌, ◌++◌, take, drop}
use Rattle.flat_tree.specs.PlainFlat.{plain_flat_stmts}
use Rattle.method_splitter.specs.SmallStatements.{reached_part}
use Rattle.method_splitter.proofs.walk.reached.Given as goal

abbrev pub invariant-loop-i : goal.invariant-loop-i
invariant-loop-i l = plain_flat_stmts (take l.i l.stmts) ++ reached_part (plain_flat_stmts (drop l.i l.stmts)) ≡ reached_part (plain_flat_stmts l.stmts)

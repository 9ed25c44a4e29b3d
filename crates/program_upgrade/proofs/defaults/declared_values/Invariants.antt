use Rattle.std.proofs.Common.{◌≡◌, take}
use Rattle.py_tree.specs.PlainStatements.{plain_stmts}
use Rattle.program_upgrade.specs.Lent.{exprs_in}
use Rattle.program_upgrade.specs.Defaults.{declared_values}
use Rattle.program_upgrade.proofs.defaults.declared_values.Given as goal

abbrev pub invariant-loop-stmt : goal.invariant-loop-stmt
invariant-loop-stmt l = exprs_in l.values.items ≡ declared_values (plain_stmts (take l.stmt-index l.body))

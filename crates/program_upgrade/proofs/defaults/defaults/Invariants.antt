use Rattle.std.proofs.Common.{◌≡◌, drop}
use Rattle.program_upgrade.specs.Lent.{exprs_in}
use Rattle.program_upgrade.specs.Defaults.{defaults}
use Rattle.program_upgrade.proofs.DefaultLaws.{values_from}
use Rattle.program_upgrade.proofs.defaults.defaults.Given as goal

abbrev pub invariant-loop-i : goal.invariant-loop-i
invariant-loop-i l = values_from l.names l.exprs l.i l.values ≡ defaults l.names (drop l.first (exprs_in l.exprs))

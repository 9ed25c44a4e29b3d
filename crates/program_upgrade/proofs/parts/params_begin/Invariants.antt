use Rattle.std.proofs.Common.{◌≡◌, map}
use Rattle.entity_tables.specs.Views.{plain_sig_param}
use Rattle.program_upgrade.specs.SameParts.{begins, same_param}
use Rattle.program_upgrade.proofs.BeginLaws.{from}
use Rattle.program_upgrade.proofs.parts.params_begin.Given as goal

abbrev pub invariant-loop-i : goal.invariant-loop-i
invariant-loop-i l = from plain_sig_param (same_param l.old l.new) l.earlier l.later l.i ≡ begins (same_param l.old l.new) (map plain_sig_param l.earlier) (map plain_sig_param l.later)

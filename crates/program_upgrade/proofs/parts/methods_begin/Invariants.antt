use Rattle.std.proofs.Common.{◌≡◌, map}
use Rattle.entity_tables.specs.Views.{plain_sig}
use Rattle.program_upgrade.specs.SameParts.{begins, same_method}
use Rattle.program_upgrade.proofs.BeginLaws.{from}
use Rattle.program_upgrade.proofs.parts.methods_begin.Given as goal

abbrev pub invariant-loop-i : goal.invariant-loop-i
invariant-loop-i l = from plain_sig (same_method l.old l.new) l.earlier l.later l.i ≡ begins (same_method l.old l.new) (map plain_sig l.earlier) (map plain_sig l.later)

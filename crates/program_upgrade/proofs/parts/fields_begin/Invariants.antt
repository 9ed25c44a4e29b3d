use Rattle.std.proofs.Common.{◌≡◌, map}
use Rattle.entity_tables.specs.Views.{plain_field}
use Rattle.program_upgrade.specs.SameParts.{begins, same_field}
use Rattle.program_upgrade.proofs.BeginLaws.{from}
use Rattle.program_upgrade.proofs.parts.fields_begin.Given as goal

abbrev pub invariant-loop-i : goal.invariant-loop-i
invariant-loop-i l = from plain_field (same_field l.old l.new) l.earlier l.later l.i ≡ begins (same_field l.old l.new) (map plain_field l.earlier) (map plain_field l.later)

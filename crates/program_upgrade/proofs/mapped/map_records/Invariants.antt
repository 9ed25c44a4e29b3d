use Rattle.std.proofs.Common.{◌≡◌}
use Rattle.program_upgrade.specs.Mapping.{added_by, mapped_held}
use Rattle.program_upgrade.proofs.MappedLaws.{so_far}
use Rattle.program_upgrade.proofs.mapped.map_records.Given as goal

abbrev pub invariant-loop-i : goal.invariant-loop-i
invariant-loop-i l = l.made ≡ so_far (mapped_held (added_by l.mapping)) l.i l.fn.records

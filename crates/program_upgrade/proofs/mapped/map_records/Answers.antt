use Rattle.std.proofs.Common.{arith, length, sym, ◌∙◌, ap}
use Rattle.program_upgrade.specs.Mapping.{added_by, mapped_held}
use Rattle.program_upgrade.proofs.MappedLaws.{one_changed, all_changed}
use Rattle.program_upgrade.proofs.mapped.map_records.Goals as goal

pub loop-i-preserved : goal.loop-i-preserved
loop-i-preserved c = one_changed (mapped_held (added_by c.args.mapping.now)) c.args.records c.loop-i.made c.loop-i.i c.at_mut.result.now c.add_values.new.held c.loop-i.invariant c.at_mut.ensures.value c.in_ok-add_values.ensures

pub returns : goal.returns
returns c = all_changed (mapped_held (added_by c.args.mapping.now)) c.args.records c.loop-i.made c.loop-i.i c.loop-i.invariant (omega (arith, c.len-i-end.ensures))

use Rattle.std.proofs.Common.{◌+◌, ◌-◌, ◌<◌, length, take, drop, ap, ◌∙◌, arith}
use Rattle.std.proofs.lemmas.Grind.{common_steps}
use Rattle.sf_outside.proofs.FileRooms.{room_written, room_zeros, mid_written}
use Rattle.sf_outside.proofs.disk_files.write_into.Goals as goal

pub returns-clause-zeros : goal.returns-clause-zeros
returns-clause-zeros c =
    let is = mid_written c.args.room.now c.args.bytes.now c.copy_from_slice.new.self c.args.at (c.args.at + length c.args.bytes.now - c.args.at) (omega (arith, c.requires.fits)) (omega arith) c.copy_from_slice.ensures.after in
    ap (drop c.max.result) is ∙ room_zeros c.args.room.now c.args.len c.args.at c.args.bytes.now c.requires.within c.requires.fits c.requires.zeros c.max.result (c.max.ensures)

pub returns-clause-written : goal.returns-clause-written
returns-clause-written c =
    let is = mid_written c.args.room.now c.args.bytes.now c.copy_from_slice.new.self c.args.at (c.args.at + length c.args.bytes.now - c.args.at) (omega (arith, c.requires.fits)) (omega arith) c.copy_from_slice.ensures.after in
    let some : 0 < length c.args.bytes.now = grind (arith, common_steps) in
    ap (take c.max.result) is ∙ room_written c.args.room.now c.args.len c.args.at c.args.bytes.now c.requires.within c.requires.fits c.requires.zeros c.max.result c.max.ensures some

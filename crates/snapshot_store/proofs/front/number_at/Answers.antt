use Rattle.std.proofs.Common.{◌≡◌, length, arith}
use Rattle.snapshot_store.proofs.Slots.{seen_number}
use Rattle.snapshot_store.proofs.front.number_at.Goals as goal

pub returns-clause-answer : goal.returns-clause-answer
returns-clause-answer g c =
    let buf = c.read_at.new.buf in
    let long : length buf ≡ 8 = omega (arith, c.read_at.auto.buf) in
    seen_number c.args.slot (g.D.Disk.facts c.args.disk.now).seen c.args.at c.in_ok-count.count buf c.number_of.result (omega (arith, long, c.if-count-lt8.false)) c.in_ok-count.ensures.bytes c.number_of.ensures

use Rattle.std.proofs.Common.{◌++◌, OnOk, subst, arith, length-append}
use Rattle.sf_bytes.specs.ByteForms.{long_bytes}
use Rattle.sf_outside.specs.DiskModel.{SeenWritten}
use Rattle.snapshot_store.proofs.Fillings.{long-length, staged_front}
use Rattle.snapshot_store.proofs.spelled.put_behind_gate.Goals as goal

pub put_spelled-requires-clause-end : goal.put_spelled-requires-clause-end
put_spelled-requires-clause-end g c =
    let body = g.B.Spelled.bytes_of c.args.body.now.spelled.now in
    let one = long_bytes c.args.epoch in
    let two = long_bytes c.args.body.now.size in
    omega (arith, c.requires.end, c.requires.size, long-length c.args.epoch, long-length c.args.body.now.size, length-append one two, length-append (one ++ two) body)

pub returns-clause-seen : goal.returns-clause-seen
returns-clause-seen g c =
    let body = g.B.Spelled.bytes_of c.args.body.now.spelled.now in
    let old = g.D.Disk.facts c.args.disk.now in
    let new = g.D.Disk.facts c.put_spelled.new.disk in
    subst (λ size. OnOk c.put_spelled.result (SeenWritten c.args.slot 1 (long_bytes c.args.epoch ++ long_bytes size ++ body) old new)) c.requires.size c.put_spelled.ensures.seen

pub returns-clause-moments : goal.returns-clause-moments
returns-clause-moments g c = staged_front c.args.slot (g.D.Disk.facts c.args.disk.now) (g.D.Disk.facts c.put_spelled.new.disk) c.put_spelled.ensures.moments

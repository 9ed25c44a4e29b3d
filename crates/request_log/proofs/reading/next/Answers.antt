use Rattle.std.proofs.Common.{arith}
use Rattle.request_log.proofs.Records.{seen_broken}
use Rattle.request_log.proofs.reading.next.Goals as goal

pub returns-in-Broken-clause-answer : goal.returns-in-Broken-clause-answer
returns-in-Broken-clause-answer g c =
    seen_broken c.args.file (g.D.Disk.facts c.args.disk.now).seen c.args.at c.in_ok-count.count c.read_at.new.buf (omega (arith, c.read_at.auto.buf)) c.in_ok-count.ensures.bytes c.in-Broken.ensures

use Rattle.std.proofs.Common.{length}
use Rattle.sf_outside.specs.ImageSteps.{ComesTorn}
use Rattle.sf_outside.proofs.DiskLaws.{LeavesOnly-and-no_more, IsDurable-written, IsDurable-torn, IsDurable-no_more}
use Rattle.sf_outside.proofs.synced.put_synced.Goals as goal

pub returns-in_err-write_at-clause-others : goal.returns-in_err-write_at-clause-others
returns-in_err-write_at-clause-others g c = λ other differs durable.
    IsDurable-torn c.args.file other differs c.args.at (length c.args.bytes.now) (g.D.Disk.facts c.args.disk.now) (g.D.Disk.facts c.write_at.new.self) durable c.in_err-write_at.ensures.err c.write_at.ensures.moments

pub returns-clause-moments : goal.returns-clause-moments
returns-clause-moments g c =
    let old = g.D.Disk.facts c.args.disk.now in
    LeavesOnly-and-no_more old (g.D.Disk.facts c.write_at.new.self) (g.D.Disk.facts c.sync.new.self) (ComesTorn c.args.file c.args.at (length c.args.bytes.now) old)
    c.write_at.ensures.moments c.sync.ensures.no_more

pub returns-clause-others : goal.returns-clause-others
returns-clause-others g c = λ other differs durable.
    let old = g.D.Disk.facts c.args.disk.now in
    let mid = g.D.Disk.facts c.write_at.new.self in
    IsDurable-no_more other mid (g.D.Disk.facts c.sync.new.self)
    (IsDurable-written c.args.file other differs c.args.at c.args.bytes.now old mid durable c.in_ok-write_at.ensures.ok c.write_at.ensures.moments)
    c.sync.ensures.no_more

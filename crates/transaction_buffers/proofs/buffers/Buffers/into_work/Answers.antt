use Rattle.std.proofs.Common.{ap}
use Rattle.transaction_buffers.proofs.HandedOverLaws.{reads_handed}
use Rattle.transaction_buffers.proofs.buffers.Buffers.into_work.Goals as goal

pub returns-clause-reads : goal.returns-clause-reads
returns-clause-reads c =
    reads_handed c.work_of.result c.in_ok-into_list.field-0.items c.self.inside.entities c.args.self.reads c.in_ok-into_list.ensures.entries (ap (λ b. b.reads) c.self.view_is) c.work_of.ensures

use Rattle.operator_graph.proofs.WorkLaws.{of_reads}
use Rattle.operator_graph.proofs.flight.work_of.Goals as goal

pub returns-then-failed : goal.returns-then-failed
returns-then-failed c = of_reads c.args.failed c.args.buffers c.into_reads.result c.if-failed.true c.into_reads.ensures.reads c.into_reads.ensures.writes

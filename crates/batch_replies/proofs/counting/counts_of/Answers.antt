use Rattle.std.proofs.Common.{ap, length, arith}
use Rattle.batch_output.specs.Vocabulary.{core_of}
use Rattle.batch_replies.proofs.CountLaws.{few_committed, few_replies}
use Rattle.batch_replies.proofs.counting.counts_of.Goals as goal

pub overflow_cast-committed : goal.overflow_cast-committed
overflow_cast-committed c =
    let few = few_committed (core_of c.args.engine.now) c.args.planned.now.batch.committed c.requires.made.once in
    let waiting = c.args.engine.now.few in
    let count = c.len-committed.ensures in
    omega arith

pub failure_count-requires : goal.failure_count-requires
failure_count-requires c =
    let few = few_replies c.args.engine.now c.args.planned.now c.requires in
    let waiting = c.args.engine.now.few in
    let count = ap length c.as_slice.ensures in
    omega arith

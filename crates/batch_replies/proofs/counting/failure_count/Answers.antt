use Rattle.std.proofs.Common.{◌∙◌, ◌+◌, sym, arith}
use Rattle.batch_replies.proofs.ReplyLaws.{failure_more}
use Rattle.batch_replies.proofs.counting.failure_count.Goals as goal

pub loop-reply-preserved : goal.loop-reply-preserved
loop-reply-preserved c = record {
  value =
      (λ i. c.loop-reply.invariant.value i + c.failures_in-count.ensures.value i)
      ∙ sym (failure_more c.args.replies.now c.loop-reply.reply-index c.reply-item.result c.loop-reply-test.true c.reply-item.is);
  few = omega (arith, c.loop-reply.invariant.few, c.failures_in-count.ensures.most);
}

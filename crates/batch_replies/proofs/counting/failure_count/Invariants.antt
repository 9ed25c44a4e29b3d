use Rattle.std.proofs.Common.{◌≡◌, ◌≤◌, map as over, take}
use Rattle.sf_value.specs.declared.Reply.{Reply}
use Rattle.batch_replies.specs.BatchAnswers.{failure_count}
use Rattle.batch_replies.proofs.counting.failure_count.Given as goal

abbrev pub invariant-loop-reply : goal.invariant-loop-reply
invariant-loop-reply l = record {
  value : l.count ≡ failure_count (over (λ (reply : Reply). reply.outcome) (take l.reply-index l.replies));
  few : l.count ≤ l.reply-index;
}

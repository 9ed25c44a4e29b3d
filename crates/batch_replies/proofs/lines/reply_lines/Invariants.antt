use Rattle.std.proofs.Common.{◌≡◌, take}
use Rattle.batch_output.specs.Vocabulary.{requests_at}
use Rattle.batch_replies.specs.LinesInOrder.{reply_lines}
use Rattle.batch_replies.proofs.lines.reply_lines.Given as goal

abbrev pub invariant-loop-place : goal.invariant-loop-place
invariant-loop-place l = l.lines ≡ reply_lines (requests_at l.pending (take l.place-index l.place-items)) l.planned.replies

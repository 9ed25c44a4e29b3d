use Rattle.std.proofs.Common.{sym, ap, ◌∙◌, ◌++◌, [], length, take, get_or}
use Rattle.std.specs.List.{slice_get, cons_option}
use Rattle.batch_output.specs.Vocabulary.{requests_at}
use Rattle.batch_output.proofs.Vocabulary.{given_more}
use Rattle.batch_replies.specs.LinesInOrder.{line_of, reply_lines}
use Rattle.batch_replies.proofs.ReplyLaws.{lines_given}
use Rattle.batch_replies.proofs.lines.reply_lines.Goals as goal

pub loop-place-preserved : goal.loop-place-preserved
loop-place-preserved c =
    let places = c.as_slice-place-items.result.now in
    let before = requests_at c.args.pending.now (take c.loop-place.place-index places) in
    let next = slice_get c.args.pending.now (get_or places c.loop-place.place-index 0) in
    let replies = c.args.planned.now.replies in
    c.in_ok-push_line.ensures
    ∙ (λ i. c.loop-place.invariant i ++ cons_option (line_of (c.get.ensures.value i) (c.get-in-loop-place.ensures.value i)) [])
    ∙ ap (λ n. reply_lines before replies ++ cons_option (line_of next (slice_get replies n)) []) (c.len-next.ensures ∙ ap length c.loop-place.invariant)
    ∙ sym (lines_given before replies next)
    ∙ sym (ap (λ rs. reply_lines rs replies) (given_more (slice_get c.args.pending.now) places c.loop-place.place-index c.loop-place-test.true))

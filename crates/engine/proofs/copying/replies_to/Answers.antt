use Rattle.std.proofs.Common.{◌≡◌, ◌+◌, ap, sym, ◌∙◌, ◌++◌, ◌∷◌, [], take, length, arith}
use Rattle.std.proofs.lemmas.List.{length-take}
use Rattle.engine.specs.Batches.{replies_from}
use Rattle.engine.proofs.CopyLaws.{copied_more, reply_more}
use Rattle.engine.proofs.copying.replies_to.Goals as goal

pub loop-entry-preserved : goal.loop-entry-preserved
loop-entry-preserved c =
    let before = c.loop-entry.invariant.seq in
    let within = c.loop-entry-test.true in
    let count = length-take c.loop-entry.entry-index c.args.entries.now in
    let place : c.loop-entry.seq + 1 ≡ c.args.before + 1 + length (take c.loop-entry.entry-index c.args.entries.now) = omega arith in
    record {
      seq = omega arith;
      replies =
          c.in_ok-push.ensures.ok
          ∙ (λ i. c.loop-entry.invariant.replies i ++ record { seq = place i; outcome = c.in_ok-outcome.ensures i } ∷ [])
          ∙ sym (ap (replies_from (c.args.before + 1)) (copied_more c.args.entries.now c.loop-entry.entry-index c.entry-item.result c.loop-entry-test.true c.entry-item.is) ∙ reply_more (c.args.before + 1) (take c.loop-entry.entry-index c.args.entries.now) c.entry-item.result);
    }

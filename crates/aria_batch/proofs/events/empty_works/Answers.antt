use Rattle.std.proofs.Common.{◌≡◌, ◌∙◌, ap, arith}
use Rattle.batch_events.specs.Vocabulary.{no_works}
use Rattle.aria_batch.proofs.events.empty_works.Goals as goal

pub returns : goal.returns
returns c =
    let last = c.loop-test.false in
    let below = c.loop.auto.counter-end in
    let all : c.loop.counter ≡ c.args.count = omega arith in
    c.loop.invariant ∙ ap no_works all

use Rattle.std.proofs.Common.{sym, ◌∙◌, ◌++◌, []}
use Rattle.std.specs.List.{slice_get, cons_option}
use Rattle.engine.proofs.CopyLaws.{given_more}
use Rattle.engine.proofs.copying.requests_at.Goals as goal

pub loop-place-preserved : goal.loop-place-preserved
loop-place-preserved c =
    c.in_ok-push_copy.ensures
    ∙ (λ i. c.loop-place.invariant i ++ cons_option (c.get.ensures.value i) [])
    ∙ sym (given_more (slice_get c.args.requests.now) c.args.places.now c.loop-place.place-index c.loop-place-test.true)

use Rattle.std.proofs.Common.{sym, ◌∙◌, ◌++◌, []}
use Rattle.std.specs.List.{cons_option}
use Rattle.engine.specs.Copying.{paired, entry_of}
use Rattle.engine.proofs.CopyLaws.{given_more}
use Rattle.engine.proofs.copying.entries_at.Goals as goal

pub loop-place-preserved : goal.loop-place-preserved
loop-place-preserved c =
    c.in_ok-push_entry.ensures
    ∙ (λ i. c.loop-place.invariant i ++ cons_option (paired (c.get.ensures.value i) (c.get-in-loop-place.ensures.value i)) [])
    ∙ sym (given_more (entry_of c.args.requests.now c.args.outcomes.now) c.args.places.now c.loop-place.place-index c.loop-place-test.true)

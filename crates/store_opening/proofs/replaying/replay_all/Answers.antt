use Rattle.std.proofs.Common.{Err, IfErr, sym, ap, ◌∙◌, subst}
use Rattle.std.proofs.lemmas.Result.{err_from_is_err_and}
use Rattle.std.specs.Vec.Iter.{into_iter_items}
use Rattle.engine.specs.EngineViews.{core_of}
use Rattle.store_meaning.specs.Engines.{program_of}
use Rattle.store_opening.specs.Replayed.{HasWrongAmong}
use Rattle.store_opening.proofs.ReplayLaws.{HasReplayedFront, one_further, wrong_next}
use Rattle.store_opening.proofs.replaying.replay_all.Goals as goal

pub returns-in_err-replay_one-clause-wrong : goal.returns-in_err-replay_one-clause-wrong
returns-in_err-replay_one-clause-wrong c text =
    let batches = c.args.batches in
    let first = c.args.engine.now in
    let now = c.loop-placed.engine in
    let front = subst (λ l. HasReplayedFront first now l batches) c.in-Some.ensures.steps.0 c.loop-placed.invariant.front in
    let stop = c.in_err-replay_one.field-0.0 in
    let p = err_from_is_err_and c.from_residual.result c.from_residual.ensures.1 in
    subst (λ r. IfErr r (HasWrongAmong (program_of first text) (core_of first) batches)) (sym (p.1 ∙ ap Err p.2))
    (wrong_next first now c.in-Some.placed (into_iter_items c.next.new.self) batches front stop c.in_err-replay_one.ensures.wrong text)

pub loop-placed-preserved : goal.loop-placed-preserved
loop-placed-preserved c =
    let batches = c.args.batches in
    let first = c.args.engine.now in
    let now = c.loop-placed.engine in
    let front = subst (λ l. HasReplayedFront first now l batches) c.in-Some.ensures.steps.0 c.loop-placed.invariant.front in
    record {
      front = one_further first now c.in-Some.placed (into_iter_items c.next.new.self) batches front c.replay_one.new.engine c.in_ok-replay_one.ensures.core c.in_ok-replay_one.ensures.batch_fits
          c.in_ok-replay_one.ensures.fresh c.replay_one.ensures.runs c.replay_one.ensures.core_fits c.requires.read;
      count = search;
    }

use Rattle.std.proofs.Common.{ap, ◌∙◌, sym, take, ◌++◌, ◌∷◌, []}
use Rattle.std.proofs.lemmas.List.{take_more}
use Rattle.batch_reorder.proofs.Growing.{grows_by_none, grows_one_more}
use Rattle.batch_reorder.proofs.rule2.reserve_all.Goals as goal

pub loop-at-init : goal.loop-at-init
loop-at-init c = grows_by_none c.args.table.now

pub loop-at-preserved : goal.loop-at-preserved
loop-at-preserved c =
    grows_one_more c.args.table.now c.loop-at.table c.reserve.new.self _ (take c.loop-at.at-index c.args.refs.now) _ c.at-item.result
    (take_more c.args.refs.now c.loop-at.at-index c.at-item.result c.loop-at-test.true ∙ ap (λ x. take c.loop-at.at-index c.args.refs.now ++ x ∷ []) (sym c.at-item.is)) c.in_ok-reserve.ensures.ok c.loop-at.invariant

use Rattle.sf_value.proofs.Weights.{weight-at_end}
use Rattle.sf_value.proofs.weighing.+add_weight.Goals as goal

pub returns-after-loop-item : goal.returns-after-loop-item
returns-after-loop-item t c = weight-at_end _ _ _ _ _ c.args.value.now c.in-List.is c.as_slice-item-items.ensures c.loop-item.invariant c.loop-item-test.false

use Rattle.hoisting.proofs.StageLaws.{vars_more}
use Rattle.hoisting.proofs.stages.surely.Goals as goal

pub loop-local-preserved : goal.loop-local-preserved
loop-local-preserved c = vars_more c.as_slice-local-items.result.now c.loop-local.local-index c.local-item.result c.loop-local.made c.add_var.new.vars c.loop-local-test.true c.local-item.is c.loop-local.invariant c.in_ok-add_var.ensures

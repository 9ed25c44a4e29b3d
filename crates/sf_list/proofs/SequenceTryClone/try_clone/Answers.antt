use Rattle.sf_list.proofs.CopyLaws.{AreCopies-step}
use Rattle.sf_list.proofs.SequenceTryClone.try_clone.Goals as goal

pub loop-item-preserved : goal.loop-item-preserved
loop-item-preserved g c = AreCopies-step _ c.as_slice-item-items.result.now c.loop-item.made c.push.new.self c.loop-item.item-index c.item-item.result c.in_ok-try_clone.field-0 c.loop-item.invariant c.loop-item-test.true c.item-item.is c.in_ok-try_clone.ensures c.in_ok-push.ensures.ok

use Rattle.py_tree.specs.PlainTypes.{plain_ty}
use Rattle.expression_hoister.specs.ExpressionViews.{plain_each_wanted}
use Rattle.expression_hoister.proofs.WantLaws.{same_more, same_done}
use Rattle.expression_hoister.proofs.wants.add_same.Goals as goal

pub loop-item-preserved : goal.loop-item-preserved
loop-item-preserved c =
    same_more (plain_ty c.args.ty.now) _ (plain_each_wanted c.add_wanted.new.made) (plain_each_wanted c.loop-item.made) c.args.items.now c.loop-item.item-index c.item-item.result c.loop-item-test.true c.item-item.is c.in_ok-add_wanted.ensures c.loop-item.invariant

pub returns : goal.returns
returns c = same_done (plain_ty c.args.ty.now) _ (plain_each_wanted c.loop-item.made) c.args.items.now c.loop-item.item-index c.loop-item-test.false c.loop-item.invariant

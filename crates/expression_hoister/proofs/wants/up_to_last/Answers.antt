use Rattle.std.proofs.Common.{◌-◌, ◌<◌, ◌≤◌, arith, length}
use Rattle.hoisting.specs.Views.{leaves_of}
use Rattle.expression_hoister.proofs.WantLaws.{behind_all, before_one, behind_more}
use Rattle.expression_hoister.proofs.wants.up_to_last.Goals as goal

pub loop-count-init : goal.loop-count-init
loop-count-init c = record { within = omega arith; behind = λ k past. behind_all (leaves_of c.args.setting.now) c.args.items.now k past }

pub returns-then-suspends-clause-before : goal.returns-then-suspends-clause-before
returns-then-suspends-clause-before c =
    let some : 0 < c.loop-count.count = c.loop-count-test.true in
    let low : c.loop-count.count ≤ length c.args.items.now = c.loop-count.invariant.within in
    λ k below. before_one (leaves_of c.args.setting.now) c.args.items.now k (c.loop-count.count - 1) c.index-items-count.result (omega (arith, some, below)) (omega (arith, some, low)) c.index-items-count.is (rw (← c.suspends.ensures) c.if-suspends.true)

pub loop-count-preserved : goal.loop-count-preserved
loop-count-preserved c =
    let some : 0 < c.loop-count.count = c.loop-count-test.true in
    let low : c.loop-count.count ≤ length c.args.items.now = c.loop-count.invariant.within in
    record {
      within = omega (arith, low);
      behind =
          behind_more (leaves_of c.args.setting.now) c.args.items.now (c.loop-count.count - 1) c.loop-count.count c.index-items-count.result (omega (arith, some)) (omega (arith, some, low)) c.index-items-count.is (rw (← c.suspends.ensures) c.if-suspends.false) c.loop-count.invariant.behind;
    }

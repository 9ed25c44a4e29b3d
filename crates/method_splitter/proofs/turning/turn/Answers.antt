use Rattle.std.proofs.Common.{◌≡◌, ◌+◌, ◌-◌, ◌<◌, arith, length}
use Rattle.method_splitter.proofs.OtherOrder.{last_off, one_less, turned_more}
use Rattle.method_splitter.proofs.turning.turn.Goals as goal

pub loop-left-preserved : goal.loop-left-preserved
loop-left-preserved g c =
    let all = c.loop-left.list in
    let rest = c.remove.new.self in
    let i = c.loop-left.left - 1 in
    let many = c.loop-left.invariant.count in
    let some : 0 < c.loop-left.left = c.loop-left-test.true in
    let count : i + 1 ≡ length all = omega (arith, many, some) in
    let is = last_off all rest i c.remove.result count c.remove.ensures.value c.remove.ensures.rest in
    record {
      count = one_less all rest c.remove.result i count is;
      so_far = turned_more c.loop-left.made c.push.new.self all rest _ c.remove.result c.loop-left.invariant.so_far c.in_ok-push.ensures.ok is;
    }

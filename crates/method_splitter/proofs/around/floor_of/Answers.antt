use Rattle.std.proofs.Common.{◌≡◌, ◌+◌, ◌-◌, ◌<◌, ◌≤◌, arith, length, get_or, sym, ◌∙◌}
use Rattle.std.specs.Prelude.{max}
use Rattle.method_splitter.proofs.CatchLaws.{floor_with, room_above}
use Rattle.method_splitter.proofs.around.floor_of.Goals as goal

pub overflow_add-catches : goal.overflow_add-catches
overflow_add-catches c =
    let some : 0 < c.loop-at.at = c.loop-at-test.true in
    let next : c.loop-at.at - 1 + 1 ≡ c.loop-at.at = omega (arith, some) in
    let room : c.index-catches-at.result.to.rank + 1 ≤ 4294967295 = room_above c.args.catches.now (c.loop-at.at - 1) c.loop-at.at c.index-catches-at.result next c.loop-at.invariant.within c.index-catches-at.is 4294967295 c.requires in
    let same : c.index-catches-at.result.to.rank ≡ (get_or c.args.catches.now (c.loop-at.at - 1) c.index-catches-at.result).to.rank = (λ i. (c.index-catches-at.is i).to.rank) in
    omega (arith, room, same)

pub loop-at-preserved : goal.loop-at-preserved
loop-at-preserved c =
    let some : 0 < c.loop-at.at = c.loop-at-test.true in
    let next : c.loop-at.at - 1 + 1 ≡ c.loop-at.at = omega (arith, some) in
    let within : c.loop-at.at ≤ length c.args.catches.now = c.loop-at.invariant.within in
    record {
      within = omega (arith, within);
      last =
          c.max-low.ensures ∙ (λ i. max ((sym c.index-catches-at.is i).to.rank + 1) (c.loop-at.invariant.last i))
          ∙ sym (floor_with c.args.catches.now (c.loop-at.at - 1) c.loop-at.at c.index-catches-at.result next within c.index-catches-at.is);
    }

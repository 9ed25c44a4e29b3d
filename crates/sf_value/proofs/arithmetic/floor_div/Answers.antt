use Rattle.std.proofs.Common.{◌≢◌, rules, arith, SFits, pos, ◌+ℤ◌, ap, refl}
use Rattle.std.specs.Int.{w128, cast_unsigned}
use Rattle.std.proofs.lemmas.Int.{to_z-of_z}
use Rattle.std.proofs.lemmas.Bool.{false≢true}
use Rattle.sf_value.proofs.Quotients.{div_kept, div_corrected}
use Rattle.sf_value.proofs.arithmetic.floor_div.Goals as goal

pub returns-then-have_opposite_signs-clause-value : goal.returns-then-have_opposite_signs-clause-value
returns-then-have_opposite_signs-clause-value c =
    let x : SFits w128 c.args.x = c.ranges.x in
    let y : SFits w128 c.args.y = c.ranges.y in
    let r : SFits w128 c.wrapping_rem.result = search rules in
    let q : SFits w128 c.in_ok-towards_zero.towards_zero = search rules in
    let divided = simp to_z-of_z at c.in_ok-towards_zero.ensures in
    let nonzero : c.args.y ≢ pos 0 = λ e. omega (arith, divided.0.0, ap (cast_unsigned w128) e) in
    let is = simp to_z-of_z at c.wrapping_rem.ensures in
    let opposite = simp to_z-of_z at c.if-have_opposite_signs.ensures in
    (c.wrapping_rem.result +ℤ c.args.y, div_corrected w128 _ _ _ x y r nonzero is _ q divided.1 (opposite.0 refl))

pub returns-else-have_opposite_signs-clause-value : goal.returns-else-have_opposite_signs-clause-value
returns-else-have_opposite_signs-clause-value c =
    let x : SFits w128 c.args.x = c.ranges.x in
    let y : SFits w128 c.args.y = c.ranges.y in
    let r : SFits w128 c.wrapping_rem.result = search rules in
    let q : SFits w128 c.in_ok-towards_zero.towards_zero = search rules in
    let divided = simp to_z-of_z at c.in_ok-towards_zero.ensures in
    let nonzero : c.args.y ≢ pos 0 = λ e. omega (arith, divided.0.0, ap (cast_unsigned w128) e) in
    let is = simp to_z-of_z at c.wrapping_rem.ensures in
    let opposite = simp to_z-of_z at c.if-have_opposite_signs.ensures in
    (c.wrapping_rem.result, div_kept w128 _ _ _ x y r nonzero is _ q divided.1 (λ h. false≢true (opposite.1 h)))

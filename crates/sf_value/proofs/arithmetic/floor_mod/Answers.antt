use Rattle.std.proofs.Common.{◌≢◌, rules, SFits, pos, ◌-ℤ◌, ap, int_div, refl}
use Rattle.std.specs.Int.{w128, cast_unsigned}
use Rattle.std.proofs.lemmas.Int.{to_z-of_z}
use Rattle.std.proofs.lemmas.Bool.{false≢true}
use Rattle.sf_value.proofs.Quotients.{mod_kept, mod_corrected}
use Rattle.sf_value.proofs.arithmetic.floor_mod.Goals as goal

pub returns-then-have_opposite_signs-clause-value : goal.returns-then-have_opposite_signs-clause-value
returns-then-have_opposite_signs-clause-value c =
    let x : SFits w128 c.args.x = c.ranges.x in
    let y : SFits w128 c.args.y = c.ranges.y in
    let r : SFits w128 c.wrapping_rem-towards_zero.result = search rules in
    let nonzero : c.args.y ≢ pos 0 = λ e. c.if-y-eq0.false (ap (cast_unsigned w128) e) in
    let is = simp to_z-of_z at c.wrapping_rem-towards_zero.ensures in
    let opposite = simp to_z-of_z at c.if-have_opposite_signs.ensures in
    (int_div c.args.x c.args.y -ℤ pos 1, mod_corrected w128 _ _ _ x y r nonzero is (opposite.0 refl))

pub returns-else-have_opposite_signs-clause-value : goal.returns-else-have_opposite_signs-clause-value
returns-else-have_opposite_signs-clause-value c =
    let x : SFits w128 c.args.x = c.ranges.x in
    let y : SFits w128 c.args.y = c.ranges.y in
    let r : SFits w128 c.wrapping_rem-towards_zero.result = search rules in
    let nonzero : c.args.y ≢ pos 0 = λ e. c.if-y-eq0.false (ap (cast_unsigned w128) e) in
    let is = simp to_z-of_z at c.wrapping_rem-towards_zero.ensures in
    let opposite = simp to_z-of_z at c.if-have_opposite_signs.ensures in
    (int_div c.args.x c.args.y, mod_kept w128 _ _ _ x y r nonzero is (λ h. false≢true (opposite.1 h)))

use Rattle.std.proofs.Common.{arith, refl, ◌∙◌, ◌-◌, append-nil}
use Rattle.std.proofs.lemmas.List.{length-set}
use Rattle.wide_sums.proofs.DigitLaws.{digit_put, none_behind}
use Rattle.wide_sums.proofs.numeral.padded.Goals as goal

pub loop-at-init : goal.loop-at-init
loop-at-init c = (omega arith, (refl, append-nil _))

pub loop-at-preserved : goal.loop-at-preserved
loop-at-preserved c = (
  omega (arith, c.loop-at.invariant.0),
  (
    length-set c.loop-at.digits (c.loop-at.at - 1) _ ∙ c.loop-at.invariant.1.0,
    digit_put c.loop-at.at c.loop-at.rest c.loop-at.digits _ (omega (arith, c.loop-at-test.true)) (omega (arith, c.loop-at.invariant.0, c.loop-at.invariant.1.0)) c.loop-at.invariant.1.1,
  ),
)

pub returns : goal.returns
returns c = none_behind c.loop-at.at c.loop-at.rest c.loop-at.digits _ (omega (arith, c.loop-at-test.false)) c.loop-at.invariant.1.1

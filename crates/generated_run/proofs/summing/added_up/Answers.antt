use Rattle.std.proofs.Common.{◌≡◌, ◌∙◌, ap, arith}
use Rattle.std.specs.Prelude.{◌+ℤ◌}
use Rattle.std.proofs.lemmas.Int.{to_z-of_z}
use Rattle.wide_sums.specs.Sums.{sum_of}
use Rattle.generated_run.proofs.BalanceLaws.{one_more, none_more}
use Rattle.generated_run.proofs.summing.added_up.Goals as goal

pub loop-held-preserved : goal.loop-held-preserved
loop-held-preserved c =
    let near = c.plus-total.ensures.near in
    let adds : sum_of c.plus-total.result ≡ sum_of c.loop-held.total +ℤ c.balance_of.result = grind (arith, to_z-of_z) in (
      one_more c.args.records.now c.loop-held.held-index c.held-item.result c.loop-held-test.true c.held-item.is (sum_of c.loop-held.total) (sum_of c.plus-total.result)
          (adds ∙ ap (λ z. sum_of c.loop-held.total +ℤ z) c.balance_of.ensures) c.loop-held.invariant.0,
      (omega (arith, near.above, c.loop-held.invariant.1.0), omega (arith, near.below, c.loop-held.invariant.1.1)),
    )

pub returns : goal.returns
returns c = none_more c.args.records.now c.loop-held.held-index c.loop-held-test.false (sum_of c.loop-held.total) c.loop-held.invariant.0

use Rattle.std.proofs.Common.{arith, ◌∙◌, ap, sym, ◌++◌, decimal}
use Rattle.wide_sums.proofs.DigitLaws.{digits_behind, sign_of, written}
use Rattle.wide_sums.proofs.numeral.Numeral.format.Goals as goal
use Rattle.wide_sums.proofs.numeral.Numeral.format.Goals.{then-distance, else-distance}

pub returns-else-high-eq0 : goal.returns-else-high-eq0
returns-else-high-eq0 c = written c.distance-distance.result.negative c.distance-distance.result.size _ _ c.as_bytes-else-high-eq0.result.now c.padded-self.result
    c.distance-distance.ensures.sum c.distance-distance.ensures.some
    (elim c.if-distance.branch [
      | then-distance w ↦ ap (λ s. s.now) w.sign-is ∙ sym (ap sign_of w.if-distance.true)
      | else-distance w ↦ ap (λ s. s.now) w.sign-is ∙ sym (ap sign_of w.if-distance.false)
    ])
    (ap (λ l. l ++ c.padded-self.result) (c.as_bytes-else-high-eq0.ensures.value ∙ c.format-else-high-eq0.ensures.text)
    ∙ ap (λ l. decimal c.words-high.result.0 ++ l) c.padded-self.ensures
    ∙ sym (digits_behind 20 c.words-high.result.0 c.words-high.result.1 (omega (arith, c.if-high-eq0.false)) c.words-high.ensures.low (omega (arith, c.words-high.type_inv, c.words-high.ensures.low)))
    ∙ ap decimal c.words-high.ensures.number)

use Rattle.std.proofs.Common.{◌≡◌, ◌++◌, ◌≤◌, drop, length}
use Rattle.wide_sums.specs.Sums.{last_digits}
use Rattle.wide_sums.proofs.numeral.padded.Given as goal

-- the digits from the place on are there, and the others are those of what is left
abbrev pub invariant-loop-at : goal.invariant-loop-at
invariant-loop-at l = (l.at ≤ 20) × ((length l.digits ≡ 20) × (last_digits l.at l.rest ++ drop l.at l.digits ≡ last_digits 20 l.number))

abbrev pub decreases-loop-at : goal.decreases-loop-at
decreases-loop-at l = l.at

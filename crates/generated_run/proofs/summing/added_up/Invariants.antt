use Rattle.std.proofs.Common.{◌≡◌, ◌*◌, ◌^◌, ◌≤◌, drop}
use Rattle.std.specs.Prelude.{◌+ℤ◌}
use Rattle.wide_sums.specs.Sums.{sum_of}
use Rattle.generated_run.specs.Totals.{added_up}
use Rattle.generated_run.proofs.summing.added_up.Given as goal

-- what is left, added to the sum so far, is the sum of all; and each number so far made neither side greater than it may
abbrev pub invariant-loop-held : goal.invariant-loop-held
invariant-loop-held l = (sum_of l.total +ℤ added_up (drop l.held-index l.records) ≡ added_up l.records)
    × ((l.total.above ≤ l.held-index * 2 ^ 127) × (l.total.below ≤ l.held-index * 2 ^ 127))

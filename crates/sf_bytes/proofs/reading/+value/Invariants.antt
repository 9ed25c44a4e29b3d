use Rattle.std.proofs.Common.{◌≡◌, ◌+◌, ◌-◌, ◌*◌}
use Rattle.sf_bytes.specs.Reading.{value_within, values_within, items_at}
use Rattle.sf_bytes.proofs.Loops.{with_front}
use Rattle.sf_bytes.proofs.reading.+value.Given as goal

abbrev pub decreases-value_of : goal.decreases-value_of
decreases-value_of l = 2 * l.level + 1

abbrev pub decreases-values_of : goal.decreases-values_of
decreases-values_of l = 2 * l.level

abbrev pub invariant-values_of-loop : goal.invariant-values_of-loop
invariant-values_of-loop l = with_front l.values (items_at (value_within (l.level - 1)) (l.count - l.counter) l.rest) ≡ values_within l.level l.bytes

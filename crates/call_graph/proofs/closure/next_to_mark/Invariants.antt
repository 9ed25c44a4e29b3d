use Rattle.std.proofs.Common.{◌≡◌, ℕ, ◌<◌, [], true, get_or}
use Rattle.std.specs.List.{list_any}
use Rattle.call_graph.specs.Marks.{marked, suspends}
use Rattle.call_graph.proofs.closure.next_to_mark.Given as goal

abbrev pub invariant-loop-i : goal.invariant-loop-i
invariant-loop-i l = (k : ℕ) → k < l.i → list_any (suspends l.marks) (get_or l.rows k []) ≡ true → marked l.marks k ≡ true

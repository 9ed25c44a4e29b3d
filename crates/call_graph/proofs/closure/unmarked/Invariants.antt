use Rattle.std.proofs.Common.{◌≡◌, ℕ, false, length}
use Rattle.call_graph.specs.Marks.{marked}
use Rattle.call_graph.proofs.closure.unmarked.Given as goal

abbrev pub invariant-loop : goal.invariant-loop
invariant-loop l = record {
  each : length l.marks ≡ l.counter;
  none : (method : ℕ) → marked l.marks method ≡ false;
}

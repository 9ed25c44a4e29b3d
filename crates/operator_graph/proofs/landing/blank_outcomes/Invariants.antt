use Rattle.std.proofs.Common.{◌≡◌, length}
use Rattle.operator_graph.proofs.landing.blank_outcomes.Given as goal

abbrev pub invariant-loop : goal.invariant-loop
invariant-loop l = length l.made ≡ l.counter

use Rattle.std.proofs.Common.{◌≡◌, ◌++◌, length, take, drop}
use Rattle.operator_graph.specs.Going.{going, all_come_to}
use Rattle.operator_graph.proofs.landing.take_outcomes.Given as goal

abbrev pub invariant-loop-place : goal.invariant-loop-place
invariant-loop-place l = record {
  end : length l.flights ≡ l.place-end;
  as_many : length l.outcomes ≡ length l.flights;
  over : going (drop l.place l.flights) ≡ 0;
  so_far : take l.place l.outcomes ++ all_come_to (drop l.place l.flights) ≡ all_come_to l.fn.flights;
}

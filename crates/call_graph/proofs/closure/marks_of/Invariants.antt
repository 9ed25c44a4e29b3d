use Rattle.std.proofs.Common.{◌≡◌, length}
use Rattle.call_graph.proofs.ClosureLaws.{left, AreSound}
use Rattle.call_graph.proofs.closure.marks_of.Given as goal

abbrev pub invariant-loop-i : goal.invariant-loop-i
invariant-loop-i l = record {
  each : length l.marks ≡ length l.rows;
  so_far : AreSound l.rows l.marks;
}

abbrev pub decreases-loop-i : goal.decreases-loop-i
decreases-loop-i l = left l.marks

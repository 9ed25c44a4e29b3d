use Rattle.std.proofs.Common.{◌≤◌}
use Rattle.input_lines.specs.Reads.{Joins}
use Rattle.input_lines.proofs.lines.Lines.next.Given as goal

-- each piece that is taken has a byte at least
abbrev pub decreases-pieces : goal.decreases-pieces
decreases-pieces g l = l.self.room

abbrev pub invariant-pieces : goal.invariant-pieces
invariant-pieces g l = record {
  joins : Joins l.fn.self l.self (g.S.Source.left l.fn.input) (g.S.Source.left l.input);
  later : g.S.Source.faults l.fn.input ≤ g.S.Source.faults l.input;
}

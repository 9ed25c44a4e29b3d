use Rattle.std.proofs.Common.{◌≡◌, ◌≤◌, ◌-◌, ℕ, List}
use Rattle.input_lines.specs.Reads.{Joins}
use Rattle.input_lines.specs.FileReads.{left_from}
use Rattle.input_lines.proofs.lines.Lines.next_of_file.Given as goal

-- each piece that is taken has a byte at least
abbrev pub decreases-pieces : goal.decreases-pieces
decreases-pieces g l = l.self.room

abbrev pub invariant-pieces : goal.invariant-pieces
invariant-pieces g l = record {
  joins : Joins l.fn.self l.self (left_from (g.F.Files.content l.fn.files l.name) (l.limit - l.fn.self.room))
      (left_from (g.F.Files.content l.fn.files l.name) (l.limit - l.self.room));
  room : l.self.room ≤ l.fn.self.room;
  kept : (q : List ℕ) → g.F.Files.content l.files q ≡ g.F.Files.content l.fn.files q;
  later : (q : List ℕ) → g.F.Files.faults l.fn.files q ≤ g.F.Files.faults l.files q;
}

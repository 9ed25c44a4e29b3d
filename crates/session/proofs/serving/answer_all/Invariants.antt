use Rattle.std.proofs.Common.{◌≤◌, ◌+◌, length}
use Rattle.program_meaning.specs.Sources.{source_of}
use Rattle.session.proofs.GoingLaws.{Going}
use Rattle.session.proofs.serving.answer_all.Given as goal

-- each line has a byte at least, its end
abbrev pub decreases-lines : goal.decreases-lines
decreases-lines g l = l.reader.room + length l.reader.piece

abbrev pub invariant-lines : goal.invariant-lines
invariant-lines g l = record {
  going : Going (source_of l.program) l.limit l.history (g.S.Source.left l.fn.input) (g.S.Source.left l.input) (g.K.Sink.held l.fn.out) (g.K.Sink.held l.out)
      l.reader l.standing;
  lines : l.standing.lines + length l.reader.piece + l.reader.room ≤ l.limit;
  few : length l.standing.history.entries ≤ l.history;
  read : g.S.Source.faults l.fn.input ≤ g.S.Source.faults l.input;
  later : g.K.Sink.faults l.fn.out ≤ g.K.Sink.faults l.out;
}

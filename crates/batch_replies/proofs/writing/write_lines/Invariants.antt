use Rattle.std.proofs.Common.{◌≤◌, take}
use Rattle.std.specs.Io.KnownBytes.{Appends}
use Rattle.sf_outside.specs.Gains.{joined}
use Rattle.batch_replies.specs.Flushing.{StaysHanded}
use Rattle.batch_replies.proofs.writing.write_lines.Given as goal

-- the first lines were written
abbrev pub invariant-loop-line : goal.invariant-loop-line
invariant-loop-line g l = record {
  wrote : Appends (g.K.Sink.held l.fn.out) (g.K.Sink.held l.out) (joined (take l.line-index l.lines));
  stays : StaysHanded (g.K.Sink.handed l.fn.out) (g.K.Sink.handed l.out);
  later : g.K.Sink.faults l.fn.out ≤ g.K.Sink.faults l.out;
}

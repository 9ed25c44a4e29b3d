use Rattle.std.proofs.Common.{◌≤◌, take}
use Rattle.std.specs.Io.KnownBytes.{Appends}
use Rattle.sf_outside.specs.Gains.{joined}
use Rattle.engine.specs.EngineViews.{core_of, source_of}
use Rattle.export_laws.specs.Exports.{history_lines}
use Rattle.history_export.proofs.write_entries.Given as goal

-- the lines of the first entries were written
abbrev pub invariant-loop-before : goal.invariant-loop-before
invariant-loop-before g l = record {
  wrote : Appends (g.K.Sink.held l.fn.out) (g.K.Sink.held l.out) (joined (history_lines (source_of l.engine) (take l.before (core_of l.engine).history)));
  later : g.K.Sink.faults l.fn.out ≤ g.K.Sink.faults l.out;
}

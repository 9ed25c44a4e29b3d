use Rattle.std.proofs.Common.{false, ◌≤◌, ◌+◌, length}
use Rattle.session_store.specs.Vocabulary.{logged_of}
use Rattle.session_store.specs.Stores.{settings_of}
use Rattle.session_steps.specs.Vocabulary.{service_of, state_of, GoesOn}
use Rattle.batch_session.specs.Points.{point_of}
use Rattle.batch_session.specs.Served.{view_of, first_point}
use Rattle.batch_session.specs.SessionStates.{IsReady, WritesOn}
use Rattle.batch_session.proofs.GoingLaws.{Going}
use Rattle.batch_session.proofs.serving.answer_all.Given as goal

-- each line has a byte at least, its end
abbrev pub decreases-lines : goal.decreases-lines
decreases-lines g l = l.intake.reader.room + length l.intake.reader.piece

abbrev pub invariant-lines : goal.invariant-lines
invariant-lines g l = record {
  going : Going (service_of l.fn.engine (g.R.CommitRule.choice l.terms.rule.now) l.terms.settings.now.batch l.terms.settings.now.parts) l.terms.settings.now.trace (settings_of l.fn.store) l.terms.settings.now.limit
      (g.S.Source.left l.fn.input) (g.S.Source.left l.input) l.intake.reader
      (first_point (view_of l.fn.engine (g.S.Source.left l.fn.input) (g.K.Sink.held l.fn.out) (g.K.Sink.handed l.fn.out) (g.E.Sink.held l.fn.err) (g.C.Chooser.choices l.fn.chooser) (g.W.Watch.told l.fn.watch)))
      (point_of l.engine l.intake.lines l.intake.tally (g.K.Sink.held l.out) (g.K.Sink.handed l.out) (g.E.Sink.held l.err) (g.C.Chooser.choices l.chooser) (g.W.Watch.told l.watch))
      (logged_of l.fn.engine) (logged_of l.engine) (g.D.Disk.facts l.fn.disk) (g.D.Disk.facts l.disk);
  lines : l.intake.lines + length l.intake.reader.piece + l.intake.reader.room ≤ l.terms.settings.now.limit;
  read : g.S.Source.faults l.fn.input ≤ g.S.Source.faults l.input;
  ready : IsReady (state_of l.engine l.store (g.D.Disk.facts l.disk) (g.D.Disk.faults l.disk) (g.D.Disk.mounts l.disk)) l.intake.tally.batches;
  goes_on : GoesOn (g.R.CommitRule.choice l.terms.rule.now) false (state_of l.fn.engine l.fn.store (g.D.Disk.facts l.fn.disk) (g.D.Disk.faults l.fn.disk) (g.D.Disk.mounts l.fn.disk))
      (state_of l.engine l.store (g.D.Disk.facts l.disk) (g.D.Disk.faults l.disk) (g.D.Disk.mounts l.disk));
  writes : WritesOn false (g.K.Sink.faults l.fn.out) (g.K.Sink.faults l.out) (g.E.Sink.faults l.fn.err) (g.E.Sink.faults l.err);
}

use Rattle.std.proofs.Common.{ℕ, false, length}
use Rattle.engine.specs.EngineViews.{core_of}
use Rattle.session_store.specs.Vocabulary.{logged_of}
use Rattle.session_store.specs.Stores.{settings_of}
use Rattle.session_steps.specs.Vocabulary.{service_of, state_of, GoesOn}
use Rattle.session_steps.specs.Doings.{LogsSteps}
use Rattle.session_steps.proofs.Endings.{Ending, runs}
use Rattle.batch_session.specs.Points.{point_of}
use Rattle.batch_session.specs.SessionStates.{IsReady, WritesOn}
use Rattle.batch_session.proofs.ending.run_waiting.Given as goal

-- each batch commits a request
abbrev pub decreases-batches : goal.decreases-batches
decreases-batches g l = length (core_of l.engine).pending

abbrev pub invariant-batches : goal.invariant-batches
invariant-batches g l = record {
  ending : (lines : ℕ) → (e : Ending (service_of l.fn.engine (g.R.CommitRule.choice l.terms.rule.now) l.terms.settings.now.batch l.terms.settings.now.parts) l.terms.settings.now.trace
      (point_of l.fn.engine lines l.fn.tally (g.K.Sink.held l.fn.out) (g.K.Sink.handed l.fn.out) (g.E.Sink.held l.fn.err) (g.C.Chooser.choices l.fn.chooser) (g.W.Watch.told l.fn.watch))
      (point_of l.engine lines l.tally (g.K.Sink.held l.out) (g.K.Sink.handed l.out) (g.E.Sink.held l.err) (g.C.Chooser.choices l.chooser) (g.W.Watch.told l.watch)))
      × LogsSteps (service_of l.fn.engine (g.R.CommitRule.choice l.terms.rule.now) l.terms.settings.now.batch l.terms.settings.now.parts) (settings_of l.fn.store) (core_of l.fn.engine) lines (runs e.count)
      (logged_of l.fn.engine) (logged_of l.engine) (g.D.Disk.facts l.fn.disk) (g.D.Disk.facts l.disk);
  ready : IsReady (state_of l.engine l.store (g.D.Disk.facts l.disk) (g.D.Disk.faults l.disk) (g.D.Disk.mounts l.disk)) l.tally.batches;
  goes_on : GoesOn (g.R.CommitRule.choice l.terms.rule.now) false (state_of l.fn.engine l.fn.store (g.D.Disk.facts l.fn.disk) (g.D.Disk.faults l.fn.disk) (g.D.Disk.mounts l.fn.disk))
      (state_of l.engine l.store (g.D.Disk.facts l.disk) (g.D.Disk.faults l.disk) (g.D.Disk.mounts l.disk));
  writes : WritesOn false (g.K.Sink.faults l.fn.out) (g.K.Sink.faults l.out) (g.E.Sink.faults l.fn.err) (g.E.Sink.faults l.err);
}

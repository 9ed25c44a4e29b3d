use Rattle.std.proofs.Common.{◌<◌, length, refl, ap, inl, inr, Err, arith}
use Rattle.engine.specs.EngineViews.{core_of, source_of, limit_of}
use Rattle.session_store.specs.Stores.{settings_of}
use Rattle.session_store.specs.Vocabulary.{logged_of}
use Rattle.session_store.proofs.CycleLaws.{cycle_kept}
use Rattle.session_steps.specs.declared.tally.Tally.{Tally}
use Rattle.session_steps.specs.Vocabulary.{Service, service_of, runs_on}
use Rattle.session_steps.specs.Steps.{RunWaiting}
use Rattle.session_steps.specs.Doings.{Point}
use Rattle.session_steps.proofs.Leaves.{Comes-one, Stops-batch}
use Rattle.session_steps.proofs.LoggedSteps.{Logged-batch}
use Rattle.session_steps.proofs.Vocabulary.{Logs-end, then_goes}
use Rattle.batch_session.proofs.LoggedLaws.{ended_logs}
use Rattle.batch_session.specs.Points.{point_of}
use Rattle.batch_session.proofs.RunLaws.{on_ok}
use Rattle.batch_session.proofs.ReportLaws.{Batch-ended}
use Rattle.batch_session.proofs.StateLaws.{ready_behind, unwritten_is, stop_unwritten}
use Rattle.batch_session.proofs.TurnLaws.{in_turn_still, in_turn_ended}
use Rattle.batch_session.proofs.ending.run_batch.Goals as goal

pub returns-in-Ok-clause-runs_one : goal.returns-in-Ok-clause-runs_one
returns-in-Ok-clause-runs_one g c = λ lines.
    let e = c.args.engine.now in
    let size = c.args.terms.now.settings.now.batch in
    let v : Service = service_of e (g.R.CommitRule.choice c.args.terms.now.rule.now) size c.args.terms.now.settings.now.parts in
    let old : Point = point_of e lines c.args.tally.now (g.K.Sink.held c.args.out.now) (g.K.Sink.handed c.args.out.now) (g.E.Sink.held c.args.err.now) (g.C.Chooser.choices c.args.chooser.now) (g.W.Watch.told c.args.watch.now) in
    let ran = c.answer_batch.new in
    let new : Point = point_of ran.engine lines c.end_batch.new.tally (g.K.Sink.held ran.out) (g.K.Sink.handed ran.out) (g.E.Sink.held c.end_batch.new.err) (g.C.Chooser.choices ran.chooser) (g.W.Watch.told ran.watch) in
    let said = c.end_batch.ensures in
    Batch-ended v c.args.terms.now.settings.now.trace c.in-Ok.counts c.end_batch.result old new refl c.requires.some (c.in-Ok.ensures.answers size) c.in-Ok.ensures.told
    (record {
      tally = said.counted;
      traced = said.traced;
      placed = said.placed;
      asked = said.asked;
      stays = c.answer_batch.ensures.flushes.stays;
      flushed = c.in-Ok.ensures.flushes.all;
    })

pub returns-in-Ok-clause-fewer : goal.returns-in-Ok-clause-fewer
returns-in-Ok-clause-fewer g c = on_ok c.end_batch.result _ c.in-Ok.ensures.fewer

pub returns-in-Err-clause-runs_one : goal.returns-in-Err-clause-runs_one
returns-in-Err-clause-runs_one g c = λ lines.
    let e = c.args.engine.now in
    let size = c.args.terms.now.settings.now.batch in
    let v : Service = service_of e (g.R.CommitRule.choice c.args.terms.now.rule.now) size c.args.terms.now.settings.now.parts in
    let traces = c.args.terms.now.settings.now.trace in
    let stop = c.in-Err.stop in
    let held = g.E.Sink.held c.args.err.now in
    let old : Point = point_of e lines c.args.tally.now (g.K.Sink.held c.args.out.now) (g.K.Sink.handed c.args.out.now) held (g.C.Chooser.choices c.args.chooser.now) (g.W.Watch.told c.args.watch.now) in
    let ran = c.answer_batch.new in
    let new : Point = point_of ran.engine lines c.args.tally.now (g.K.Sink.held ran.out) (g.K.Sink.handed ran.out) held (g.C.Chooser.choices ran.chooser) (g.W.Watch.told ran.watch) in
    Comes-one v traces {T = Unit {0}} (Err stop) stop RunWaiting old new refl
    (Stops-batch v traces stop old new c.requires.some (c.in-Err.ensures.answers size) c.in-Err.ensures.told (record { tally = refl; traced = refl; stays = c.answer_batch.ensures.flushes.stays }))

pub returns-in-Ok-clause-logs : goal.returns-in-Ok-clause-logs
returns-in-Ok-clause-logs g c = λ lines.
    let e = c.args.engine.now in
    let now = c.answer_batch.new.engine in
    let rule = g.R.CommitRule.choice c.args.terms.now.rule.now in
    let size = c.args.terms.now.settings.now.batch in
    let settings = settings_of c.args.store.now in
    let old = g.D.Disk.facts c.args.disk.now in
    let between = g.D.Disk.facts c.answer_batch.new.disk in
    let new = g.D.Disk.facts c.end_batch.new.disk in
    Logged-batch (service_of e rule size c.args.terms.now.settings.now.parts) settings (core_of e) lines (logged_of e) (logged_of now) old new c.requires.some
    (Logs-end (source_of e) rule settings (runs_on (source_of e) rule (record { batch = size; history = limit_of e }) (core_of e)) (logged_of e) (logged_of now) old between new (c.answer_batch.ensures.logs size)
    (ended_logs e now c.answer_batch.ensures.goes_on.runs rule settings _ (logged_of now) between new c.answer_batch.ensures.goes_on.settings (c.end_batch.ensures.logs rule)))

pub returns-in-Err-clause-logs : goal.returns-in-Err-clause-logs
returns-in-Err-clause-logs g c = λ lines.
    let e = c.args.engine.now in
    let size = c.args.terms.now.settings.now.batch in
    Logged-batch (service_of e (g.R.CommitRule.choice c.args.terms.now.rule.now) size c.args.terms.now.settings.now.parts) (settings_of c.args.store.now) (core_of e) lines (logged_of e) (logged_of c.answer_batch.new.engine)
    (g.D.Disk.facts c.args.disk.now) (g.D.Disk.facts c.answer_batch.new.disk) c.requires.some (c.answer_batch.ensures.logs size)

-- behind the batch its end can be made
pub end_batch-requires-clause-ready : goal.end_batch-requires-clause-ready
end_batch-requires-clause-ready g c =
    let few : length (core_of c.answer_batch.new.engine).pending < 256 = omega (arith, c.requires.ready.few, c.in-Ok.ensures.fewer) in
    ready_behind (g.R.CommitRule.choice c.args.terms.now.rule.now) _ _ _ c.requires.ready c.in-Ok.ensures.goes_on few c.answer_batch.ensures.cycle

pub returns-in-Ok-clause-goes_on : goal.returns-in-Ok-clause-goes_on
returns-in-Ok-clause-goes_on g c =
    let rule = g.R.CommitRule.choice c.args.terms.now.rule.now in then_goes rule _ _ _ _ c.in-Ok.ensures.goes_on (c.end_batch.ensures.goes_on rule)

pub returns-in-Ok-clause-writes : goal.returns-in-Ok-clause-writes
returns-in-Ok-clause-writes g c = record {
  later = c.answer_batch.ensures.later;
  later_err = c.end_batch.ensures.later_err;
  cause = λ is. inr (c.end_batch.ensures.cause (unwritten_is c.end_batch.result is));
}

pub returns-in-Err-clause-goes_on : goal.returns-in-Err-clause-goes_on
returns-in-Err-clause-goes_on g c = c.in-Err.ensures.goes_on

pub returns-in-Err-clause-writes : goal.returns-in-Err-clause-writes
returns-in-Err-clause-writes g c = record {
  later = c.answer_batch.ensures.later;
  later_err = omega arith;
  cause = λ is. inl (c.in-Err.ensures.cause (ap Err (stop_unwritten c.in-Err.stop is)));
}

pub returns-in-Ok-clause-in_turn : goal.returns-in-Ok-clause-in_turn
returns-in-Ok-clause-in_turn g c =
    in_turn_ended c.args.terms.now.settings.now.trace c.end_batch.result _ c.answer_batch.new.store c.args.tally.now.batches _ c.end_batch.ensures.ready c.end_batch.ensures.placed c.end_batch.ensures.memory
    (ap (λ (t : Tally). t.batches) c.end_batch.ensures.counted)
    (cycle_kept c.args.store.now c.answer_batch.new.store c.args.tally.now.batches c.answer_batch.ensures.cycle c.requires.ready.in_cycle) c.end_batch.ensures.asked c.end_batch.ensures.cycle

pub returns-in-Err-clause-in_turn : goal.returns-in-Err-clause-in_turn
returns-in-Err-clause-in_turn g c =
    in_turn_still c.args.terms.now.settings.now.trace {T = Unit {0}} (Err c.in-Err.stop) c.args.store.now c.answer_batch.new.store c.args.tally.now.batches c.answer_batch.ensures.cycle c.requires.ready.in_cycle

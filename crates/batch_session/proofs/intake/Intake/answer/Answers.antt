use Rattle.std.proofs.Common.{◌≡◌, ◌∙◌, refl, ap, sym, ◌+◌, true≢false, inl, inr, Ok, Err, Some, None, arith}
use Rattle.request_json.specs.Actions.{Line}
use Rattle.engine.specs.EngineViews.{core_of, source_of}
use Rattle.session_store.specs.Stores.{settings_of}
use Rattle.session_store.specs.Vocabulary.{logged_of}
use Rattle.session_store.proofs.CycleLaws.{cycle_kept}
use Rattle.session_steps.specs.declared.tally.Tally.{Tally}
use Rattle.session_steps.specs.Vocabulary.{cut, before, move_at, ran_by, Service, service_of}
use Rattle.session_steps.specs.Steps.{Answer}
use Rattle.session_steps.specs.Doings.{Point, moment}
use Rattle.session_steps.proofs.Leaves.{Does-line, Stops-line, Comes-one}
use Rattle.session_steps.proofs.Vocabulary.{Logs-end, then_goes}
use Rattle.batch_session.specs.Points.{point_of}
use Rattle.batch_session.proofs.LineLaws.{start_answered}
use Rattle.batch_session.proofs.LoggedLaws.{ended_logs, start_logged}
use Rattle.batch_session.proofs.ReportLaws.{Line-ended}
use Rattle.batch_session.proofs.StateLaws.{ready_behind, unwritten_is, stop_unwritten}
use Rattle.batch_session.proofs.TurnLaws.{in_turn_still, in_turn_ended}
use Rattle.batch_session.proofs.intake.Intake.answer.Goals as goal

pub returns-in-Some-clause-answers : goal.returns-in-Some-clause-answers
returns-in-Some-clause-answers g c = λ line start.
    let e = c.args.engine.now in
    let self = c.args.self.now in
    let shown : Line = cut c.ended.result c.line.result.now in
    let is : shown ≡ cut self.reader.ended self.reader.line = ap (λ ended. cut ended c.line.result.now) c.ended.ensures ∙ ap (cut self.reader.ended) c.line.ensures in
    let v : Service = service_of e (g.R.CommitRule.choice c.args.terms.now.rule.now) c.args.terms.now.settings.now.batch c.args.terms.now.settings.now.parts in
    let old : Point = point_of e self.lines self.tally (g.K.Sink.held c.args.out.now) (g.K.Sink.handed c.args.out.now) (g.E.Sink.held c.args.err.now) (g.C.Chooser.choices c.args.chooser.now) (g.W.Watch.told c.args.watch.now) in
    let ran = c.answer_line.new in
    let new : Point = point_of ran.engine (self.lines + 1) c.end_batch.new.tally (g.K.Sink.held ran.out) (g.K.Sink.handed ran.out) (g.E.Sink.held c.end_batch.new.err) (g.C.Chooser.choices ran.chooser) (g.W.Watch.told ran.watch) in
    let said = c.end_batch.ensures in
    Line-ended v c.args.terms.now.settings.now.trace c.in-Some.counts c.end_batch.result (cut self.reader.ended line) old new refl
    (start_answered v (Ok c.in-Ok.ran) (Ok (Some c.in-Some.counts)) (before (core_of e) (self.lines + 1)) shown self.reader.ended self.reader.line line (moment old) (moment new) (ap Ok c.in-Some.is) is start c.in-Ok.ensures.answers)
    (record {
      tally = said.counted;
      traced = said.traced;
      placed = said.placed;
      asked = said.asked;
      stays = c.answer_line.ensures.flushes.stays;
      flushed = (rw c.in-Some.is at c.in-Ok.ensures.flushes).all refl;
    })

pub returns-in-None-clause-answers : goal.returns-in-None-clause-answers
returns-in-None-clause-answers g c = λ line start.
    let e = c.args.engine.now in
    let self = c.args.self.now in
    let shown : Line = cut c.ended.result c.line.result.now in
    let is : shown ≡ cut self.reader.ended self.reader.line = ap (λ ended. cut ended c.line.result.now) c.ended.ensures ∙ ap (cut self.reader.ended) c.line.ensures in
    let v : Service = service_of e (g.R.CommitRule.choice c.args.terms.now.rule.now) c.args.terms.now.settings.now.batch c.args.terms.now.settings.now.parts in
    let held = g.E.Sink.held c.args.err.now in
    let old : Point = point_of e self.lines self.tally (g.K.Sink.held c.args.out.now) (g.K.Sink.handed c.args.out.now) held (g.C.Chooser.choices c.args.chooser.now) (g.W.Watch.told c.args.watch.now) in
    let ran = c.answer_line.new in
    let new : Point = point_of ran.engine (self.lines + 1) self.tally (g.K.Sink.held ran.out) (g.K.Sink.handed ran.out) held (g.C.Chooser.choices ran.chooser) (g.W.Watch.told ran.watch) in
    Does-line v c.args.terms.now.settings.now.trace None (cut self.reader.ended line) old new refl
    (start_answered v (Ok c.in-Ok.ran) (Ok None) (before (core_of e) (self.lines + 1)) shown self.reader.ended self.reader.line line (moment old) (moment new) (ap Ok c.in-None.is) is start c.in-Ok.ensures.answers)
    (record { tally = refl; traced = refl; stays = c.answer_line.ensures.flushes.stays })

pub returns-in-Err-clause-answers : goal.returns-in-Err-clause-answers
returns-in-Err-clause-answers g c = λ line start.
    let e = c.args.engine.now in
    let self = c.args.self.now in
    let shown : Line = cut c.ended.result c.line.result.now in
    let is : shown ≡ cut self.reader.ended self.reader.line = ap (λ ended. cut ended c.line.result.now) c.ended.ensures ∙ ap (cut self.reader.ended) c.line.ensures in
    let v : Service = service_of e (g.R.CommitRule.choice c.args.terms.now.rule.now) c.args.terms.now.settings.now.batch c.args.terms.now.settings.now.parts in
    let traces = c.args.terms.now.settings.now.trace in
    let held = g.E.Sink.held c.args.err.now in
    let old : Point = point_of e self.lines self.tally (g.K.Sink.held c.args.out.now) (g.K.Sink.handed c.args.out.now) held (g.C.Chooser.choices c.args.chooser.now) (g.W.Watch.told c.args.watch.now) in
    let ran = c.answer_line.new in
    let new : Point = point_of ran.engine self.lines self.tally (g.K.Sink.held ran.out) (g.K.Sink.handed ran.out) held (g.C.Chooser.choices ran.chooser) (g.W.Watch.told ran.watch) in
    let stop = c.in-Err.stop in
    Comes-one v traces {T = Unit {0}} (Err stop) stop (Answer (cut self.reader.ended line)) old new refl
    (Stops-line v traces stop (cut self.reader.ended line) old new
    (start_answered v (Err stop) (Err stop) (before (core_of e) (self.lines + 1)) shown self.reader.ended self.reader.line line (moment old) (moment new) refl is start c.in-Err.ensures.answers)
    (record { tally = refl; traced = refl; stays = c.answer_line.ensures.flushes.stays }))

pub returns-in-Some-clause-logs : goal.returns-in-Some-clause-logs
returns-in-Some-clause-logs g c = λ line start.
    let e = c.args.engine.now in
    let now = c.answer_line.new.engine in
    let self = c.args.self.now in
    let shown : Line = cut c.ended.result c.line.result.now in
    let is : shown ≡ cut self.reader.ended self.reader.line = ap (λ ended. cut ended c.line.result.now) c.ended.ensures ∙ ap (cut self.reader.ended) c.line.ensures in
    let rule = g.R.CommitRule.choice c.args.terms.now.rule.now in
    let v : Service = service_of e rule c.args.terms.now.settings.now.batch c.args.terms.now.settings.now.parts in
    let settings = settings_of c.args.store.now in
    let old = g.D.Disk.facts c.args.disk.now in
    let between = g.D.Disk.facts c.answer_line.new.disk in
    let new = g.D.Disk.facts c.end_batch.new.disk in
    start_logged v settings (core_of e) self.lines shown self.reader.ended self.reader.line line (logged_of e) (logged_of now) old new is start
    (Logs-end (source_of e) rule settings (ran_by v (move_at v (before (core_of e) (self.lines + 1)) shown)) (logged_of e) (logged_of now) old between new c.answer_line.ensures.logs
    (ended_logs e now c.answer_line.ensures.goes_on.runs rule settings _ (logged_of now) between new c.answer_line.ensures.goes_on.settings (c.end_batch.ensures.logs rule)))

pub returns-in-None-clause-logs : goal.returns-in-None-clause-logs
returns-in-None-clause-logs g c = λ line start.
    let e = c.args.engine.now in
    let self = c.args.self.now in
    let shown : Line = cut c.ended.result c.line.result.now in
    let is : shown ≡ cut self.reader.ended self.reader.line = ap (λ ended. cut ended c.line.result.now) c.ended.ensures ∙ ap (cut self.reader.ended) c.line.ensures in
    let v : Service = service_of e (g.R.CommitRule.choice c.args.terms.now.rule.now) c.args.terms.now.settings.now.batch c.args.terms.now.settings.now.parts in
    start_logged v (settings_of c.args.store.now) (core_of e) self.lines shown self.reader.ended self.reader.line line (logged_of e) (logged_of c.answer_line.new.engine)
    (g.D.Disk.facts c.args.disk.now) (g.D.Disk.facts c.answer_line.new.disk) is start c.answer_line.ensures.logs

pub returns-in-Err-clause-logs : goal.returns-in-Err-clause-logs
returns-in-Err-clause-logs g c = λ line start.
    let e = c.args.engine.now in
    let self = c.args.self.now in
    let shown : Line = cut c.ended.result c.line.result.now in
    let is : shown ≡ cut self.reader.ended self.reader.line = ap (λ ended. cut ended c.line.result.now) c.ended.ensures ∙ ap (cut self.reader.ended) c.line.ensures in
    let v : Service = service_of e (g.R.CommitRule.choice c.args.terms.now.rule.now) c.args.terms.now.settings.now.batch c.args.terms.now.settings.now.parts in
    start_logged v (settings_of c.args.store.now) (core_of e) self.lines shown self.reader.ended self.reader.line line (logged_of e) (logged_of c.answer_line.new.engine)
    (g.D.Disk.facts c.args.disk.now) (g.D.Disk.facts c.answer_line.new.disk) is start c.answer_line.ensures.logs

-- behind the batch its end can be made
pub end_batch-requires-clause-ready : goal.end_batch-requires-clause-ready
end_batch-requires-clause-ready g c =
    ready_behind (g.R.CommitRule.choice c.args.terms.now.rule.now) _ _ _ c.requires.ready c.in-Ok.ensures.goes_on c.in-Ok.ensures.few c.answer_line.ensures.cycle

pub returns-in-Some-clause-goes_on : goal.returns-in-Some-clause-goes_on
returns-in-Some-clause-goes_on g c =
    let rule = g.R.CommitRule.choice c.args.terms.now.rule.now in then_goes rule _ _ _ _ c.in-Ok.ensures.goes_on (c.end_batch.ensures.goes_on rule)

pub returns-in-Some-clause-writes : goal.returns-in-Some-clause-writes
returns-in-Some-clause-writes g c = record {
  later = c.answer_line.ensures.later;
  later_err = c.end_batch.ensures.later_err;
  cause = λ is. inr (c.end_batch.ensures.cause (unwritten_is c.end_batch.result is));
}

pub returns-in-None-clause-goes_on : goal.returns-in-None-clause-goes_on
returns-in-None-clause-goes_on g c = c.in-Ok.ensures.goes_on

pub returns-in-None-clause-ready : goal.returns-in-None-clause-ready
returns-in-None-clause-ready g c =
    ready_behind (g.R.CommitRule.choice c.args.terms.now.rule.now) _ _ _ c.requires.ready c.in-Ok.ensures.goes_on c.in-Ok.ensures.few c.answer_line.ensures.cycle

pub returns-in-None-clause-writes : goal.returns-in-None-clause-writes
returns-in-None-clause-writes g c = record { later = c.answer_line.ensures.later; later_err = omega arith; cause = λ is. absurd (true≢false (sym is)) }

pub returns-in-Err-clause-goes_on : goal.returns-in-Err-clause-goes_on
returns-in-Err-clause-goes_on g c = c.in-Err.ensures.goes_on

pub returns-in-Err-clause-writes : goal.returns-in-Err-clause-writes
returns-in-Err-clause-writes g c = record {
  later = c.answer_line.ensures.later;
  later_err = omega arith;
  cause = λ is. inl (c.in-Err.ensures.cause (ap Err (stop_unwritten c.in-Err.stop is)));
}

pub returns-in-Some-clause-in_turn : goal.returns-in-Some-clause-in_turn
returns-in-Some-clause-in_turn g c =
    in_turn_ended c.args.terms.now.settings.now.trace c.end_batch.result _ c.answer_line.new.store c.args.self.now.tally.batches _ c.end_batch.ensures.ready c.end_batch.ensures.placed c.end_batch.ensures.memory
    (ap (λ (t : Tally). t.batches) c.end_batch.ensures.counted)
    (cycle_kept c.args.store.now c.answer_line.new.store c.args.self.now.tally.batches c.answer_line.ensures.cycle c.requires.ready.in_cycle) c.end_batch.ensures.asked c.end_batch.ensures.cycle

pub returns-in-None-clause-in_turn : goal.returns-in-None-clause-in_turn
returns-in-None-clause-in_turn g c =
    in_turn_still c.args.terms.now.settings.now.trace {T = Unit {0}} (Ok (tt {0})) c.args.store.now c.answer_line.new.store c.args.self.now.tally.batches c.answer_line.ensures.cycle c.requires.ready.in_cycle

pub returns-in-Err-clause-in_turn : goal.returns-in-Err-clause-in_turn
returns-in-Err-clause-in_turn g c =
    in_turn_still c.args.terms.now.settings.now.trace {T = Unit {0}} (Err c.in-Err.stop) c.args.store.now c.answer_line.new.store c.args.self.now.tally.batches c.answer_line.ensures.cycle c.requires.ready.in_cycle

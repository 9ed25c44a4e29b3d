use Rattle.std.proofs.Common.{ap, sym, subst, refl, ◌∙◌, Ok, Err, length, arith, [], ◌∷◌}
use Rattle.std.specs.Prelude.{IfOk}
use Rattle.std.specs.declared.result.Result.{Result}
use Rattle.request_json.specs.Actions.{last_line}
use Rattle.input_lines.specs.declared.lines.Lines.{Lines}
use Rattle.input_lines.proofs.GivenLaws.{line_shortens}
use Rattle.engine.specs.EngineViews.{core_of, source_of}
use Rattle.session_store.specs.Stores.{settings_of}
use Rattle.session_store.specs.Vocabulary.{logged_of}
use Rattle.session_store.specs.Cycles.{IsInCycle}
use Rattle.session_steps.specs.Vocabulary.{Service, service_of, cut}
use Rattle.session_steps.specs.declared.tally.Tally.{Tally}
use Rattle.session_steps.specs.Steps.{Answer, last_steps, open_at}
use Rattle.session_steps.specs.Doings.{Point}
use Rattle.session_steps.proofs.Composing.{same_point}
use Rattle.session_steps.proofs.Vocabulary.{same_service, Logs-still, stays, then_goes, fails_alike}
use Rattle.batch_session.specs.declared.serving.SessionFault.{SessionFault}
use Rattle.batch_session.specs.Faults.{is_disk_fault, disk_failed, write_failed}
use Rattle.batch_session.specs.Points.{point_of}
use Rattle.batch_session.specs.Served.{View, view_of, first_point}
use Rattle.batch_session.specs.SessionStates.{IsReady}
use Rattle.batch_session.proofs.Reaching.{Reaches-by}
use Rattle.batch_session.proofs.GoingLaws.{Going-new, Going-line, At-a-line, At-the-end, At-no-memory, At-a-fault, At-the-limit}
use Rattle.batch_session.proofs.StateLaws.{unwritten, then_writes, writes_alike, fault_alike, write_alike, end_fails_alike, end_writes_alike, end_in_cycle}
use Rattle.batch_session.proofs.serving.answer_all.Goals as goal

pub lines-init : goal.lines-init
lines-init g c =
    let e = c.args.engine.now in
    let rule = g.R.CommitRule.choice c.args.terms.now.rule.now in
    let traces = c.args.terms.now.settings.now.trace in
    let limit = c.args.terms.now.settings.now.limit in
    let v : Service = service_of e rule c.args.terms.now.settings.now.batch c.args.terms.now.settings.now.parts in
    let old : View = view_of e (g.S.Source.left c.args.input.now) (g.K.Sink.held c.args.out.now) (g.K.Sink.handed c.args.out.now) (g.E.Sink.held c.args.err.now) (g.C.Chooser.choices c.args.chooser.now) (g.W.Watch.told c.args.watch.now) in
    let intake = c.new-intake.result in
    let new = c.new-intake.ensures in
    let first : Point = point_of e intake.lines intake.tally old.held old.handed old.traced old.outside.choices old.outside.told in
    record {
      going = Going-new v traces (settings_of c.args.store.now) limit old.left (first_point old) first (logged_of e) (g.D.Disk.facts c.args.disk.now) new.reader
          (same_point (first_point old) first refl new.lines refl refl refl refl new.tally)
          (Logs-still (source_of e) rule c.args.store.now _ (logged_of e) (logged_of e) (g.D.Disk.facts c.args.disk.now) refl c.requires.ready.can_go_on.kept);
      lines = omega (arith, new.lines, new.reader.room, ap length new.reader.piece);
      read = omega arith;
      ready = subst (IsReady _) (sym (ap (λ (t : Tally). t.batches) new.tally)) c.requires.ready;
      goes_on = stays rule _ c.requires.ready.can_go_on;
      writes = unwritten _ _;
    }

pub lines-smaller : goal.lines-smaller
lines-smaller g c =
    let same = c.answer.ensures.reader in
    omega (arith, line_shortens (rw c.in-Ok-Line.field-0-is at c.in-Ok-Line.ensures.gives), ap (λ (r : Lines). r.room) same, ap (λ (r : Lines). length r.piece) same)

pub lines-preserved : goal.lines-preserved
lines-preserved g c =
    let e = c.args.engine.now in
    let at = c.lines.engine in
    let told = c.answer.new in
    let rule = g.R.CommitRule.choice c.args.terms.now.rule.now in
    let size = c.args.terms.now.settings.now.batch in
    let parts = c.args.terms.now.settings.now.parts in
    let traces = c.args.terms.now.settings.now.trace in
    let settings = settings_of c.args.store.now in
    let held = settings_of c.lines.store in
    let v : Service = service_of e rule size parts in
    let here : Service = service_of at rule size parts in
    let same = same_service e at c.lines.invariant.goes_on.runs rule size parts in
    let line = rw c.in-Ok-Line.field-0-is at c.in-Ok-Line.ensures.gives in
    let reader : Lines = c.next.new.self in
    let q : Point = point_of at c.lines.intake.lines c.lines.intake.tally (g.K.Sink.held c.lines.out) (g.K.Sink.handed c.lines.out) (g.E.Sink.held c.lines.err) (g.C.Chooser.choices c.lines.chooser) (g.W.Watch.told c.lines.watch) in
    let z : Point = point_of told.engine told.self.lines told.self.tally (g.K.Sink.held told.out) (g.K.Sink.handed told.out) (g.E.Sink.held told.err) (g.C.Chooser.choices told.chooser) (g.W.Watch.told told.watch) in
    let kept = c.answer.ensures.reader in
    record {
      going = Going-line v traces settings c.args.terms.now.settings.now.limit c.lines.invariant.going line told.self.reader z (logged_of told.engine) (g.D.Disk.facts told.disk) kept
          (λ whole start. Reaches-by {T = Unit {0}} v here traces settings held (λ _. Answer (cut reader.ended whole) ∷ []) (Ok (tt {0})) q z _ _ _ _ same
          c.lines.invariant.goes_on.settings (record { came = c.in-Ok.ensures.answers whole start; logs = c.answer.ensures.logs whole start }));
      lines = omega (arith, c.lines.invariant.lines, line_shortens line, c.answer.ensures.within, ap (λ (r : Lines). r.room) kept, ap (λ (r : Lines). length r.piece) kept);
      read = omega (arith, c.lines.invariant.read, c.next.ensures.later);
      ready = c.in-Ok.ensures.ready;
      goes_on = then_goes rule _ _ _ _ c.lines.invariant.goes_on c.in-Ok.ensures.goes_on;
      writes = then_writes _ _ _ _ _ _ _ c.lines.invariant.writes c.in-Ok.ensures.writes;
    }

pub returns-in-Err-answer-clause-serves : goal.returns-in-Err-answer-clause-serves
returns-in-Err-answer-clause-serves g c =
    let e = c.args.engine.now in
    let at = c.lines.engine in
    let told = c.answer.new in
    let rule = g.R.CommitRule.choice c.args.terms.now.rule.now in
    let size = c.args.terms.now.settings.now.batch in
    let parts = c.args.terms.now.settings.now.parts in
    let traces = c.args.terms.now.settings.now.trace in
    let settings = settings_of c.args.store.now in
    let held = settings_of c.lines.store in
    let v : Service = service_of e rule size parts in
    let here : Service = service_of at rule size parts in
    let same = same_service e at c.lines.invariant.goes_on.runs rule size parts in
    let stop = c.in-Err-answer.stop in
    let line = rw c.in-Ok-Line.field-0-is at c.in-Ok-Line.ensures.gives in
    let reader : Lines = c.next.new.self in
    let old : View = view_of e (g.S.Source.left c.args.input.now) (g.K.Sink.held c.args.out.now) (g.K.Sink.handed c.args.out.now) (g.E.Sink.held c.args.err.now) (g.C.Chooser.choices c.args.chooser.now) (g.W.Watch.told c.args.watch.now) in
    let new : View = view_of told.engine (g.S.Source.left c.next.new.input) (g.K.Sink.held told.out) (g.K.Sink.handed told.out) (g.E.Sink.held told.err) (g.C.Chooser.choices told.chooser) (g.W.Watch.told told.watch) in
    let q : Point = point_of at c.lines.intake.lines c.lines.intake.tally (g.K.Sink.held c.lines.out) (g.K.Sink.handed c.lines.out) (g.E.Sink.held c.lines.err) (g.C.Chooser.choices c.lines.chooser) (g.W.Watch.told c.lines.watch) in
    let z : Point = point_of told.engine told.self.lines told.self.tally new.held new.handed new.traced new.outside.choices new.outside.told in
    At-a-line v traces settings c.args.terms.now.settings.now.limit old new c.lines.invariant.going told.self.lines told.self.tally told.store line stop (Err c.fault_of.result) (ap Err c.fault_of.ensures)
    (λ whole start. Reaches-by {T = Unit {0}} v here traces settings held (λ _. Answer (cut reader.ended whole) ∷ []) (Err stop) q z _ _ _ _ same
    c.lines.invariant.goes_on.settings (record { came = c.in-Err-answer.ensures.answers whole start; logs = c.answer.ensures.logs whole start })) c.in-Err-answer.ensures.in_turn

pub returns-in-Err-answer-clause-goes_on : goal.returns-in-Err-answer-clause-goes_on
returns-in-Err-answer-clause-goes_on g c =
    let rule = g.R.CommitRule.choice c.args.terms.now.rule.now in
    fails_alike rule _ _ _ _ (fault_alike (Unit {0}) Tally c.in-Err-answer.stop ∙ ap is_disk_fault (sym c.fault_of.ensures))
    (then_goes rule _ _ _ _ c.lines.invariant.goes_on c.in-Err-answer.ensures.goes_on)

pub returns-in-Err-answer-clause-writes : goal.returns-in-Err-answer-clause-writes
returns-in-Err-answer-clause-writes g c =
    writes_alike _ _ _ _ _ _ (write_alike (Unit {0}) Tally c.in-Err-answer.stop ∙ ap (λ (f : SessionFault). write_failed {T = Tally} (Err f)) (sym c.fault_of.ensures))
    (then_writes _ _ _ _ _ _ _ c.lines.invariant.writes c.in-Err-answer.ensures.writes)

pub finish-ended-requires-clause-left : goal.finish-ended-requires-clause-left
finish-ended-requires-clause-left g c = (rw c.in-Ok-End.field-0-is at c.in-Ok-End.ensures.gives).0.joins.ended

pub returns-in-Ok-End-clause-serves : goal.returns-in-Ok-End-clause-serves
returns-in-Ok-End-clause-serves g c =
    let e = c.args.engine.now in
    let at = c.lines.engine in
    let end = c.finish-ended.new in
    let rule = g.R.CommitRule.choice c.args.terms.now.rule.now in
    let size = c.args.terms.now.settings.now.batch in
    let parts = c.args.terms.now.settings.now.parts in
    let traces = c.args.terms.now.settings.now.trace in
    let settings = settings_of c.args.store.now in
    let held = settings_of c.lines.store in
    let v : Service = service_of e rule size parts in
    let here : Service = service_of at rule size parts in
    let same = same_service e at c.lines.invariant.goes_on.runs rule size parts in
    let r = c.finish-ended.result in
    let ended = rw c.in-Ok-End.field-0-is at c.in-Ok-End.ensures.gives in
    let old : View = view_of e (g.S.Source.left c.args.input.now) (g.K.Sink.held c.args.out.now) (g.K.Sink.handed c.args.out.now) (g.E.Sink.held c.args.err.now) (g.C.Chooser.choices c.args.chooser.now) (g.W.Watch.told c.args.watch.now) in
    let new : View = view_of end.engine (g.S.Source.left c.next.new.input) (g.K.Sink.held end.out) (g.K.Sink.handed end.out) (g.E.Sink.held end.err) (g.C.Chooser.choices end.chooser) (g.W.Watch.told end.watch) in
    let q : Point = point_of at c.lines.intake.lines c.lines.intake.tally (g.K.Sink.held c.lines.out) (g.K.Sink.handed c.lines.out) (g.E.Sink.held c.lines.err) (g.C.Chooser.choices c.lines.chooser) (g.W.Watch.told c.lines.watch) in
    let z : Point = point_of end.engine end.self.lines end.self.tally new.held new.handed new.traced new.outside.choices new.outside.told in
    At-the-end v traces settings c.args.terms.now.settings.now.limit old new c.lines.invariant.going end.self.lines end.self.tally end.store ended r c.finished.result c.finished.ensures
    c.finish-ended.ensures.none
    (λ whole start. Reaches-by v here traces settings held (λ w. last_steps w (open_at (core_of at) c.lines.intake.lines) (last_line whole)) r q z _ _ _ _ same
    c.lines.invariant.goes_on.settings (record { came = c.finish-ended.ensures.finishes whole start; logs = c.finish-ended.ensures.logs whole start })) c.finish-ended.ensures.in_turn

pub returns-in-Ok-End-clause-in_cycle : goal.returns-in-Ok-End-clause-in_cycle
returns-in-Ok-End-clause-in_cycle g c =
    subst (λ (r : Result Tally SessionFault). IfOk r (λ tally. IsInCycle c.finish-ended.new.store tally.batches)) (sym c.finished.ensures)
    (end_in_cycle c.finish-ended.result _ _ c.finish-ended.ensures.ready)

pub returns-in-Ok-End-clause-goes_on : goal.returns-in-Ok-End-clause-goes_on
returns-in-Ok-End-clause-goes_on g c =
    let rule = g.R.CommitRule.choice c.args.terms.now.rule.now in
    fails_alike rule _ _ _ _ (end_fails_alike c.finish-ended.result _ ∙ ap disk_failed (sym c.finished.ensures))
    (then_goes rule _ _ _ _ c.lines.invariant.goes_on c.finish-ended.ensures.goes_on)

pub returns-in-Ok-End-clause-writes : goal.returns-in-Ok-End-clause-writes
returns-in-Ok-End-clause-writes g c =
    writes_alike _ _ _ _ _ _ (end_writes_alike c.finish-ended.result _ ∙ ap write_failed (sym c.finished.ensures))
    (then_writes _ _ _ _ _ _ _ c.lines.invariant.writes c.finish-ended.ensures.writes)

pub returns-in-Ok-ReadFault-clause-serves : goal.returns-in-Ok-ReadFault-clause-serves
returns-in-Ok-ReadFault-clause-serves g c =
    let e = c.args.engine.now in
    let s = c.lines in
    let v : Service = service_of e (g.R.CommitRule.choice c.args.terms.now.rule.now) c.args.terms.now.settings.now.batch c.args.terms.now.settings.now.parts in
    let old : View = view_of e (g.S.Source.left c.args.input.now) (g.K.Sink.held c.args.out.now) (g.K.Sink.handed c.args.out.now) (g.E.Sink.held c.args.err.now) (g.C.Chooser.choices c.args.chooser.now) (g.W.Watch.told c.args.watch.now) in
    let new : View = view_of s.engine (g.S.Source.left c.next.new.input) (g.K.Sink.held s.out) (g.K.Sink.handed s.out) (g.E.Sink.held s.err) (g.C.Chooser.choices s.chooser) (g.W.Watch.told s.watch) in
    At-a-fault v c.args.terms.now.settings.now.trace (settings_of c.args.store.now) c.args.terms.now.settings.now.limit old new s.intake.lines s.intake.tally s.invariant.going s.store
    (rw c.in-Ok-ReadFault.field-0-is at c.in-Ok-ReadFault.ensures.gives) s.invariant.ready.in_cycle

pub returns-in-Ok-TooLong-clause-serves : goal.returns-in-Ok-TooLong-clause-serves
returns-in-Ok-TooLong-clause-serves g c =
    let e = c.args.engine.now in
    let s = c.lines in
    let v : Service = service_of e (g.R.CommitRule.choice c.args.terms.now.rule.now) c.args.terms.now.settings.now.batch c.args.terms.now.settings.now.parts in
    let old : View = view_of e (g.S.Source.left c.args.input.now) (g.K.Sink.held c.args.out.now) (g.K.Sink.handed c.args.out.now) (g.E.Sink.held c.args.err.now) (g.C.Chooser.choices c.args.chooser.now) (g.W.Watch.told c.args.watch.now) in
    let new : View = view_of s.engine (g.S.Source.left c.next.new.input) (g.K.Sink.held s.out) (g.K.Sink.handed s.out) (g.E.Sink.held s.err) (g.C.Chooser.choices s.chooser) (g.W.Watch.told s.watch) in
    At-the-limit v c.args.terms.now.settings.now.trace (settings_of c.args.store.now) c.args.terms.now.settings.now.limit old new s.intake.lines s.intake.tally s.invariant.going s.store
    (rw c.in-Ok-TooLong.field-0-is at c.in-Ok-TooLong.ensures.gives) s.invariant.ready.in_cycle

pub returns-in-Err-clause-serves : goal.returns-in-Err-clause-serves
returns-in-Err-clause-serves g c =
    let e = c.args.engine.now in
    let s = c.lines in
    let v : Service = service_of e (g.R.CommitRule.choice c.args.terms.now.rule.now) c.args.terms.now.settings.now.batch c.args.terms.now.settings.now.parts in
    let old : View = view_of e (g.S.Source.left c.args.input.now) (g.K.Sink.held c.args.out.now) (g.K.Sink.handed c.args.out.now) (g.E.Sink.held c.args.err.now) (g.C.Chooser.choices c.args.chooser.now) (g.W.Watch.told c.args.watch.now) in
    let new : View = view_of s.engine (g.S.Source.left c.next.new.input) (g.K.Sink.held s.out) (g.K.Sink.handed s.out) (g.E.Sink.held s.err) (g.C.Chooser.choices s.chooser) (g.W.Watch.told s.watch) in
    At-no-memory v c.args.terms.now.settings.now.trace (settings_of c.args.store.now) c.args.terms.now.settings.now.limit old new s.intake.lines s.intake.tally s.invariant.going s.store c.in-Err.ensures.gives s.invariant.ready.in_cycle

use Rattle.std.proofs.Common.{[], refl, sym, subst, if◌then◌else◌}
use Rattle.std.specs.List.{cons_option}
use Rattle.std.specs.Io.KnownBytes.{Appends}
use Rattle.sf_outside.specs.Gains.{joined}
use Rattle.engine.specs.EngineViews.{core_of, source_of, limit_of}
use Rattle.batch_replies.specs.Vocabulary.{settings_of, logged_of}
use Rattle.batch_replies.specs.BatchAnswers.{runs_on}
use Rattle.batch_replies.specs.Moments.{Logs}
use Rattle.batch_replies.proofs.GoingLaws.{stays, fails_alike}
use Rattle.batch_replies.proofs.MomentLaws.{Logs-still}
use Rattle.line_answers.specs.Services.{service_by}
use Rattle.line_answers.specs.LineAnswers.{Move, Moment, moment_of, ran_by, Moves}
use Rattle.line_answers.proofs.FlushLaws.{stopped_line, undue_line, line_flushes}
use Rattle.line_answers.proofs.TakenLaws.{batch_moved, fails_so, where_ok}
use Rattle.line_answers.proofs.answering.answer_taken.Goals as goal

pub returns-clause-answers : goal.returns-clause-answers
returns-clause-answers g c =
    let e = c.args.engine.now in
    let v = service_by e (g.R.CommitRule.choice c.args.terms.now.rule.now) c.args.terms.now.settings.now in
    let lines = cons_option c.args.taken.answer [] in
    let m : Move = record { answer = lines; core = core_of e; is_due = c.args.taken.is_due } in
    let old : Moment = moment_of e (g.K.Sink.held c.args.out.now) (g.C.Chooser.choices c.args.chooser.now) (g.W.Watch.told c.args.watch.now) in
    let new : Moment = moment_of c.answer_batch.new.engine (g.K.Sink.held c.answer_batch.new.out) (g.C.Chooser.choices c.answer_batch.new.chooser) (g.W.Watch.told c.answer_batch.new.watch) in
    subst (λ r. Moves v r m old new) (sym c.line_result.ensures)
    (batch_moved v c.answer_batch.result m old new (g.K.Sink.held c.write_answer.new.out) c.if-not-is_due.false
    (where_ok c.write_answer.result (Appends (g.K.Sink.held c.args.out.now) (g.K.Sink.held c.write_answer.new.out) (joined lines)) c.if-is_err.ensures.value c.write_answer.ensures.whole)
    (c.answer_batch.ensures.answers c.args.terms.now.settings.now.batch) c.answer_batch.ensures.told)

pub returns-then-is_err-clause-goes_on : goal.returns-then-is_err-clause-goes_on
returns-then-is_err-clause-goes_on g c = stays (g.R.CommitRule.choice c.args.terms.now.rule.now) _ c.requires.ready

pub returns-then-not-is_due-clause-goes_on : goal.returns-then-not-is_due-clause-goes_on
returns-then-not-is_due-clause-goes_on g c = stays (g.R.CommitRule.choice c.args.terms.now.rule.now) _ c.requires.ready

pub returns-clause-goes_on : goal.returns-clause-goes_on
returns-clause-goes_on g c =
    fails_alike (g.R.CommitRule.choice c.args.terms.now.rule.now) _ _ _ _ (fails_so c.answer_batch.result c.line_result.result c.line_result.ensures) c.answer_batch.ensures.goes_on

pub returns-then-is_err-clause-logs : goal.returns-then-is_err-clause-logs
returns-then-is_err-clause-logs g c =
    let e = c.args.engine.now in
    let rule = g.R.CommitRule.choice c.args.terms.now.rule.now in
    Logs-still (source_of e) rule c.args.store.now (ran_by (service_by e rule c.args.terms.now.settings.now) (record { answer = cons_option c.args.taken.answer []; core = core_of e; is_due = c.args.taken.is_due }))
    (logged_of e) (logged_of e) (g.D.Disk.facts c.args.disk.now) refl c.requires.ready.kept

pub returns-then-not-is_due-clause-logs : goal.returns-then-not-is_due-clause-logs
returns-then-not-is_due-clause-logs g c =
    let e = c.args.engine.now in
    let rule = g.R.CommitRule.choice c.args.terms.now.rule.now in
    Logs-still (source_of e) rule c.args.store.now (ran_by (service_by e rule c.args.terms.now.settings.now) (record { answer = cons_option c.args.taken.answer []; core = core_of e; is_due = c.args.taken.is_due }))
    (logged_of e) (logged_of e) (g.D.Disk.facts c.args.disk.now) refl c.requires.ready.kept

pub returns-clause-logs : goal.returns-clause-logs
returns-clause-logs g c =
    let e = c.args.engine.now in
    let rule = g.R.CommitRule.choice c.args.terms.now.rule.now in
    let size = c.args.terms.now.settings.now.batch in
    subst (λ due. Logs (source_of e) rule (settings_of c.args.store.now) (if due then runs_on (source_of e) rule (record { batch = size; history = limit_of e }) (core_of e) else []) (logged_of e)
    (logged_of c.answer_batch.new.engine) (g.D.Disk.facts c.args.disk.now) (g.D.Disk.facts c.answer_batch.new.disk)) (sym c.if-not-is_due.false) (c.answer_batch.ensures.logs size)

pub returns-then-is_err-clause-flushes : goal.returns-then-is_err-clause-flushes
returns-then-is_err-clause-flushes g c = stopped_line _ _ _ _ c.write_answer.ensures.stays

pub returns-then-not-is_due-clause-flushes : goal.returns-then-not-is_due-clause-flushes
returns-then-not-is_due-clause-flushes g c = undue_line _ _ _ c.write_answer.ensures.stays

pub returns-clause-flushes : goal.returns-clause-flushes
returns-clause-flushes g c = line_flushes c.answer_batch.result _ _ _ _ _ c.line_result.ensures c.write_answer.ensures.stays c.answer_batch.ensures.flushes

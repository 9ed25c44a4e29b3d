use Rattle.std.proofs.Common.{[]}
use Rattle.std.specs.List.{cons_option}
use Rattle.request_json.specs.Actions.{action_of}
use Rattle.engine.specs.EngineViews.{core_of, source_of}
use Rattle.batch_replies.specs.Vocabulary.{settings_of, logged_of}
use Rattle.batch_replies.specs.GoingOn.{SessionState, state_of}
use Rattle.batch_replies.proofs.FlushLaws.{stays_none}
use Rattle.batch_replies.proofs.GoingLaws.{still_ready, then_goes}
use Rattle.batch_replies.proofs.MomentLaws.{Logs-still}
use Rattle.line_answers.specs.LineViews.{line_of}
use Rattle.line_answers.specs.Services.{service_by}
use Rattle.line_answers.specs.LineAnswers.{before, Moment, moment_of, move_at, ran_by}
use Rattle.line_answers.proofs.FlushLaws.{stopped_line}
use Rattle.line_answers.proofs.TakenLaws.{engine_moved, engine_logs, line_moved, taken_waits, few_behind}
use Rattle.line_answers.proofs.TakingLaws.{takes_on}
use Rattle.line_answers.proofs.answering.answer_line.Goals as goal

-- a batch is due only where a request waits
pub answer_taken-requires-clause-waits : goal.answer_taken-requires-clause-waits
answer_taken-requires-clause-waits g c =
    let e = c.args.engine.now in
    let rule = g.R.CommitRule.choice c.args.terms.now.rule.now in
    let v = service_by e rule c.args.terms.now.settings.now in
    taken_waits v (core_of e) (core_of c.take_line.new.engine) (action_of (source_of e) (line_of c.args.line)) c.in-Ok.taken.is_due c.in-Ok.ensures.core (c.in-Ok.ensures.due rule e.limit)

pub answer_taken-requires-clause-ready : goal.answer_taken-requires-clause-ready
answer_taken-requires-clause-ready g c =
    let rule = g.R.CommitRule.choice c.args.terms.now.rule.now in
    let old : SessionState = state_of c.args.engine.now c.args.store.now (g.D.Disk.facts c.args.disk.now) (g.D.Disk.faults c.args.disk.now) (g.D.Disk.mounts c.args.disk.now) in
    still_ready rule old _ c.requires.ready (takes_on rule old c.take_line.new.engine c.requires.ready c.take_line.ensures.takes)

pub returns-in-Ok-clause-answers : goal.returns-in-Ok-clause-answers
returns-in-Ok-clause-answers g c =
    let e = c.args.engine.now in
    let next = c.take_line.new.engine in
    let rule = g.R.CommitRule.choice c.args.terms.now.rule.now in
    let size = c.args.terms.now.settings.now.batch in
    let parts = c.args.terms.now.settings.now.parts in
    let number = c.args.line.number in
    let line = line_of c.args.line in
    let old : Moment = moment_of next (g.K.Sink.held c.args.out.now) (g.C.Chooser.choices c.args.chooser.now) (g.W.Watch.told c.args.watch.now) in
    let new : Moment = moment_of c.answer_taken.new.engine (g.K.Sink.held c.answer_taken.new.out) (g.C.Chooser.choices c.answer_taken.new.chooser) (g.W.Watch.told c.answer_taken.new.watch) in
    line_moved (service_by e rule c.args.terms.now.settings.now) c.answer_taken.result (before (core_of e) number) line (core_of e) (core_of next) old.held old.outside new
    (engine_moved e next c.take_line.ensures.takes.runs rule size parts number line (cons_option c.in-Ok.taken.answer []) c.in-Ok.taken.is_due c.requires.first
    c.in-Ok.ensures.core c.in-Ok.ensures.answer (c.in-Ok.ensures.due rule e.limit) c.answer_taken.result old new c.answer_taken.ensures.answers)

pub returns-in-Ok-clause-few : goal.returns-in-Ok-clause-few
returns-in-Ok-clause-few g c =
    let e = c.args.engine.now in
    let next = c.take_line.new.engine in
    let rule = g.R.CommitRule.choice c.args.terms.now.rule.now in
    let size = c.args.terms.now.settings.now.batch in
    let parts = c.args.terms.now.settings.now.parts in
    let number = c.args.line.number in
    let line = line_of c.args.line in
    let old : Moment = moment_of next (g.K.Sink.held c.args.out.now) (g.C.Chooser.choices c.args.chooser.now) (g.W.Watch.told c.args.watch.now) in
    let new : Moment = moment_of c.answer_taken.new.engine (g.K.Sink.held c.answer_taken.new.out) (g.C.Chooser.choices c.answer_taken.new.chooser) (g.W.Watch.told c.answer_taken.new.watch) in
    few_behind (service_by e rule c.args.terms.now.settings.now) (g.met.R.CommitRule.lawful c.args.terms.now.rule.now) c.requires.range.batch (core_of e) number line c.requires.few c.answer_taken.result old new
    (engine_moved e next c.take_line.ensures.takes.runs rule size parts number line (cons_option c.in-Ok.taken.answer []) c.in-Ok.taken.is_due c.requires.first
    c.in-Ok.ensures.core c.in-Ok.ensures.answer (c.in-Ok.ensures.due rule e.limit) c.answer_taken.result old new c.answer_taken.ensures.answers)

pub returns-in-Ok-clause-goes_on : goal.returns-in-Ok-clause-goes_on
returns-in-Ok-clause-goes_on g c =
    let rule = g.R.CommitRule.choice c.args.terms.now.rule.now in
    let old : SessionState = state_of c.args.engine.now c.args.store.now (g.D.Disk.facts c.args.disk.now) (g.D.Disk.faults c.args.disk.now) (g.D.Disk.mounts c.args.disk.now) in
    then_goes rule _ old _ _ (takes_on rule old c.take_line.new.engine c.requires.ready c.take_line.ensures.takes) c.answer_taken.ensures.goes_on

pub returns-in-Err-clause-goes_on : goal.returns-in-Err-clause-goes_on
returns-in-Err-clause-goes_on g c =
    let rule = g.R.CommitRule.choice c.args.terms.now.rule.now in
    let old : SessionState = state_of c.args.engine.now c.args.store.now (g.D.Disk.facts c.args.disk.now) (g.D.Disk.faults c.args.disk.now) (g.D.Disk.mounts c.args.disk.now) in
    takes_on rule old c.take_line.new.engine c.requires.ready c.take_line.ensures.takes

pub returns-in-Ok-clause-logs : goal.returns-in-Ok-clause-logs
returns-in-Ok-clause-logs g c =
    let e = c.args.engine.now in
    let rule = g.R.CommitRule.choice c.args.terms.now.rule.now in
    engine_logs e c.take_line.new.engine c.take_line.ensures.takes.runs rule c.args.terms.now.settings.now.batch c.args.terms.now.settings.now.parts c.args.line.number (line_of c.args.line)
    (cons_option c.in-Ok.taken.answer []) c.in-Ok.taken.is_due c.requires.first
    c.in-Ok.ensures.core c.in-Ok.ensures.answer (c.in-Ok.ensures.due rule e.limit) c.take_line.ensures.takes.logged (settings_of c.args.store.now) (logged_of c.answer_taken.new.engine)
    (g.D.Disk.facts c.args.disk.now) (g.D.Disk.facts c.answer_taken.new.disk) c.answer_taken.ensures.logs

pub returns-in-Err-clause-logs : goal.returns-in-Err-clause-logs
returns-in-Err-clause-logs g c =
    let e = c.args.engine.now in
    let rule = g.R.CommitRule.choice c.args.terms.now.rule.now in
    let v = service_by e rule c.args.terms.now.settings.now in
    Logs-still (source_of e) rule c.args.store.now (ran_by v (move_at v (before (core_of e) c.args.line.number) (line_of c.args.line))) (logged_of e) (logged_of c.take_line.new.engine)
    (g.D.Disk.facts c.args.disk.now) c.take_line.ensures.takes.logged c.requires.ready.kept

pub returns-in-Err-clause-flushes : goal.returns-in-Err-clause-flushes
returns-in-Err-clause-flushes g c = stopped_line _ _ _ _ (stays_none (g.K.Sink.handed c.args.out.now))

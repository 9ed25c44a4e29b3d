use Rattle.batch_output.specs.Vocabulary.{batch_of, core_of, source_of, compiled_of, limit_of}
use Rattle.session_store.specs.Stores.{settings_of}
use Rattle.session_store.specs.Vocabulary.{logged_of}
use Rattle.batch_replies.specs.BatchAnswers.{runs_on}
use Rattle.batch_replies.proofs.AnswerLaws.{tells_planned}
use Rattle.batch_replies.proofs.GoingLaws.{asked, still_ready, then_goes}
use Rattle.batch_replies.proofs.MomentLaws.{chosen_now, logs_unplanned, logs_planned}
use Rattle.batch_replies.proofs.FlushLaws.{untouched}
use Rattle.batch_replies.proofs.answering.answer_batch.Goals as goal

pub returns-in-Ok-clause-told : goal.returns-in-Ok-clause-told
returns-in-Ok-clause-told g c =
    let core = core_of c.args.engine.now in
    tells_planned (batch_of (compiled_of c.args.engine.now) core.state core.pending) c.args.parts c.in-Ok.planned.events c.answer_planned.result
    (record { choices = g.C.Chooser.choices c.args.chooser.now; told = g.W.Watch.told c.args.watch.now }) (record { choices = g.C.Chooser.choices c.plan.new.chooser; told = g.W.Watch.told c.plan.new.watch })
    c.answer_planned.ensures.placed c.answer_planned.ensures.events c.in-Ok.ensures.told

pub returns-in-Ok-clause-logs : goal.returns-in-Ok-clause-logs
returns-in-Ok-clause-logs g c = λ size.
    let e = c.args.engine.now in
    let now = c.plan.new.self in
    let rule = g.R.CommitRule.choice c.args.rule.now in
    let chosen = chosen_now e now c.plan.ensures.runs c.plan.ensures.core c.plan.ensures.fresh rule c.in-Ok.planned.batch.committed c.in-Ok.ensures.chosen in
    logs_planned e now c.plan.ensures.runs c.plan.ensures.core c.plan.ensures.fresh rule size (settings_of c.args.store.now) (logged_of c.answer_planned.new.engine)
    (g.D.Disk.facts c.args.disk.now) (g.D.Disk.facts c.answer_planned.new.disk) c.answer_planned.result c.answer_planned.new.engine _ _ c.answer_planned.ensures.placed
    (c.answer_planned.ensures.answers rule size chosen) (c.answer_planned.ensures.logs rule chosen)

pub returns-in-Err-HistoryFull-clause-logs : goal.returns-in-Err-HistoryFull-clause-logs
returns-in-Err-HistoryFull-clause-logs g c = λ size.
    let e = c.args.engine.now in
    let rule = g.R.CommitRule.choice c.args.rule.now in
    logs_unplanned e c.plan.new.self c.plan.ensures.runs c.plan.ensures.core c.plan.ensures.fresh rule c.args.store.now
    (runs_on (source_of e) rule (record { batch = size; history = limit_of e }) (core_of e)) (g.D.Disk.facts c.args.disk.now) c.requires.ready.kept

pub returns-in-Err-NoMemory-clause-logs : goal.returns-in-Err-NoMemory-clause-logs
returns-in-Err-NoMemory-clause-logs g c = λ size.
    let e = c.args.engine.now in
    let rule = g.R.CommitRule.choice c.args.rule.now in
    logs_unplanned e c.plan.new.self c.plan.ensures.runs c.plan.ensures.core c.plan.ensures.fresh rule c.args.store.now
    (runs_on (source_of e) rule (record { batch = size; history = limit_of e }) (core_of e)) (g.D.Disk.facts c.args.disk.now) c.requires.ready.kept

pub answer_planned-requires-clause-ready : goal.answer_planned-requires-clause-ready
answer_planned-requires-clause-ready g c =
    let rule = g.R.CommitRule.choice c.args.rule.now in
    still_ready rule _ _ c.requires.ready (asked rule c.args.engine.now c.plan.new.self c.plan.ensures.runs c.plan.ensures.core c.plan.ensures.fresh _ _ _ _ c.requires.ready)

pub returns-in-Ok-clause-goes_on : goal.returns-in-Ok-clause-goes_on
returns-in-Ok-clause-goes_on g c =
    let e = c.args.engine.now in
    let now = c.plan.new.self in
    let rule = g.R.CommitRule.choice c.args.rule.now in
    let chosen = chosen_now e now c.plan.ensures.runs c.plan.ensures.core c.plan.ensures.fresh rule c.in-Ok.planned.batch.committed c.in-Ok.ensures.chosen in
    then_goes rule _ _ _ _ (asked rule e now c.plan.ensures.runs c.plan.ensures.core c.plan.ensures.fresh _ _ _ _ c.requires.ready) (c.answer_planned.ensures.goes_on rule chosen)

pub returns-in-Err-HistoryFull-clause-goes_on : goal.returns-in-Err-HistoryFull-clause-goes_on
returns-in-Err-HistoryFull-clause-goes_on g c =
    asked (g.R.CommitRule.choice c.args.rule.now) c.args.engine.now c.plan.new.self c.plan.ensures.runs c.plan.ensures.core c.plan.ensures.fresh _ _ _ _ c.requires.ready

pub returns-in-Err-NoMemory-clause-goes_on : goal.returns-in-Err-NoMemory-clause-goes_on
returns-in-Err-NoMemory-clause-goes_on g c =
    asked (g.R.CommitRule.choice c.args.rule.now) c.args.engine.now c.plan.new.self c.plan.ensures.runs c.plan.ensures.core c.plan.ensures.fresh _ _ _ _ c.requires.ready

pub returns-in-Err-HistoryFull-clause-flushes : goal.returns-in-Err-HistoryFull-clause-flushes
returns-in-Err-HistoryFull-clause-flushes g c = untouched _ (g.K.Sink.handed c.args.out.now) _

pub returns-in-Err-NoMemory-clause-flushes : goal.returns-in-Err-NoMemory-clause-flushes
returns-in-Err-NoMemory-clause-flushes g c = untouched _ (g.K.Sink.handed c.args.out.now) _

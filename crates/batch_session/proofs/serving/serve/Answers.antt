use Rattle.std.proofs.Common.{sym, arith}
use Rattle.session_store.specs.Stores.{settings_of}
use Rattle.session_steps.specs.Vocabulary.{service_of}
use Rattle.session_steps.proofs.Vocabulary.{fails_alike, rose_earlier}
use Rattle.batch_session.specs.Served.{view_of}
use Rattle.batch_session.proofs.ServeLaws.{Served-flushed}
use Rattle.batch_session.proofs.StateLaws.{flushed_cause}
use Rattle.batch_session.proofs.TurnLaws.{flushed_since}
use Rattle.batch_session.proofs.serving.serve.Goals as goal

pub returns-clause-served : goal.returns-clause-served
returns-clause-served g c =
    let v = service_of c.args.engine.now (g.R.CommitRule.choice c.args.rule.now) c.args.settings.now.batch c.args.settings.now.parts in
    let old = view_of c.args.engine.now (g.S.Source.left c.args.input.now) (g.K.Sink.held c.args.out.now) (g.K.Sink.handed c.args.out.now) (g.E.Sink.held c.args.err.now) (g.C.Chooser.choices c.args.chooser.now) (g.W.Watch.told c.args.watch.now) in
    let made = c.answer_all-served.new in
    let mid = view_of made.engine (g.S.Source.left made.input) (g.K.Sink.held made.out) (g.K.Sink.handed made.out) (g.E.Sink.held made.err) (g.C.Chooser.choices made.chooser) (g.W.Watch.told made.watch) in
    Served-flushed v c.args.settings.now.trace (settings_of c.args.store.now) c.args.settings.now.limit old mid (g.K.Sink.held c.flushed.new.out) (g.K.Sink.handed c.flushed.new.out) c.flushed.ensures.stays _ _ _ _ made.store
    c.answer_all-served.result c.flushed.result c.flushed.ensures.flushed c.flushed.ensures.disk c.flushed.ensures.kept c.answer_all-served.ensures.serves

pub answer_all-served-requires-clause-range : goal.answer_all-served-requires-clause-range
answer_all-served-requires-clause-range g c = record { batch = c.requires.batch; parts = c.requires.parts }

pub answer_all-served-requires-clause-ready : goal.answer_all-served-requires-clause-ready
answer_all-served-requires-clause-ready g c = record {
  few = c.requires.few;
  can_go_on = record { whole = c.requires.whole; fits = c.requires.fits; storable = c.requires.storable; kept = c.requires.kept };
  in_cycle = c.requires.in_cycle;
}

pub returns-clause-later : goal.returns-clause-later
returns-clause-later g c = omega (arith, c.answer_all-served.ensures.writes.later, c.flushed.ensures.later)

pub returns-clause-later_err : goal.returns-clause-later_err
returns-clause-later_err g c = c.answer_all-served.ensures.writes.later_err

pub returns-clause-write_cause : goal.returns-clause-write_cause
returns-clause-write_cause g c = λ is.
    flushed_cause c.answer_all-served.result _ _ _ _ _ c.answer_all-served.ensures.writes c.flushed.ensures.later (c.flushed.ensures.cause is)

pub returns-clause-runs : goal.returns-clause-runs
returns-clause-runs g c = c.answer_all-served.ensures.goes_on.runs

pub returns-clause-core_fits : goal.returns-clause-core_fits
returns-clause-core_fits g c = c.answer_all-served.ensures.goes_on.fits

pub returns-clause-grows : goal.returns-clause-grows
returns-clause-grows g c = c.answer_all-served.ensures.goes_on.grows

pub returns-clause-storable : goal.returns-clause-storable
returns-clause-storable g c = c.answer_all-served.ensures.goes_on.storable

pub returns-clause-settings : goal.returns-clause-settings
returns-clause-settings g c = c.answer_all-served.ensures.goes_on.settings

pub returns-clause-later_disk : goal.returns-clause-later_disk
returns-clause-later_disk g c = c.answer_all-served.ensures.goes_on.later

pub returns-clause-mounts : goal.returns-clause-mounts
returns-clause-mounts g c = c.answer_all-served.ensures.goes_on.mounts

pub returns-clause-kept : goal.returns-clause-kept
returns-clause-kept g c = (fails_alike (g.R.CommitRule.choice c.args.rule.now) _ _ _ _ (sym c.flushed.ensures.disk) c.answer_all-served.ensures.goes_on).kept

pub returns-clause-disk_cause : goal.returns-clause-disk_cause
returns-clause-disk_cause g c = (fails_alike (g.R.CommitRule.choice c.args.rule.now) _ _ _ _ (sym c.flushed.ensures.disk) c.answer_all-served.ensures.goes_on).cause

pub returns-clause-handed : goal.returns-clause-handed
returns-clause-handed g c = flushed_since c.flushed.result _ _ _ _ _ (rose_earlier _ _ _ c.answer_all-served.ensures.writes.later) c.flushed.ensures.handed

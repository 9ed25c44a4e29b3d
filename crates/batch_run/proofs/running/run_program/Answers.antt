use Rattle.std.proofs.Common.{inl, inr, refl}
use Rattle.sf_outside.specs.DiskModel.{untold}
use Rattle.engine.specs.Cores.{empty_core}
use Rattle.engine.specs.EngineViews.{core_of, source_of, compiled_of, fresh_of}
use Rattle.batch_session.specs.Faults.{disk_failed}
use Rattle.batch_run.specs.RunViews.{shown, rule_of}
use Rattle.batch_session.proofs.Vocabulary.{empty_storable, never_failed}
use Rattle.batch_run.proofs.RunLaws.{ran_from}
use Rattle.batch_run.proofs.running.run_program.Goals as goal

pub returns-in_default-clause-runs : goal.returns-in_default-clause-runs
returns-in_default-clause-runs g c = (empty_core, inl (refl, refl, refl))

pub run_opened-ended-requires-clause-storable : goal.run_opened-ended-requires-clause-storable
run_opened-ended-requires-clause-storable g c =
    let e = c.in-Ok.engine in empty_storable e c.in-Ok.ensures.core c.in-Ok.ensures.fresh

pub returns-clause-runs : goal.returns-clause-runs
returns-clause-runs g c =
    let e = c.in-Ok.engine in
    let last = core_of c.run_opened-ended.new.stored.engine in (
      last,
      inr (
        ran_from c.args.compiled (compiled_of e) c.args.settings.now empty_core (core_of e) last c.run_opened-ended.result
            (shown (g.S.Source.left c.args.input.now) (g.K.Sink.held c.args.out.now) (g.K.Sink.handed c.args.out.now) (g.E.Sink.held c.args.err.now) (g.C.Chooser.choices c.args.chooser.now)
            (g.W.Watch.told c.args.watch.now))
            (shown (g.S.Source.left c.run_opened-ended.new.input) (g.K.Sink.held c.run_opened-ended.new.out) (g.K.Sink.handed c.run_opened-ended.new.out) (g.E.Sink.held c.run_opened-ended.new.err)
            (g.C.Chooser.choices c.run_opened-ended.new.chooser) (g.W.Watch.told c.run_opened-ended.new.watch))
            c.in-Ok.ensures.runs.compiled_is c.in-Ok.ensures.core c.run_opened-ended.ensures.runs.ran,
        c.run_opened-ended.ensures.handed,
      ),
    )

pub returns-clause-no_disk : goal.returns-clause-no_disk
returns-clause-no_disk g c =
    let e = c.run_opened-ended.new.stored.engine in
    never_failed (rule_of c.args.settings.now) c.run_opened-ended.new.stored.store (source_of e) (core_of e) (fresh_of e) untold (disk_failed c.run_opened-ended.result) c.run_opened-ended.ensures.settings
    c.run_opened-ended.ensures.disk_cause

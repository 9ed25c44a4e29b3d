use Rattle.std.proofs.Common.{subst, sym, refl, arith, Some}
use Rattle.session_store.specs.Vocabulary.{IsStorable}
use Rattle.engine.specs.EngineViews.{core_of, source_of}
use Rattle.store_meaning.specs.Engines.{logged_of}
use Rattle.session_store.proofs.StoreLaws.{keeps_same, all_logged}
use Rattle.session_store.proofs.CycleLaws.{cycle_begun}
use Rattle.batch_run.specs.RunViews.{shown}
use Rattle.stateflow_cli.proofs.ServedRuns.{ran_opened}
use Rattle.stateflow_cli.proofs.serving.run_on.Goals as goal

pub run_opened-ended-requires : goal.run_opened-ended-requires
run_opened-ended-requires g c =
    let e = c.args.opened.engine in
    let st = c.args.opened.store in
    record {
      whole = c.requires.whole;
      serves = c.requires.serves;
      history = c.requires.history;
      few = omega (arith, c.requires.few);
      fits = c.requires.fits;
      storable = subst (IsStorable (core_of e)) (sym c.requires.fresh) c.requires.storable;
      kept = keeps_same (Some st) (source_of e) (source_of e) (core_of e) (logged_of e) (g.D.Disk.facts c.args.disk.now) refl (sym (all_logged e c.requires.fresh)) c.requires.kept;
      in_cycle = cycle_begun st c.requires.since (sym c.requires.first) c.requires.kept.epoch.1;
    }

pub returns-clause-ran : goal.returns-clause-ran
returns-clause-ran g c =
    ran_opened c.args.opened c.run_opened-ended.new.stored.engine _ c.run_opened-ended.ensures.program c.run_opened-ended.result
    (shown (g.S.Source.left c.args.input.now) (g.K.Sink.held c.args.out.now) (g.K.Sink.handed c.args.out.now) (g.E.Sink.held c.args.err.now) (g.C.Chooser.choices c.args.chooser.now) (g.W.Watch.told c.args.watch.now))
    (shown (g.S.Source.left c.run_opened-ended.new.input) (g.K.Sink.held c.run_opened-ended.new.out) (g.K.Sink.handed c.run_opened-ended.new.out) (g.E.Sink.held c.run_opened-ended.new.err) (g.C.Chooser.choices c.run_opened-ended.new.chooser) (g.W.Watch.told c.run_opened-ended.new.watch))
    (g.D.Disk.faults c.args.disk.now) (g.D.Disk.faults c.run_opened-ended.new.disk) (g.D.Disk.facts c.args.disk.now) (g.D.Disk.facts c.run_opened-ended.new.disk) c.args.settings.now c.run_opened-ended.new.stored.store
    c.run_opened-ended.ensures.settings c.run_opened-ended.ensures.runs c.run_opened-ended.ensures.grows c.run_opened-ended.ensures.kept c.run_opened-ended.ensures.in_cycle c.run_opened-ended.ensures.disk_cause
    c.run_opened-ended.ensures.storable c.requires.fresh

use Rattle.std.proofs.Common.{refl, ap, ◌∙◌, subst}
use Rattle.block_step.specs.CompiledViews.{compiled_tables, compiled_blocks}
use Rattle.operator_graph.specs.Turns.{Outside}
use Rattle.engine.specs.EngineViews.{core_of, compiled_of}
use Rattle.batch_session.specs.Vocabulary.{Settings, service_of, settings_of, logged_of}
use Rattle.batch_session.specs.Served.{View, ServedInTurn}
use Rattle.batch_run.specs.RunViews.{rule_of}
use Rattle.batch_run.specs.RunEvents.{Starts}
use Rattle.batch_run.proofs.GraphLaws.{graph_told}
use Rattle.batch_run.proofs.RunLaws.{runs_so}
use Rattle.batch_run.proofs.running.run_opened.Goals as goal

pub returns-clause-runs : goal.returns-clause-runs
returns-clause-runs g c =
    let e = c.args.stored.now.engine in
    let left = g.S.Source.left c.args.input.now in
    let held = g.K.Sink.held c.args.out.now in
    let handed = g.K.Sink.handed c.args.out.now in
    let said = g.E.Sink.held c.args.err.now in
    let before : Outside = record { choices = g.C.Chooser.choices c.args.chooser.now; told = g.W.Watch.told c.args.watch.now } in
    let started : Outside = record { choices = g.C.Chooser.choices c.start.new.self; told = g.W.Watch.told c.graph-2.new.self } in
    let after : Outside = record { choices = g.C.Chooser.choices c.serve.new.chooser; told = g.W.Watch.told c.serve.new.watch } in
    let old : View = record { core = core_of e; left = left; held = held; handed = handed; traced = said; outside = started } in
    let new : View = record {
      core = core_of c.serve.new.engine;
      left = g.S.Source.left c.serve.new.input;
      held = g.K.Sink.held c.serve.new.out;
      handed = g.K.Sink.handed c.serve.new.out;
      traced = g.E.Sink.held c.serve.new.err;
      outside = after;
    } in
    let starts : Starts (compiled_of e) c.args.settings.now before started = record {
      begins = c.start.ensures;
      told =
          graph_told before.told started.told _ _ _ _ (c.graph.ensures.tables ∙ ap compiled_tables c.compiled.ensures)
          (c.graph.ensures.blocks ∙ ap compiled_blocks c.compiled.ensures) c.graph-2.ensures;
    } in
    runs_so (compiled_of e) c.requires.whole c.args.settings.now c.serve.result c.requires.serves.few e (record { compiled_is = refl; limit_is = c.requires.history })
    c.requires.fits c.requires.few c.requires.serves.limit (settings_of c.args.stored.now.store) left held handed said before started new _ _ _ _ c.serve.new.store starts
    (subst (λ (t : Settings). ServedInTurn (service_of e (rule_of c.args.settings.now) t.batch t.parts) t.trace (settings_of c.args.stored.now.store) t.limit c.serve.result old new
    (logged_of e) (logged_of c.serve.new.engine) (g.D.Disk.facts c.args.disk.now) (g.D.Disk.facts c.serve.new.disk) c.serve.new.store) c.session.ensures c.serve.ensures.served)

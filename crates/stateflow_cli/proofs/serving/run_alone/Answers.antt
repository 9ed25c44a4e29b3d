use Rattle.std.proofs.Common.{refl, subst}
use Rattle.sf_outside.specs.DiskModel.{untold}
use Rattle.command_words.specs.Commands.{settings_by}
use Rattle.engine.specs.Cores.{empty_core}
use Rattle.batch_run.specs.RunViews.{shown}
use Rattle.batch_run.specs.Vocabulary.{IsFlushedBy}
use Rattle.batch_run.specs.Runs.{Runs}
use Rattle.batch_run.specs.declared.running.RunSettings.{RunSettings}
use Rattle.stateflow_cli.specs.Devices.{devices, source, sink, outside}
use Rattle.stateflow_cli.specs.Endings.{longest_input}
use Rattle.stateflow_cli.proofs.RunEndings.{can_serve}
use Rattle.stateflow_cli.proofs.ServedRuns.{unnamed, run_alone_ends}
use Rattle.stateflow_cli.proofs.serving.run_alone.Goals as goal

pub run_program-requires : goal.run_program-requires
run_program-requires g c = record { whole = c.in-Ok.ensures.gives.is.whole; serves = can_serve (settings_by c.args.words) c.settings_of.result c.settings_of.ensures c.requires.in_range }

pub returns : goal.returns
returns g c = λ disk.
    run_alone_ends longest_input c.args.file.now (settings_by c.args.words)
    (devices (g.F.Files.content c.args.files.now) (g.F.Files.faults c.args.files.now) (source (g.S.Source.left c.args.input.now) (g.S.Source.faults c.args.input.now)) (sink (g.K.Sink.held c.args.out.now) (g.K.Sink.handed c.args.out.now) (g.K.Sink.faults c.args.out.now))
    (sink (g.E.Sink.held c.args.err.now) (g.E.Sink.handed c.args.err.now) (g.E.Sink.faults c.args.err.now)) (outside (g.C.Chooser.choices c.args.chooser.now) (g.W.Watch.told c.args.watch.now)) disk)
    (devices (g.F.Files.content c.load_compiled.new.files) (g.F.Files.faults c.load_compiled.new.files) (source (g.S.Source.left c.run_program.new.input) (g.S.Source.faults c.run_program.new.input)) (sink (g.K.Sink.held c.run_program.new.out) (g.K.Sink.handed c.run_program.new.out) (g.K.Sink.faults c.run_program.new.out))
    (sink (g.E.Sink.held c.run_program.new.err) (g.E.Sink.handed c.run_program.new.err) (g.E.Sink.faults c.run_program.new.err)) (outside (g.C.Chooser.choices c.run_program.new.chooser) (g.W.Watch.told c.run_program.new.watch)) disk)
    untold (unnamed c.args.words c.requires.alone) refl c.in-Ok.compiled c.in-Ok.ensures.gives c.run_program.ensures.runs.0 c.run_program.ensures.later_err c.run_program.result
    c.ending_of.result c.ending_of.ensures c.run_program.ensures.read_cause c.run_program.ensures.write_cause c.run_program.ensures.no_disk
    (subst (λ (s : RunSettings). Runs c.in-Ok.compiled s empty_core c.run_program.ensures.runs.0 c.run_program.result
    (shown (g.S.Source.left c.args.input.now) (g.K.Sink.held c.args.out.now) (g.K.Sink.handed c.args.out.now) (g.E.Sink.held c.args.err.now) (g.C.Chooser.choices c.args.chooser.now) (g.W.Watch.told c.args.watch.now))
    (shown (g.S.Source.left c.run_program.new.input) (g.K.Sink.held c.run_program.new.out) (g.K.Sink.handed c.run_program.new.out) (g.E.Sink.held c.run_program.new.err) (g.C.Chooser.choices c.run_program.new.chooser) (g.W.Watch.told c.run_program.new.watch))
    (IsFlushedBy c.run_program.result (g.K.Sink.handed c.run_program.new.out) (g.K.Sink.held c.run_program.new.out) (g.K.Sink.faults c.args.out.now) (g.K.Sink.faults c.run_program.new.out)))
    c.settings_of.ensures c.run_program.ensures.runs.1)

use Rattle.command_words.specs.Commands.{settings_by}
use Rattle.stateflow_cli.specs.Devices.{devices, source, sink, outside, store_disk}
use Rattle.stateflow_cli.specs.Endings.{longest_input}
use Rattle.stateflow_cli.proofs.ServedRuns.{unnamed, named_so, ends_alone}
use Rattle.std.proofs.Common.{refl}
use Rattle.stateflow_cli.proofs.serving.run_file.Goals as goal

pub returns-in-None-clause-ends : goal.returns-in-None-clause-ends
returns-in-None-clause-ends g c =
    let disk = store_disk (g.D.Disk.found c.args.disk.now) (g.D.Disk.faults c.args.disk.now) (g.D.Disk.mounts c.args.disk.now) in
    ends_alone longest_input c.args.file.now (settings_by c.args.words)
    (devices (g.F.Files.content c.args.files.now) (g.F.Files.faults c.args.files.now) (source (g.S.Source.left c.args.input.now) (g.S.Source.faults c.args.input.now)) (sink (g.K.Sink.held c.args.out.now) (g.K.Sink.handed c.args.out.now) (g.K.Sink.faults c.args.out.now))
    (sink (g.E.Sink.held c.args.err.now) (g.E.Sink.handed c.args.err.now) (g.E.Sink.faults c.args.err.now)) (outside (g.C.Chooser.choices c.args.chooser.now) (g.W.Watch.told c.args.watch.now)) disk)
    (devices (g.F.Files.content c.run_alone.new.files) (g.F.Files.faults c.run_alone.new.files) (source (g.S.Source.left c.run_alone.new.input) (g.S.Source.faults c.run_alone.new.input)) (sink (g.K.Sink.held c.run_alone.new.out) (g.K.Sink.handed c.run_alone.new.out) (g.K.Sink.faults c.run_alone.new.out))
    (sink (g.E.Sink.held c.run_alone.new.err) (g.E.Sink.handed c.run_alone.new.err) (g.E.Sink.faults c.run_alone.new.err)) (outside (g.C.Chooser.choices c.run_alone.new.chooser) (g.W.Watch.told c.run_alone.new.watch)) disk)
    (g.D.Disk.facts c.args.disk.now) (unnamed c.args.words c.in-None.is) refl c.run_alone.result (c.run_alone.ensures disk)

pub run_alone-requires-clause-alone : goal.run_alone-requires-clause-alone
run_alone-requires-clause-alone g c = c.in-None.is

pub run_stored-requires-clause-named : goal.run_stored-requires-clause-named
run_stored-requires-clause-named g c = named_so c.args.words c.in-Some.name c.in-Some.is

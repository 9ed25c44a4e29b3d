use Rattle.std.proofs.Common.{refl}
use Rattle.stateflow_cli.specs.Devices.{source, sink, outside, store_disk}
use Rattle.stateflow_cli.proofs.top_call.perform.Goals as goal

pub returns-in-Check-clause-ends : goal.returns-in-Check-clause-ends
returns-in-Check-clause-ends g c = rw c.in-Check.is (c.check_file.ensures
    (source (g.S.Source.left c.args.input.now) (g.S.Source.faults c.args.input.now)) (sink (g.E.Sink.held c.args.err.now) (g.E.Sink.handed c.args.err.now) (g.E.Sink.faults c.args.err.now)) (outside (g.C.Chooser.choices c.args.chooser.now) (g.W.Watch.told c.args.watch.now)) (store_disk (g.D.Disk.found c.args.disk.now) (g.D.Disk.faults c.args.disk.now) (g.D.Disk.mounts c.args.disk.now)))

pub returns-in-Compile-clause-ends : goal.returns-in-Compile-clause-ends
returns-in-Compile-clause-ends g c = rw c.in-Compile.is (c.compile_file.ensures
    (source (g.S.Source.left c.args.input.now) (g.S.Source.faults c.args.input.now)) (sink (g.E.Sink.held c.args.err.now) (g.E.Sink.handed c.args.err.now) (g.E.Sink.faults c.args.err.now)) (g.C.Chooser.choices c.args.chooser.now) (store_disk (g.D.Disk.found c.args.disk.now) (g.D.Disk.faults c.args.disk.now) (g.D.Disk.mounts c.args.disk.now)))

pub returns-in-Local-clause-ends : goal.returns-in-Local-clause-ends
returns-in-Local-clause-ends g c = rw c.in-Local.is (c.interpret_file.ensures
    (sink (g.E.Sink.held c.args.err.now) (g.E.Sink.handed c.args.err.now) (g.E.Sink.faults c.args.err.now)) (outside (g.C.Chooser.choices c.args.chooser.now) (g.W.Watch.told c.args.watch.now)) (store_disk (g.D.Disk.found c.args.disk.now) (g.D.Disk.faults c.args.disk.now) (g.D.Disk.mounts c.args.disk.now)))

pub returns-in-Gen-clause-ends : goal.returns-in-Gen-clause-ends
returns-in-Gen-clause-ends g c = rw c.in-Gen.is (c.serve_generated.ensures (g.F.Files.content c.args.files.now) (g.F.Files.faults c.args.files.now)
    (source (g.S.Source.left c.args.input.now) (g.S.Source.faults c.args.input.now)) (sink (g.E.Sink.held c.args.err.now) (g.E.Sink.handed c.args.err.now) (g.E.Sink.faults c.args.err.now)) (store_disk (g.D.Disk.found c.args.disk.now) (g.D.Disk.faults c.args.disk.now) (g.D.Disk.mounts c.args.disk.now)))

pub returns-in-Check-clause-aside : goal.returns-in-Check-clause-aside
returns-in-Check-clause-aside g c = rw c.in-Check.is refl

pub returns-in-Compile-clause-aside : goal.returns-in-Compile-clause-aside
returns-in-Compile-clause-aside g c = rw c.in-Compile.is refl

pub returns-in-Local-clause-aside : goal.returns-in-Local-clause-aside
returns-in-Local-clause-aside g c = rw c.in-Local.is tt

pub returns-in-Run-clause-aside : goal.returns-in-Run-clause-aside
returns-in-Run-clause-aside g c = rw c.in-Run.is tt

pub returns-in-Gen-clause-aside : goal.returns-in-Gen-clause-aside
returns-in-Gen-clause-aside g c = rw c.in-Gen.is tt

pub returns-in-Export-clause-ends : goal.returns-in-Export-clause-ends
returns-in-Export-clause-ends g c = rw c.in-Export.is (c.export_file.ensures
    (source (g.S.Source.left c.args.input.now) (g.S.Source.faults c.args.input.now)) (sink (g.E.Sink.held c.args.err.now) (g.E.Sink.handed c.args.err.now) (g.E.Sink.faults c.args.err.now)) (outside (g.C.Chooser.choices c.args.chooser.now) (g.W.Watch.told c.args.watch.now)))

pub returns-in-Export-clause-aside : goal.returns-in-Export-clause-aside
returns-in-Export-clause-aside g c = rw c.in-Export.is tt

pub returns-in-Audit-clause-ends : goal.returns-in-Audit-clause-ends
returns-in-Audit-clause-ends g c = rw c.in-Audit.is (c.audit_file.ensures
    (source (g.S.Source.left c.args.input.now) (g.S.Source.faults c.args.input.now)) (sink (g.E.Sink.held c.args.err.now) (g.E.Sink.handed c.args.err.now) (g.E.Sink.faults c.args.err.now)) (outside (g.C.Chooser.choices c.args.chooser.now) (g.W.Watch.told c.args.watch.now)) (store_disk (g.D.Disk.found c.args.disk.now) (g.D.Disk.faults c.args.disk.now) (g.D.Disk.mounts c.args.disk.now)))

pub returns-in-Audit-clause-aside : goal.returns-in-Audit-clause-aside
returns-in-Audit-clause-aside g c = rw c.in-Audit.is tt

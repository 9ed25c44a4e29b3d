use Rattle.std.proofs.Common.{◌≤◌, subst, sym}
use Rattle.operator_graph.specs.Partitions.{IsParts}
use Rattle.command_words.specs.Commands.{work_by}
use Rattle.generated_run.specs.declared.running.GenSettings.{GenSettings}
use Rattle.stateflow_cli.specs.Devices.{sink, outside}
use Rattle.stateflow_cli.proofs.GenEndings.{work_given_up, work_printed, work_printed_in_part}
use Rattle.stateflow_cli.proofs.generating.serve_generated.Goals as goal

pub run_generated-requires : goal.run_generated-requires
run_generated-requires g c =
    let same = sym c.work_of.ensures in
    record {
      size = subst (λ (x : GenSettings). x.size ≤ 100000) same c.requires.size;
      some = subst (λ (x : GenSettings). 1 ≤ x.batch) same c.requires.some;
      batch = subst (λ (x : GenSettings). x.batch ≤ 256) same c.requires.few;
      parts = subst (λ (x : GenSettings). IsParts x.parts) same c.requires.partitions;
    }

pub returns-in-Err : goal.returns-in-Err
returns-in-Err g c = λ content file_faults input err disk.
    work_given_up (work_by c.args.words) c.work_of.result c.work_of.ensures content file_faults input err disk
    (outside (g.C.Chooser.choices c.args.chooser.now) (g.W.Watch.told c.args.watch.now))
    (outside (g.C.Chooser.choices c.run_generated.new.chooser) (g.W.Watch.told c.run_generated.new.watch))
    (sink (g.K.Sink.held c.args.out.now) (g.K.Sink.handed c.args.out.now) (g.K.Sink.faults c.args.out.now)) c.in-Err.ensures

pub returns-in-Ok-print_summary : goal.returns-in-Ok-print_summary
returns-in-Ok-print_summary g c = λ content file_faults input err disk.
    work_printed (work_by c.args.words) c.work_of.result c.work_of.ensures content file_faults input err disk
    (outside (g.C.Chooser.choices c.args.chooser.now) (g.W.Watch.told c.args.watch.now))
    (outside (g.C.Chooser.choices c.run_generated.new.chooser) (g.W.Watch.told c.run_generated.new.watch))
    (sink (g.K.Sink.held c.args.out.now) (g.K.Sink.handed c.args.out.now) (g.K.Sink.faults c.args.out.now)) (sink (g.K.Sink.held c.print_summary.new.out) (g.K.Sink.handed c.print_summary.new.out) (g.K.Sink.faults c.print_summary.new.out))
    c.in-Ok.summary c.in-Ok.ensures c.in-Ok-print_summary.ensures.whole

pub returns-in-Err-print_summary : goal.returns-in-Err-print_summary
returns-in-Err-print_summary g c = λ content file_faults input err disk.
    work_printed_in_part (work_by c.args.words) c.work_of.result c.work_of.ensures content file_faults input err disk
    (outside (g.C.Chooser.choices c.args.chooser.now) (g.W.Watch.told c.args.watch.now))
    (outside (g.C.Chooser.choices c.run_generated.new.chooser) (g.W.Watch.told c.run_generated.new.watch))
    (sink (g.K.Sink.held c.args.out.now) (g.K.Sink.handed c.args.out.now) (g.K.Sink.faults c.args.out.now)) (sink (g.K.Sink.held c.print_summary.new.out) (g.K.Sink.handed c.print_summary.new.out) (g.K.Sink.faults c.print_summary.new.out))
    c.in-Ok.summary c.in-Ok.ensures c.in-Err-print_summary.ensures.part c.in-Err-print_summary.ensures.cause.failed

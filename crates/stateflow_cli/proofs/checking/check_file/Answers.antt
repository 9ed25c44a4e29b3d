use Rattle.stateflow_cli.specs.CheckLine.{IsCheckLine}
use Rattle.stateflow_cli.specs.Devices.{sink}
use Rattle.stateflow_cli.proofs.PrintLaws.{holds_counted, counted_line, prints, prints_in_part}
use Rattle.stateflow_cli.proofs.checking.check_file.Goals as goal

pub returns-in-Ok-print_counts : goal.returns-in-Ok-print_counts
returns-in-Ok-print_counts g c = λ input err outside disk.
    prints IsCheckLine (g.F.Files.content c.args.files.now) c.args.file.now (holds_counted _ c.in-Ok.counts c.in-Ok.ensures.gives) _ outside outside (counted_line _ c.in-Ok.counts c.in-Ok.ensures.gives outside) _ _ _ input
    (sink (g.K.Sink.held c.args.out.now) (g.K.Sink.handed c.args.out.now) (g.K.Sink.faults c.args.out.now)) (sink (g.K.Sink.held c.print_counts.new.out) (g.K.Sink.handed c.print_counts.new.out) (g.K.Sink.faults c.print_counts.new.out)) err disk c.in-Ok-print_counts.ensures.whole

pub returns-in-Err : goal.returns-in-Err
returns-in-Err g c = λ input err outside disk.
    prints_in_part IsCheckLine (g.F.Files.content c.args.files.now) c.args.file.now (holds_counted _ c.in-Ok.counts c.in-Ok.ensures.gives) _ outside outside (counted_line _ c.in-Ok.counts c.in-Ok.ensures.gives outside) _ _ _ input
    (sink (g.K.Sink.held c.args.out.now) (g.K.Sink.handed c.args.out.now) (g.K.Sink.faults c.args.out.now)) (sink (g.K.Sink.held c.print_counts.new.out) (g.K.Sink.handed c.print_counts.new.out) (g.K.Sink.faults c.print_counts.new.out)) err disk c.in-Err.ensures.part c.in-Err.ensures.cause.failed

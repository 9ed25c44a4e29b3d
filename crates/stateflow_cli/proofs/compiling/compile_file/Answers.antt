use Rattle.std.proofs.Common.{◌∙◌}
use Rattle.block_step.specs.CompiledViews.{compiled_tables, compiled_blocks}
use Rattle.batch_run.proofs.GraphLaws.{graph_told}
use Rattle.stateflow_cli.specs.CompiledText.{IsCompiledText}
use Rattle.stateflow_cli.specs.Devices.{sink, outside}
use Rattle.stateflow_cli.proofs.PrintLaws.{holds_compiled, compiled_is, prints, prints_in_part}
use Rattle.stateflow_cli.proofs.compiling.compile_file.Goals as goal

pub returns-in-Ok-print_text : goal.returns-in-Ok-print_text
returns-in-Ok-print_text g c = λ input err choices disk.
    let told = graph_told _ _ _ (compiled_tables c.in-Ok.compiled) _ (compiled_blocks c.in-Ok.compiled) c.graph.ensures.tables c.graph.ensures.blocks c.tell_graph.ensures in
    prints IsCompiledText (g.F.Files.content c.args.files.now) c.args.file.now (holds_compiled _ c.in-Ok.compiled c.in-Ok.ensures.gives) c.as_bytes.result.now
    (outside choices (g.W.Watch.told c.args.watch.now)) (outside choices (g.W.Watch.told c.tell_graph.new.watch))
    (compiled_is _ c.in-Ok.compiled c.in-Ok.ensures.gives c.in-Ok-text_of.text c.as_bytes.result.now c.in-Ok-text_of.ensures (c.as_bytes.ensures.value ∙ c.as_str.ensures.bytes) choices _ _ told) _ _ _ input
    (sink (g.K.Sink.held c.args.out.now) (g.K.Sink.handed c.args.out.now) (g.K.Sink.faults c.args.out.now)) (sink (g.K.Sink.held c.print_text.new.out) (g.K.Sink.handed c.print_text.new.out) (g.K.Sink.faults c.print_text.new.out)) err disk c.in-Ok-print_text.ensures.whole

pub returns : goal.returns
returns g c = λ input err choices disk.
    let told = graph_told _ _ _ (compiled_tables c.in-Ok.compiled) _ (compiled_blocks c.in-Ok.compiled) c.graph.ensures.tables c.graph.ensures.blocks c.tell_graph.ensures in
    prints_in_part IsCompiledText (g.F.Files.content c.args.files.now) c.args.file.now (holds_compiled _ c.in-Ok.compiled c.in-Ok.ensures.gives) c.as_bytes.result.now
    (outside choices (g.W.Watch.told c.args.watch.now)) (outside choices (g.W.Watch.told c.tell_graph.new.watch))
    (compiled_is _ c.in-Ok.compiled c.in-Ok.ensures.gives c.in-Ok-text_of.text c.as_bytes.result.now c.in-Ok-text_of.ensures (c.as_bytes.ensures.value ∙ c.as_str.ensures.bytes) choices _ _ told) _ _ _ input
    (sink (g.K.Sink.held c.args.out.now) (g.K.Sink.handed c.args.out.now) (g.K.Sink.faults c.args.out.now)) (sink (g.K.Sink.held c.print_text.new.out) (g.K.Sink.handed c.print_text.new.out) (g.K.Sink.faults c.print_text.new.out)) err disk c.in-Err.ensures.part c.in-Err.ensures.cause.failed

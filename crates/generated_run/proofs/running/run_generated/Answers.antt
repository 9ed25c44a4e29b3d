use Rattle.std.proofs.Common.{◌∙◌}
use Rattle.operator_graph.specs.Turns.{Outside}
use Rattle.generated_run.proofs.RunLaws.{of_bank}
use Rattle.generated_run.proofs.running.run_generated.Goals as goal

pub compile_bank-requires : goal.compile_bank-requires
compile_bank-requires g c = c.as_slice.ensures ∙ c.in_ok-work.ensures.program

pub returns : goal.returns
returns g c =
    let old : Outside = record { choices = g.C.Chooser.choices c.args.chooser.now; told = g.W.Watch.told c.args.watch.now } in
    let new : Outside = record { choices = g.C.Chooser.choices c.run_compiled.new.chooser; told = g.W.Watch.told c.run_compiled.new.watch } in
    of_bank c.args.settings.now c.in_ok-compiled.compiled old new c.in_ok-compiled.ensures c.run_compiled.result c.run_compiled.ensures

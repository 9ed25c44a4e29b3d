use Rattle.std.proofs.Common.{ap, ◌∙◌}
use Rattle.std.proofs.lemmas.Result.{err_from_is_err_and}
use Rattle.block_step.specs.CompiledViews.{compiled_tables, compiled_blocks}
use Rattle.operator_graph.specs.Turns.{Outside}
use Rattle.batch_session.proofs.Vocabulary.{empty_storable}
use Rattle.generated_run.specs.Generated.{Starts}
use Rattle.generated_run.proofs.RunLaws.{told_as, came_short, came}
use Rattle.generated_run.proofs.running.run_compiled.Goals as goal

pub serve_work-requires-clause-storable : goal.serve_work-requires-clause-storable
serve_work-requires-clause-storable g c = empty_storable c.in_ok-engine.engine c.in_ok-engine.ensures.core c.in_ok-engine.ensures.fresh

pub returns-in_err-tally : goal.returns-in_err-tally
returns-in_err-tally g c =
    let old : Outside = record { choices = g.C.Chooser.choices c.args.chooser.now; told = g.W.Watch.told c.args.watch.now } in
    let started : Outside = record { choices = g.C.Chooser.choices c.begin.new.chooser; told = g.W.Watch.told c.begin.new.watch } in
    let new : Outside = record { choices = g.C.Chooser.choices c.serve_work.new.chooser; told = g.W.Watch.told c.serve_work.new.watch } in
    let starts : Starts c.args.settings.now c.args.compiled old started = record {
      chooser = c.begin.ensures.chooser;
      graph =
          told_as old.told started.told _ (compiled_tables c.args.compiled) _ (compiled_blocks c.args.compiled)
          (c.graph.ensures.tables ∙ ap compiled_tables (c.compiled.ensures ∙ c.in_ok-engine.ensures.runs.compiled_is))
          (c.graph.ensures.blocks ∙ ap compiled_blocks (c.compiled.ensures ∙ c.in_ok-engine.ensures.runs.compiled_is)) c.begin.ensures.graph;
    } in
    let back = err_from_is_err_and c.from_residual-in_err-tally.result c.from_residual-in_err-tally.ensures.1 in
    rw (back.1)
    (came_short c.args.settings.now c.args.compiled c.in_ok-engine.engine.compiled c.in_ok-engine.ensures.runs.compiled_is c.requires.whole c.requires.size c.requires.batch
    c.args.input.now c.requires.input old started new starts c.in_err-tally.ensures back.0)

pub returns : goal.returns
returns g c =
    let old : Outside = record { choices = g.C.Chooser.choices c.args.chooser.now; told = g.W.Watch.told c.args.watch.now } in
    let started : Outside = record { choices = g.C.Chooser.choices c.begin.new.chooser; told = g.W.Watch.told c.begin.new.watch } in
    let new : Outside = record { choices = g.C.Chooser.choices c.serve_work.new.chooser; told = g.W.Watch.told c.serve_work.new.watch } in
    let starts : Starts c.args.settings.now c.args.compiled old started = record {
      chooser = c.begin.ensures.chooser;
      graph =
          told_as old.told started.told _ (compiled_tables c.args.compiled) _ (compiled_blocks c.args.compiled)
          (c.graph.ensures.tables ∙ ap compiled_tables (c.compiled.ensures ∙ c.in_ok-engine.ensures.runs.compiled_is))
          (c.graph.ensures.blocks ∙ ap compiled_blocks (c.compiled.ensures ∙ c.in_ok-engine.ensures.runs.compiled_is)) c.begin.ensures.graph;
    } in
    came c.args.settings.now c.args.compiled c.in_ok-engine.engine.compiled c.in_ok-engine.ensures.runs.compiled_is c.requires.whole c.requires.size c.requires.batch
    c.args.input.now c.requires.input old started new starts _ c.in_ok-tally.tally c.in_ok-tally.ensures c.summary_of.result c.summary_of.ensures

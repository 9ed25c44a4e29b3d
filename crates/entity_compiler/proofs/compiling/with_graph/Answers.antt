use Rattle.py_tree.specs.CheckedViews.{checked_program, checked_names}
use Rattle.block_code.specs.GraphViews.{graph_blocks}
use Rattle.block_step.specs.CompiledViews.{compiled_program, compiled_names, compiled_blocks}
use Rattle.entity_compiler.proofs.TextsCompiled.{live_so}
use Rattle.entity_compiler.proofs.compiling.with_graph.Goals as goal

pub new-requires : goal.new-requires
new-requires c = c.in-Ok.ensures.whole

pub returns-in-Ok-clause-live : goal.returns-in-Ok-clause-live
returns-in-Ok-clause-live c =
    live_so (checked_names c.args.program) (compiled_names c.new.result) (checked_program c.args.program) (compiled_program c.new.result) (graph_blocks c.in-Ok.graph) (compiled_blocks c.new.result)
    c.new.ensures.names c.new.ensures.program c.new.ensures.blocks c.in-Ok.ensures.live

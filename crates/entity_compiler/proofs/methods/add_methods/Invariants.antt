use Rattle.std.proofs.Common.{◌≡◌, ◌++◌, drop}
use Rattle.block_code.specs.PlainBlocks.{plain_methods}
use Rattle.compiled_graph.specs.CompiledGraph.{methods_compiled}
use Rattle.entity_compiler.specs.Marked.{names_of, classes_of, methods_at, class_blocks}
use Rattle.entity_compiler.proofs.methods.add_methods.Given as goal

-- what is left are the blocks of the other methods
abbrev pub invariant-loop-method : goal.invariant-loop-method
invariant-loop-method l =
    plain_methods l.made ++ methods_compiled (names_of l.marked) (classes_of l.marked) l.marked.calls.now l.class l.method (drop l.method (methods_at l.marked l.class))
    ≡ plain_methods l.fn.made ++ class_blocks l.marked l.class

use Rattle.std.proofs.Common.{◌≡◌, ◌++◌, drop}
use Rattle.block_code.specs.PlainBlocks.{plain_methods}
use Rattle.compiled_graph.specs.CompiledGraph.{classes_compiled}
use Rattle.entity_compiler.specs.Marked.{names_of, classes_of, all_blocks}
use Rattle.entity_compiler.proofs.classes.add_classes.Given as goal

-- what is left are the blocks of the other classes
abbrev pub invariant-loop-class : goal.invariant-loop-class
invariant-loop-class l =
    plain_methods l.made ++ classes_compiled (names_of l.marked) (classes_of l.marked) l.marked.calls.now l.class (drop l.class (classes_of l.marked))
    ≡ plain_methods l.fn.made ++ all_blocks l.marked

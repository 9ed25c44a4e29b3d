-- Blocks that are made of methods don't go back to the block where a method begins.
use Rattle.std.specs.Prelude.{ℕ, Bool, List}
use Rattle.py_tree.specs.PlainProgram.{PlainProgram}
use Rattle.flat_tree.specs.PlainFlat.{PlainFlat}
use Rattle.method_splitter.specs.Split.{split_blocks}
use Rattle.compiled_graph.specs.CompiledGraph.{compiled}
use Rattle.live_laws.specs.Cut.{NeverGoesBack, NoneGoBack}

-- those of a flat method
abbrev pub SplitNeverGoesBack : Type 0
SplitNeverGoesBack = (flat : PlainFlat) → NeverGoesBack (split_blocks flat)

-- those of each method of a program
abbrev pub CompiledNeverGoesBack : Type 0
CompiledNeverGoesBack = (names : List (List ℕ)) (program : PlainProgram) (marks : List (List Bool)) → NoneGoBack (compiled names program marks)

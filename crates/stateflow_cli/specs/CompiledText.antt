-- What `compile` tells and prints of a program that is accepted.
use Rattle.std.specs.Prelude.{ℕ, ◌≡◌, List, [], ◌∷◌}
use Rattle.py_tree.specs.PlainProgram.{PlainProgram}
use Rattle.py_tree.specs.ClassRules.{PlainTable}
use Rattle.block_code.specs.PlainBlocks.{PlainBlock}
use Rattle.block_code.specs.GraphText.{graph_text}
use Rattle.live_laws.specs.Cut.{GraphHasLiveParams}
use Rattle.block_step.specs.Compilation.{IsCompilation}
use Rattle.block_step.specs.CompiledViews.{compiled_names, compiled_tables, compiled_blocks}
use Rattle.block_step.specs.declared.compiled.Compiled.{Compiled}
use Rattle.operator_graph.specs.Telling.{GraphTold, AlsoTold}
use Rattle.operator_graph.specs.Turns.{Outside}

-- the text of a graph of the program, which fits the program and means it, and whose blocks behind the first of a method have as parameters exactly what is
-- live there; that graph, and nothing else, was told to the watch, once, and nothing was chosen
pub record IsCompiledText (names : List (List ℕ)) (program : PlainProgram) (old new : Outside) (text : List ℕ) : Type 0 where
  pub tables : List PlainTable
  pub blocks : List (List PlainBlock)
  pub graph : IsCompilation names program tables blocks
  pub live : GraphHasLiveParams names program blocks
  pub same : text ≡ graph_text names tables blocks
  pub told : AlsoTold old.told new.told (GraphTold tables blocks ∷ [])
  pub unchosen : new.choices ≡ old.choices

-- the text of a compiled program's own graph
abbrev pub compiled_text : Compiled → List ℕ
compiled_text c = graph_text (compiled_names c) (compiled_tables c) (compiled_blocks c)

-- What a text is compiled to: an accepted program with its compiled graph, or the text's first fault.
use Rattle.std.specs.Prelude.{◌≡◌, ℕ, Bool, List, Some, slice_get, Result, Ok, Err, ⊤}
use Rattle.py_tree.specs.PlainProgram.{PlainProgram}
use Rattle.py_tree.specs.ClassRules.{PlainTable}
use Rattle.call_graph.specs.Marks.{IsGraph}
use Rattle.program_meaning.specs.NothingGoesWrong.{IsKnownAccepted}
use Rattle.block_code.specs.PlainBlocks.{PlainBlock}
use Rattle.block_step.specs.Compilation.{IsCompilation}
use Rattle.block_step.specs.CompiledViews.{compiled_program, compiled_names, compiled_blocks, IsWhole}
use Rattle.block_step.specs.declared.compiled.Compiled.{Compiled}
use Rattle.compiled_graph.specs.CompiledGraph.{compiled}
use Rattle.live_laws.specs.Cut.{AreCut, GraphHasLiveParams}
use Rattle.live_vars.specs.Saved.{LiveAreParams}
use Rattle.program_text.specs.declared.fault.ProgramError.{ProgramError}
use Rattle.program_text.specs.declared.fault.ProgramError.TheVariants.{Fault, NoMemory}
use Rattle.program_text.specs.Readings.{IsAcceptedText, HasFault}

-- blocks are those that are compiled of a program with the marks of exactly the methods that may suspend, but that each behind the first of its method
-- takes as parameters what is live there, and nothing else
pub record AreCompiled (names : List (List ℕ)) (program : PlainProgram) (blocks : List (List PlainBlock)) : Type 0 where
  pub marks : List (List Bool)
  pub exact : IsGraph names program marks
  pub cut : AreCut (compiled names program marks) blocks

-- before they are cut, what is live at a block is a parameter of it
abbrev pub CompiledTakeLive : Type 0
CompiledTakeLive =
    (names : List (List ℕ)) (program : PlainProgram) (marks : List (List Bool)) → IsKnownAccepted names program → IsGraph names program marks
    → (place : ℕ) (blocks : List PlainBlock) → slice_get (compiled names program marks) place ≡ Some blocks → LiveAreParams blocks

-- a graph that is made of a program has its compiled blocks, whose parameters are what is live there, fits the program and means it
pub record IsGraphOf (names : List (List ℕ)) (program : PlainProgram) (tables : List PlainTable) (graph : List (List PlainBlock)) : Type 0 where
  pub blocks : AreCompiled names program graph
  pub live : GraphHasLiveParams names program graph
  pub whole : IsCompilation names program tables graph

-- a compiled program has the tree and the names of an accepted text, and a graph that fits it and means it, whose blocks take what is live there
pub record IsCompiledOf (text : List ℕ) (c : Compiled) : Type 0 where
  pub is_accepted : IsAcceptedText text (compiled_program c) (compiled_names c)
  pub live : GraphHasLiveParams (compiled_names c) (compiled_program c) (compiled_blocks c)
  pub whole : IsWhole c

-- the text is accepted and compiled, or has the fault that is told; want of memory is free
abbrev pub Compiles : List ℕ → Result Compiled ProgramError → Type 0
Compiles text (Ok c) = IsCompiledOf text c
Compiles text (Err (Fault f)) = HasFault text f
Compiles text (Err NoMemory) = ⊤

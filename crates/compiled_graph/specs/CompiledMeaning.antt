-- Where the blocks of a program stand, which methods are one block, and that blocks fit their program and mean it where it is accepted and its flat code
-- keeps the rules.
use Rattle.std.specs.Prelude.{◌≡◌, ℕ, Bool, false, List, length}
use Rattle.py_tree.specs.PlainProgram.{PlainMethod, PlainProgram}
use Rattle.py_tree.specs.ClassRules.{tables_of}
use Rattle.call_graph.specs.Marks.{IsGraph, is_marked}
use Rattle.program_meaning.specs.NothingGoesWrong.{IsKnownAccepted}
use Rattle.block_code.specs.Places.{blocks_of}
use Rattle.block_code.specs.GraphFits.{method_count, GraphFits}
use Rattle.request_events.specs.GraphMeans.{MethodsMean, GraphMeans}
use Rattle.compiled_graph.specs.CompiledGraph.{method_blocks, compiled}
use Rattle.compiled_graph.specs.CodeKeepsRules.{OfEachMethod, NamesItsCallees, CodeKeepsRules}

module _ (names : List (List ℕ)) (program : PlainProgram) (marks : List (List Bool)) where
  -- where a graph has the blocks of a method, the compiled one has those of its flat method
  abbrev pub HasItsBlocks : (class number : ℕ) → PlainMethod → Type 0
  HasItsBlocks class number m = blocks_of (tables_of names program) (compiled names program marks) class number ≡ method_blocks names program marks class number m

  -- there are the blocks of as many methods as the class tables have
  pub record BlocksStand : Type 0 where
    pub as_many : length (compiled names program marks) ≡ method_count (tables_of names program)
    pub each : OfEachMethod names program HasItsBlocks

abbrev pub CompiledBlocksStand : Type 0
CompiledBlocksStand = (names : List (List ℕ)) (program : PlainProgram) (marks : List (List Bool)) → BlocksStand names program marks

-- where the marks are exact, a method that may not suspend is one block
abbrev pub QuietIsOneBlock : Type 0
QuietIsOneBlock =
    (names : List (List ℕ)) (program : PlainProgram) (marks : List (List Bool)) → IsKnownAccepted names program → IsGraph names program marks
    → OfEachMethod names program (λ class number m. is_marked marks class number ≡ false → length (method_blocks names program marks class number m) ≡ 1)

-- the blocks of each method come to what its body does, whatever the marks
abbrev pub CompiledMethodsMean : Type 0
CompiledMethodsMean =
    (names : List (List ℕ)) (program : PlainProgram) (marks : List (List Bool)) → IsKnownAccepted names program → OfEachMethod names program (NamesItsCallees names program marks)
    → MethodsMean names program (compiled names program marks)

-- where the marks are exact and the flat code keeps the rules, the compiled graph fits the program
abbrev pub CompiledFits : Type 0
CompiledFits =
    (names : List (List ℕ)) (program : PlainProgram) (marks : List (List Bool)) → IsKnownAccepted names program → IsGraph names program marks → CodeKeepsRules names program marks
    → GraphFits names program (compiled names program marks)

-- and means it
abbrev pub CompiledMeans : Type 0
CompiledMeans =
    (names : List (List ℕ)) (program : PlainProgram) (marks : List (List Bool)) → IsKnownAccepted names program → IsGraph names program marks → CodeKeepsRules names program marks
    → GraphMeans names program (compiled names program marks)

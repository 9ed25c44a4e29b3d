-- Callees of the flat code of a program, and classes of which it creates entities: they are there, and have their names.
use Rattle.std.specs.Prelude.{ℕ, Bool, List}
use Rattle.py_tree.specs.PlainProgram.{PlainMethod, PlainProgram}
use Rattle.py_tree.specs.ClassRules.{tables_of}
use Rattle.program_meaning.specs.NothingGoesWrong.{IsKnownAccepted}
use Rattle.flat_tree.specs.PlainFlat.{flat_stmts_of}
use Rattle.method_splitter.specs.Callees.{CalleesAreThere}
use Rattle.compiled_graph.specs.CompiledGraph.{flat_method}
use Rattle.compiled_graph.specs.CodeKeepsRules.{OfEachMethod, NamesItsCallees}

module _ (names : List (List ℕ)) (program : PlainProgram) (marks : List (List Bool)) where
  -- the class tables have the callees of a method, and the classes of which it creates entities
  abbrev pub HasItsCallees : (class number : ℕ) → PlainMethod → Type 0
  HasItsCallees class number m = CalleesAreThere (tables_of names program) (flat_stmts_of (flat_method names program marks class number m).body)

-- in an accepted program, whichever methods are marked, they have the numbers of their names and are there
abbrev pub CalleesStand : Type 0
CalleesStand =
    (names : List (List ℕ)) (program : PlainProgram) (marks : List (List Bool)) → IsKnownAccepted names program
    → OfEachMethod names program (NamesItsCallees names program marks) × OfEachMethod names program (HasItsCallees names program marks)

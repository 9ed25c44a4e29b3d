-- When the flat code of a program keeps the rules.
use Rattle.std.specs.Prelude.{◌≡◌, ◌≤◌, ℕ, Bool, List, ◌++◌, map, length, Some, slice_get}
use Rattle.std.specs.List.{All}
use Rattle.py_tree.specs.PlainProgram.{PlainMethod, PlainProgram}
use Rattle.py_tree.specs.ClassRules.{methods_of}
use Rattle.py_tree.specs.Acceptance.{members_at}
use Rattle.call_graph.specs.SuspendingCode.{leaving}
use Rattle.block_code.specs.PlainVars.{PlainVar}
use Rattle.block_code.specs.GraphFits.{var_of}
use Rattle.flat_tree.specs.PlainFlat.{flat_stmts_of}
use Rattle.method_splitter.specs.Callees.{CalleesAreNamed}
use Rattle.flat_types.specs.SplitFits.{FlatFits}
use Rattle.quiet_methods.specs.MarksKeepWithin.{source}
use Rattle.compiled_graph.specs.CompiledGraph.{context_of, start_locals, flat_method}

module _ (names : List (List ℕ)) (program : PlainProgram) where
  -- so it is for each method, by the number of its class and its own
  abbrev pub OfEachMethod : (ℕ → ℕ → PlainMethod → Type 0) → Type 0
  OfEachMethod P = (class number : ℕ) (m : PlainMethod) → slice_get (methods_of names (members_at program class)) number ≡ Some m → P class number m

  module _ (marks : List (List Bool)) where
    -- callees, and classes of which entities are created, have the numbers of their names
    abbrev pub NamesItsCallees : (class number : ℕ) → PlainMethod → Type 0
    NamesItsCallees class number m = CalleesAreNamed (source names program) (flat_stmts_of (flat_method names program marks class number m).body)

    -- the flat method keeps the rules on types, where its variables are the method's locals and these
    abbrev pub FitsWith : List PlainVar → (class number : ℕ) → PlainMethod → Type 0
    FitsWith temporaries class number m =
        FlatFits (context_of names program class number) (leaving names program marks class) (map var_of (start_locals names program class number m) ++ temporaries)
        (flat_method names program marks class number m)

    -- it keeps them with temporaries, whose numbers stand behind those of the names
    pub record HasTypes (class number : ℕ) (m : PlainMethod) : Type 0 where
      pub temporaries : List PlainVar
      pub are_temporaries : All (λ (v : PlainVar). length names ≤ v.name) temporaries
      pub fits : FitsWith temporaries class number m

    pub record CodeKeepsRules : Type 0 where
      pub callees : OfEachMethod NamesItsCallees
      pub types : OfEachMethod HasTypes

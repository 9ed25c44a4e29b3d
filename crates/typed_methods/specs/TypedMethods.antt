-- Flat methods that keep the rules on types.
--
-- The variables of a flat method are the locals that the rules find in the method, and the temporaries that are made where calls come out of
-- its statements, numbered one after another behind the names.
use Rattle.std.specs.Prelude.{◌≡◌, ℕ, Bool, true, List, [], ◌++◌, map, length}
use Rattle.py_tree.specs.PlainProgram.{PlainMethod, PlainProgram}
use Rattle.py_tree.specs.PlainStatements.{stmts_of}
use Rattle.py_tree.specs.FlowEnvironment.{PlainLocal}
use Rattle.py_tree.specs.Flow.{Context}
use Rattle.call_graph.specs.SuspendingCode.{Leaving, leaving}
use Rattle.program_meaning.specs.NothingGoesWrong.{IsKnownAccepted}
use Rattle.block_code.specs.PlainVars.{PlainVar}
use Rattle.block_code.specs.GraphFits.{var_of, each_once}
use Rattle.flat_tree.specs.PlainFlat.{PlainFlat, flat_stmts_of}
use Rattle.method_splitter.specs.Callees.{CalleesAreThere}
use Rattle.method_splitter.specs.Points.{PointsPassInAll}
use Rattle.flat_types.specs.FlatTypes.{is_point, Nowhere, Behind, stmts_fit}
use Rattle.flat_types.specs.DeadCode.{HaveNoDead}
use Rattle.flat_types.specs.SplitFits.{EndsWithNone}
use Rattle.hoisting.specs.HoistStatements.{flat_all}
use Rattle.typed_hoisting.specs.TypedHoisting.{Numbered}
use Rattle.compiled_graph.specs.CompiledGraph.{context_of, start_locals, flat_method}
use Rattle.compiled_graph.specs.CodeKeepsRules.{OfEachMethod, HasTypes}

-- with these locals and temporaries
abbrev pub variables_of : List PlainLocal → List PlainVar → List PlainVar
variables_of locals made = map var_of locals ++ made

-- the temporaries of a whole flat method, from one number up to another, each of one type; with them and these locals its code keeps the rules
-- from its parameters on, outside all loops, and each of its points names variables
pub record KeepsTypes (c : Context) (leaves : Leaving) (first next : ℕ) (locals : List PlainLocal) (flat : PlainFlat) : Type 0 where
  pub made : List PlainVar
  pub numbered : Numbered first made next
  pub once : each_once (variables_of locals made) ≡ true
  pub params : is_point (variables_of locals made) flat.params ≡ true
  pub types :
      Behind (variables_of locals made) flat.params
      (stmts_fit c leaves (variables_of locals made) [] Nowhere Nowhere (flat_stmts_of flat.body) (EndsWithNone c))
  pub points : PointsPassInAll (is_point (variables_of locals made)) (flat_stmts_of flat.body)

module _ (names : List (List ℕ)) (program : PlainProgram) (marks : List (List Bool)) (class number : ℕ) (m : PlainMethod) where
  -- the number behind those of the temporaries
  abbrev pub behind_temporaries : ℕ
  behind_temporaries =
      (flat_all (leaving names program marks class) (context_of names program class number) (stmts_of m.body)
      (record { locals = start_locals names program class number m; next = length names })).next

  abbrev pub MethodKeepsTypes : Type 0
  MethodKeepsTypes =
      KeepsTypes (context_of names program class number) (leaving names program marks class) (length names) behind_temporaries
      (start_locals names program class number m) (flat_method names program marks class number m)

-- each method of an accepted program keeps them, whichever calls the marks say suspend
abbrev pub MethodsKeepTypes : Type 0
MethodsKeepTypes =
    (names : List (List ℕ)) (program : PlainProgram) (marks : List (List Bool)) → IsKnownAccepted names program
    → OfEachMethod names program (MethodKeepsTypes names program marks)

-- so where each part of its flat code can be reached, and the callees in it are there, it fits as a method of a graph does
abbrev pub MethodsHaveTypes : Type 0
MethodsHaveTypes =
    (names : List (List ℕ)) (program : PlainProgram) (marks : List (List Bool)) → IsKnownAccepted names program
    → OfEachMethod names program (λ class number m.
    HaveNoDead (flat_stmts_of (flat_method names program marks class number m).body)
    → CalleesAreThere (context_of names program class number).tables (flat_stmts_of (flat_method names program marks class number m).body)
    → HasTypes names program marks class number m)

-- A method as a flat method, and that this means the method.
use Rattle.std.specs.Prelude.{◌≡◌, ℕ, Bool, ◌≤◌, true, false, List}
use Rattle.std.specs.declared.option.Option.{Option}
use Rattle.py_tree.specs.Bounded.{StmtsNames}
use Rattle.py_tree.specs.ClassRules.{is_self, body_of, params_of}
use Rattle.py_tree.specs.FlowEnvironment.{PlainLocal}
use Rattle.py_tree.specs.Flow.{Context}
use Rattle.py_tree.specs.PlainExpressions.{PlainExpr}
use Rattle.py_tree.specs.PlainStatements.{stmts_of}
use Rattle.py_tree.specs.PlainProgram.{PlainMethod, PlainProgram}
use Rattle.call_graph.specs.SuspendingCode.{Leaving, leaving}
use Rattle.sf_value.specs.Keys.{Key}
use Rattle.sf_value.specs.Weight.{weight_of}
use Rattle.sf_value.specs.declared.value.Value.{Value}
use Rattle.program_meaning.specs.ClassTables.{Source}
use Rattle.program_meaning.specs.World.{World}
use Rattle.program_meaning.specs.Evaluation.{entity}
use Rattle.program_meaning.specs.Calls.{run_body, calls_at, in_state}
use Rattle.flat_tree.specs.PlainFlat.{PlainFlatStmt, flat_stmts_of}
use Rattle.flat_tree.specs.FlatMeaning.{run_flat}
use Rattle.flat_tree.specs.Flatness.{AreFlat}
use Rattle.hoisting.specs.HoistStatements.{flat_all}

-- the body of a method as flat code: its locals are known so where it begins, and its temporaries have the numbers from this one on
abbrev pub flat_body : Leaving → Context → List PlainLocal → ℕ → Option PlainMethod → List PlainFlatStmt
flat_body leaves c locals count method = (flat_all leaves c (stmts_of (body_of method)) (record { locals = locals; next = count })).code

-- The flat method means the method, whichever calls are said to suspend: whatever the state, the arguments, the steps and the calls that
-- may be open, both give the same, and leave the same reads, writes and steps.
abbrev pub FlatMethodsMean : Type 0
FlatMethodsMean = (leaves : Leaving) (c : Context) (locals : List PlainLocal) (count : ℕ) (src : Source) (method : Option PlainMethod) → StmtsNames count (stmts_of (body_of method))
    → (at : Key) → weight_of (entity at) ≤ 65536 → (d : ℕ) (args : List Value) (w : World) (n : ℕ)
    → run_flat (in_state src (calls_at src d) at) (params_of method) (flat_body leaves c locals count method) args w n ≡ run_body (in_state src (calls_at src d) at) method args w n

-- and it is flat, where a call that stays is on `self`
abbrev pub FlatMethodsAreFlat : Type 0
FlatMethodsAreFlat = (leaves : Leaving) → ((on : PlainExpr) (name : ℕ) → leaves on name ≡ false → is_self on ≡ true) → (c : Context) (locals : List PlainLocal) (count : ℕ) (method : Option PlainMethod) → AreFlat leaves (flat_stmts_of (flat_body leaves c locals count method))

-- as it is by the marks of a program
abbrev pub FlatByMarks : Type 0
FlatByMarks = (names : List (List ℕ)) (program : PlainProgram) (graph : List (List Bool)) (class : ℕ) (c : Context) (locals : List PlainLocal) (count : ℕ) (method : Option PlainMethod)
    → AreFlat (leaving names program graph class) (flat_stmts_of (flat_body (leaving names program graph class) c locals count method))

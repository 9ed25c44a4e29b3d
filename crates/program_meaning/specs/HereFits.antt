-- Nothing goes wrong in code that runs on one record and doesn't suspend.
use Rattle.std.specs.Prelude.{◌≡◌, ℕ, Bool, false, List, Some, Ok}
use Rattle.std.specs.declared.option.Option.{Option}
use Rattle.py_tree.specs.PlainTypes.{PlainTy}
use Rattle.py_tree.specs.PlainExpressions.{PlainExpr}
use Rattle.py_tree.specs.PlainStatements.{PlainStmts}
use Rattle.py_tree.specs.PlainProgram.{PlainProgram}
use Rattle.py_tree.specs.ClassRules.{PlainTable, tables_of}
use Rattle.py_tree.specs.FlowEnvironment.{PlainLocal}
use Rattle.py_tree.specs.ExpressionTypes.{type_of}
use Rattle.py_tree.specs.Bounded.{EachOfStmts, RaisesFailure}
use Rattle.py_tree.specs.Flow.{Way, flow_all}
use Rattle.call_graph.specs.SuspendingCode.{Leaving, expr_suspends, stmts_suspend}
use Rattle.sf_value.specs.Keys.{Key}
use Rattle.program_meaning.specs.declared.vars.Var.{Var}
use Rattle.program_meaning.specs.Evaluation.{eval}
use Rattle.program_meaning.specs.Execution.{act_all}
use Rattle.program_meaning.specs.Calls.{Held, on_record}
use Rattle.program_meaning.specs.Fits.{Fits, RecordFits}
use Rattle.program_meaning.specs.PointFits.{VarsFit, GivesFit, OneType, EndsFit}
use Rattle.program_meaning.specs.NothingGoesWrong.{IsKnownAccepted}
use Rattle.program_meaning.specs.HereInState.{KeepsWithin}

-- a record fits its class
abbrev pub HeldFits : List PlainTable → ℕ → Held → Type 0
HeldFits tables class h = RecordFits tables class h.fields

-- an expression that has a type gives on one record a value that fits it, or a failure that fits, and leaves a record that fits
abbrev pub ExpressionsHereFit : Type 0
ExpressionsHereFit = (names : List (List ℕ)) (program : PlainProgram) → IsKnownAccepted names program → (me : Key) (leaves : Leaving) → KeepsWithin (record { program = program; names = names }) me.0 leaves
    → (d : ℕ) (method : Option ℕ) (locals : List PlainLocal) (wanted : Option PlainTy) (e : PlainExpr) (ty : PlainTy) (vars : List Var) (h : Held) (n : ℕ) → expr_suspends leaves e ≡ false
    → type_of (tables_of names program) (record { class = me.0; method = method; locals = locals }) wanted e ≡ Ok ty → VarsFit (tables_of names program) vars locals → HeldFits (tables_of names program) me.0 h
    → GivesFit (HeldFits (tables_of names program) me.0) (Fits (tables_of names program) ty) (eval (on_record (record { program = program; names = names }) me d) e vars h n)

-- and statements that break no rule come to what fits the way behind them
abbrev pub StatementsHereFit : Type 0
StatementsHereFit = (names : List (List ℕ)) (program : PlainProgram) → IsKnownAccepted names program → (me : Key) (leaves : Leaving) → KeepsWithin (record { program = program; names = names }) me.0 leaves
    → (d : ℕ) (method : ℕ) (in_loop : Bool) (xs : PlainStmts) (before after : Way) (vars : List Var) (h : Held) (n : ℕ) → stmts_suspend leaves xs ≡ false
    → flow_all (record { tables = tables_of names program; class = me.0; method = Some method; in_loop = in_loop }) before xs ≡ Ok after → EachOfStmts RaisesFailure xs
    → OneType before.locals → VarsFit (tables_of names program) vars before.locals → HeldFits (tables_of names program) me.0 h
    → EndsFit (tables_of names program) (HeldFits (tables_of names program) me.0) (record { tables = tables_of names program; class = me.0; method = Some method; in_loop = in_loop }) xs before after
    (act_all (on_record (record { program = program; names = names }) me d) xs vars h n)

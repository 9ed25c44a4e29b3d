-- Nothing goes wrong: what an accepted program meets fits the types that its rules found.
use Rattle.std.specs.Prelude.{◌≡◌, ℕ, Bool, false, List, [], ◌∷◌, ◌++◌, None, Some, Ok, map as over}
use Rattle.std.specs.FinMap as map
use Rattle.std.specs.declared.option.Option.{Option}
use Rattle.py_tree.specs.declared.names.Place.{Place}
use Rattle.py_tree.specs.declared.names.PlacedName.{PlacedName}
use Rattle.py_tree.specs.declared.stmt.Target.TheVariants.{Field}
use Rattle.py_tree.specs.PlainTypes.{PlainTy, TBool, TStr, PlainWritten, type_of as type_written}
use Rattle.py_tree.specs.PlainExpressions.{PlainExpr}
use Rattle.py_tree.specs.PlainStatements.{PlainStmt, PAssert, PAssign, PlainStmts}
use Rattle.py_tree.specs.PlainProgram.{PlainProgram}
use Rattle.py_tree.specs.ClassRules.{PlainField, PlainTable, acts, body_of, fields_of, field_names, params_of, tables_of}
use Rattle.py_tree.specs.FlowEnvironment.{PlainLocal}
use Rattle.py_tree.specs.ExpressionTypes.{type_of}
use Rattle.py_tree.specs.Bounded.{EachOfStmts, RaisesFailure}
use Rattle.py_tree.specs.Flow.{Way, flow_all}
use Rattle.py_tree.specs.Bounded.{IsBounded}
use Rattle.py_tree.specs.Acceptance.{KeepsRules}
use Rattle.py_tree.specs.NameTable.{IsTable}
use Rattle.py_tree.specs.declared.checked.Checked.{Checked}
use Rattle.py_tree.specs.CheckedViews.{checked_program, checked_names}
use Rattle.sf_value.specs.Keys.{Key}
use Rattle.sf_value.specs.declared.value.Value.{Value}
use Rattle.sf_value.specs.declared.Act.{Act}
use Rattle.program_meaning.specs.declared.vars.Var.{Var}
use Rattle.program_meaning.specs.ClassTables.{Source, init_of}
use Rattle.program_meaning.specs.World.{State, World, Calls, Gives, Got, Fell}
use Rattle.program_meaning.specs.Evaluation.{eval}
use Rattle.program_meaning.specs.Execution.{act_all}
use Rattle.program_meaning.specs.Calls.{bound, making, declare_all, in_state, calls_at, made_record}
use Rattle.program_meaning.specs.RequestRun.{run}
use Rattle.program_meaning.specs.Serial.{no_state, serial_state}
use Rattle.program_meaning.specs.Fits.{HasTable, Fits, EachFits, RecordFits, StateFits, NewFits, ActFits, FailureFits, OutcomeFits}
use Rattle.program_meaning.specs.PointFits.{VarsFit, GivesFit, CallsFit, Since, OneType, EndsFit}

-- what whoever holds an accepted program knows of it: that it keeps every rule, that it is bounded, and that its names are a table
pub record IsKnownAccepted (names : List (List ℕ)) (program : PlainProgram) : Type 0 where
  pub bounded : ∥ IsBounded names program ∥₁
  pub rules : KeepsRules names program
  pub table : IsTable names

-- the state without entities fits
abbrev pub FirstFits : Type 0
FirstFits = (names : List (List ℕ)) (program : PlainProgram) → StateFits (tables_of names program) map.empty

-- a run on a state and a request that fit leaves a state that fits, and comes to what fits the request
abbrev pub RunsFit : Type 0
RunsFit = (names : List (List ℕ)) (program : PlainProgram) → IsKnownAccepted names program → (s : State) (asked : Act) → StateFits (tables_of names program) s → ActFits (tables_of names program) asked
    → StateFits (tables_of names program) (run (record { program = program; names = names }) s asked).state × OutcomeFits (tables_of names program) asked (run (record { program = program; names = names }) s asked).outcome

-- each of these requests fits
pub data ActsFit (tables : List PlainTable) : List Act → Type 0 where
  no_act : ActsFit tables []
  one_act : {asked : Act} {more : List Act} → ActFits tables asked → ActsFit tables more → ActsFit tables (asked ∷ more)

-- after requests that fit have run one after another, from the empty state on, the state fits
abbrev pub HistoriesFit : Type 0
HistoriesFit = (names : List (List ℕ)) (program : PlainProgram) → IsKnownAccepted names program → (acts : List Act) → ActsFit (tables_of names program) acts → StateFits (tables_of names program) (serial_state (record { program = program; names = names }) no_state acts)

-- in a method of an entity that there is, with calls that keep what fits: an expression that has a type gives a value that fits it,
-- or a failure that fits, in a world that fits
abbrev pub ExpressionsFit : Type 0
ExpressionsFit = (names : List (List ℕ)) (program : PlainProgram) → IsKnownAccepted names program → (s : State) (calls : Calls World) → CallsFit (tables_of names program) (Since (tables_of names program) s) calls
    → (me : Key) (fields : List Value) → map.get s me ≡ Some fields → (method : Option ℕ) (locals : List PlainLocal) (wanted : Option PlainTy) (e : PlainExpr) (ty : PlainTy) (vars : List Var) (w : World) (n : ℕ)
    → type_of (tables_of names program) (record { class = me.0; method = method; locals = locals }) wanted e ≡ Ok ty → VarsFit (tables_of names program) vars locals → Since (tables_of names program) s w
    → GivesFit (Since (tables_of names program) s) (Fits (tables_of names program) ty) (eval (in_state (record { program = program; names = names }) calls me) e vars w n)

-- and statements that break no rule come to what fits the way behind them
abbrev pub StatementsFit : Type 0
StatementsFit = (names : List (List ℕ)) (program : PlainProgram) → IsKnownAccepted names program → (s : State) (calls : Calls World) → CallsFit (tables_of names program) (Since (tables_of names program) s) calls
    → (me : Key) (fields : List Value) → map.get s me ≡ Some fields → (method : ℕ) (in_loop : Bool) (xs : PlainStmts) (before after : Way) (vars : List Var) (w : World) (n : ℕ)
    → flow_all (record { tables = tables_of names program; class = me.0; method = Some method; in_loop = in_loop }) before xs ≡ Ok after → EachOfStmts RaisesFailure xs
    → OneType before.locals → VarsFit (tables_of names program) vars before.locals → Since (tables_of names program) s w
    → EndsFit (tables_of names program) (Since (tables_of names program) s) (record { tables = tables_of names program; class = me.0; method = Some method; in_loop = in_loop }) xs before after (act_all (in_state (record { program = program; names = names }) calls me) xs vars w n)

-- so do calls and creations on the state, whatever may still be open
abbrev pub CallsKeepFit : Type 0
CallsKeepFit = (names : List (List ℕ)) (program : PlainProgram) → IsKnownAccepted names program → (s : State) (d : ℕ) → CallsFit (tables_of names program) (Since (tables_of names program) s) (calls_at (record { program = program; names = names }) d)

-- a record that is made fits its class, or its making fails as it may
abbrev pub MakesFit : List PlainTable → ℕ → Gives (List Value) Value → Type 0
MakesFit tables class (Got v fields n) = RecordFits tables class fields
MakesFit tables class (Fell f fields n) = FailureFits f

-- `__init__` makes a record that fits, of arguments that fit
abbrev pub InitsFit : Type 0
InitsFit = (names : List (List ℕ)) (program : PlainProgram) → IsKnownAccepted names program → (at : Key) (args : List Value) (n : ℕ) → NewFits (tables_of names program) at.0 args
    → MakesFit (tables_of names program) at.0 (made_record (record { program = program; names = names }) at args n)

-- the fields that these statements of `__init__` declare have values that fit
abbrev pub DeclaredFit : List PlainTable → List PlainStmt → List Value → Type 0
DeclaredFit tables before fields = EachFits tables (over (λ (f : PlainField). f.ty) (fields_of before)) fields

-- behind the first statements of `__init__`: an expression that has a type, and does no more than to compute with the fields that
-- they declare, gives a value that fits it, or a failure that fits
abbrev pub InitExpressionsFit : Type 0
InitExpressionsFit = (names : List (List ℕ)) (program : PlainProgram) → IsKnownAccepted names program → (at : Key) (table : PlainTable) → HasTable (tables_of names program) at.0 table
    → (before rest : List PlainStmt) → body_of (init_of (record { program = program; names = names }) at.0) ≡ before ++ rest
    → (locals : List PlainLocal) (wanted : Option PlainTy) (e : PlainExpr) (ty : PlainTy) (vars : List Var) (fields : List Value) (n : ℕ)
    → type_of (tables_of names program) (record { class = at.0; method = None; locals = locals }) wanted e ≡ Ok ty → acts program (field_names before) e ≡ false
    → VarsFit (tables_of names program) vars locals → DeclaredFit (tables_of names program) before fields
    → GivesFit (DeclaredFit (tables_of names program) before) (Fits (tables_of names program) ty) (eval (making (record { program = program; names = names }) at) e vars fields n)

-- an expression of `__init__` gives what fits a type, or a failure that fits, wherever the fields declared so far fit
pub record InitGives (tables : List PlainTable) (src : Source) (at : Key) (before : List PlainStmt) (vars : List Var) (ty : PlainTy) (e : PlainExpr) : Type 0 where
  pub gives : (fields : List Value) (n : ℕ) → DeclaredFit tables before fields → GivesFit (DeclaredFit tables before) (Fits tables ty) (eval (making src at) e vars fields n)

-- a message gives a text, where there is one
abbrev pub MessageGives : List PlainTable → Source → Key → List PlainStmt → List Var → Option PlainExpr → Type 0
MessageGives tables src at before vars None = Unit {0}
MessageGives tables src at before vars (Some e) = InitGives tables src at before vars TStr e

-- a statement of `__init__`, behind the ones before it: it declares a field by an expression that gives what fits its type, or it
-- asserts an expression that gives a bool, with a message that gives a text
pub data InitStmtFits (tables : List PlainTable) (src : Source) (at : Key) (before : List PlainStmt) (vars : List Var) : PlainStmt → Type 0 where
  declares : {place : Place} {field : PlacedName} {ty : PlainWritten} {e : PlainExpr} → InitGives tables src at before vars (type_written ty) e
      → InitStmtFits tables src at before vars (PAssign place (Field field) (Some ty) e)
  asserts : {place : Place} {test : PlainExpr} {e : Option PlainExpr} → InitGives tables src at before vars TBool test → MessageGives tables src at before vars e
      → InitStmtFits tables src at before vars (PAssert place test e)

-- wherever `__init__` has come to with arguments that fit, the fields declared so far fit, and so does what the next statement evaluates
abbrev pub InitStatementsFit : Type 0
InitStatementsFit = (names : List (List ℕ)) (program : PlainProgram) → IsKnownAccepted names program → (at : Key) (args : List Value) → NewFits (tables_of names program) at.0 args
    → (before rest : List PlainStmt) (s : PlainStmt) → body_of (init_of (record { program = program; names = names }) at.0) ≡ before ++ s ∷ rest → (v : Value) (fields : List Value) (n left : ℕ)
    → declare_all (record { program = program; names = names }) at before (bound (params_of (init_of (record { program = program; names = names }) at.0)) args) [] n ≡ Got v fields left
    → DeclaredFit (tables_of names program) before fields
    × InitStmtFits (tables_of names program) (record { program = program; names = names }) at before (bound (params_of (init_of (record { program = program; names = names }) at.0)) args) s

-- a program that was checked is known to be accepted
abbrev pub CheckedAreKnown : Type 0
CheckedAreKnown = (c : Checked) → IsKnownAccepted (checked_names c) (checked_program c)

-- Code that doesn't suspend does the same on the whole state and on the record of its entity.
use Rattle.std.specs.Prelude.{◌≡◌, ℕ, true, false, List, Some, slice_get, if◌then◌else◌}
use Rattle.std.specs.FinMap as map
use Rattle.py_tree.specs.PlainExpressions.{PlainExpr}
use Rattle.py_tree.specs.PlainStatements.{PlainStmts, stmts_of}
use Rattle.py_tree.specs.ClassRules.{is_self, body_of}
use Rattle.call_graph.specs.SuspendingCode.{Leaving, expr_suspends, stmts_suspend}
use Rattle.sf_value.specs.Keys.{Key}
use Rattle.sf_value.specs.declared.Failure.{Failure}
use Rattle.sf_value.specs.declared.value.Value.{Value}
use Rattle.program_meaning.specs.declared.vars.Var.{Var}
use Rattle.program_meaning.specs.ClassTables.{Source, methods_of}
use Rattle.program_meaning.specs.World.{World, Gives, Got, Fell, Ends, Goes, Returns, Breaks, Continues, Fails, reading, writing}
use Rattle.program_meaning.specs.Evaluation.{eval, method_of}
use Rattle.program_meaning.specs.Execution.{act_all}
use Rattle.program_meaning.specs.Calls.{Held, in_state, calls_at, on_record}

-- a call that stays is on `self`, and runs a body that doesn't suspend
pub record KeepsWithin (src : Source) (class : ℕ) (leaves : Leaving) : Type 0 where
  pub selves : (on : PlainExpr) (name : ℕ) → leaves on name ≡ false → is_self on ≡ true
  pub bodies : (on : PlainExpr) (name : ℕ) → leaves on name ≡ false → stmts_suspend leaves (stmts_of (body_of (slice_get (methods_of src class) (method_of src class name)))) ≡ false

-- the world after code that began in this one has left this record
abbrev pub left_by : Key → World → Held → World
left_by me start h = if h.wrote then writing start me h.fields else start

-- an entity that is there and was read, where its code runs that began in this world, and its record as that code has it
pub record IsSeen (me : Key) (start w : World) (h : Held) : Type 0 where
  pub left : w ≡ left_by me start h
  pub there : map.get w.state me ≡ Some h.fields
  pub read : reading w me ≡ w

-- one gives on the state what the other gives on the record, with as many steps left
pub data GivesAlike {A : Type 0} (me : Key) (start : World) : Gives World A → Gives Held A → Type 0 where
  got : {x : A} {w : World} {h : Held} {n : ℕ} → IsSeen me start w h → GivesAlike me start (Got x w n) (Got x h n)
  fell : {f : Failure} {w : World} {h : Held} {n : ℕ} → IsSeen me start w h → GivesAlike me start (Fell f w n) (Fell f h n)

pub data EndsAlike (me : Key) (start : World) : Ends World → Ends Held → Type 0 where
  goes : {vars : List Var} {w : World} {h : Held} {n : ℕ} → IsSeen me start w h → EndsAlike me start (Goes vars w n) (Goes vars h n)
  returns : {v : Value} {w : World} {h : Held} {n : ℕ} → IsSeen me start w h → EndsAlike me start (Returns v w n) (Returns v h n)
  breaks : {vars : List Var} {w : World} {h : Held} {n : ℕ} → IsSeen me start w h → EndsAlike me start (Breaks vars w n) (Breaks vars h n)
  continues : {vars : List Var} {w : World} {h : Held} {n : ℕ} → IsSeen me start w h → EndsAlike me start (Continues vars w n) (Continues vars h n)
  fails : {f : Failure} {vars : List Var} {w : World} {h : Held} {n : ℕ} → IsSeen me start w h → EndsAlike me start (Fails f vars w n) (Fails f vars h n)

-- an expression that doesn't suspend gives on the record what it gives on the state
abbrev pub ExpressionsAlike : Type 0
ExpressionsAlike = (src : Source) (me : Key) (leaves : Leaving) → KeepsWithin src me.0 leaves → (d : ℕ) (start w : World) (h : Held) → IsSeen me start w h
    → (e : PlainExpr) → expr_suspends leaves e ≡ false → (vars : List Var) (n : ℕ) → GivesAlike me start (eval (in_state src (calls_at src d) me) e vars w n) (eval (on_record src me d) e vars h n)

-- and statements that don't suspend do on the record what they do on the state
abbrev pub StatementsAlike : Type 0
StatementsAlike = (src : Source) (me : Key) (leaves : Leaving) → KeepsWithin src me.0 leaves → (d : ℕ) (start w : World) (h : Held) → IsSeen me start w h
    → (xs : PlainStmts) → stmts_suspend leaves xs ≡ false → (vars : List Var) (n : ℕ) → EndsAlike me start (act_all (in_state src (calls_at src d) me) xs vars w n) (act_all (on_record src me d) xs vars h n)

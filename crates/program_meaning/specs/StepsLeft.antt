-- Steps never grow, and a loop has turns enough where it has more than there are steps.
use Rattle.std.specs.Prelude.{◌≡◌, ℕ, ◌<◌, ◌≤◌, ℤ, List}
use Rattle.py_tree.specs.PlainExpressions.{PlainExpr}
use Rattle.py_tree.specs.PlainStatements.{PlainStmts}
use Rattle.sf_value.specs.Keys.{Key}
use Rattle.sf_value.specs.declared.value.Value.{Value}
use Rattle.program_meaning.specs.declared.vars.Var.{Var}
use Rattle.program_meaning.specs.ClassTables.{Source}
use Rattle.program_meaning.specs.World.{Own, Calls, Gives, Got, Fell, Ends, Goes, Returns, Breaks, Continues, Fails}
use Rattle.program_meaning.specs.Evaluation.{Site, eval}
use Rattle.program_meaning.specs.Execution.{over_numbers, while_turns, act_all}
use Rattle.program_meaning.specs.Calls.{calls_at, calls_within}

-- the steps that are left behind an expression or a call
abbrev pub left_in : {W A : Type 0} → Gives W A → ℕ
left_in (Got x w n) = n
left_in (Fell f w n) = n

-- and behind statements
abbrev pub left_at : {W : Type 0} → Ends W → ℕ
left_at (Goes vars w n) = n
left_at (Returns v w n) = n
left_at (Breaks vars w n) = n
left_at (Continues vars w n) = n
left_at (Fails f vars w n) = n

-- neither a call nor a creation gives steps back
pub record CallsTakeSteps {W : Type 0} (calls : Calls W) : Type 0 where
  pub call : (at : Key) (method : ℕ) (args : List Value) (w : W) (n : ℕ) → left_in (calls.call at method args w n) ≤ n
  pub make : (class : ℕ) (args : List Value) (w : W) (n : ℕ) → left_in (calls.make class args w n) ≤ n

-- then no expression does, and no statement
abbrev pub ExpressionsTakeSteps : Type 0 → Type 0
ExpressionsTakeSteps W = (s : Site W) → CallsTakeSteps s.calls → (e : PlainExpr) (vars : List Var) (w : W) (n : ℕ) → left_in (eval s e vars w n) ≤ n

abbrev pub StatementsTakeSteps : Type 0 → Type 0
StatementsTakeSteps W = (s : Site W) → CallsTakeSteps s.calls → (xs : PlainStmts) (vars : List Var) (w : W) (n : ℕ) → left_at (act_all s xs vars w n) ≤ n

-- the calls of the source are such
abbrev pub SourceTakesSteps : Type 0
SourceTakesSteps = (src : Source) (d : ℕ) → CallsTakeSteps (calls_at src d)

abbrev pub OwnCallsTakeSteps : Type 0 → Type 0
OwnCallsTakeSteps W = (own : Own W) (src : Source) (me : Key) (d : ℕ) → CallsTakeSteps (calls_within own src me d)

-- of how many turns at most a loop is doesn't matter, where they are more than there are steps
abbrev pub TurnsAreEnough : Type 0 → Type 0
TurnsAreEnough W = (s : Site W) → CallsTakeSteps s.calls → (test : PlainExpr) (body : PlainStmts) (most other : ℕ) (vars : List Var) (w : W) (n : ℕ) → n < most → n < other
    → while_turns most (eval s test) (act_all s body) vars w n ≡ while_turns other (eval s test) (act_all s body) vars w n

abbrev pub NumbersAreEnough : Type 0 → Type 0
NumbersAreEnough W = (s : Site W) → CallsTakeSteps s.calls → (name : ℕ) (body : PlainStmts) (most other : ℕ) (from to : ℤ) (vars : List Var) (w : W) (n : ℕ) → n < most → n < other
    → over_numbers most name (act_all s body) from to vars w n ≡ over_numbers other name (act_all s body) from to vars w n

-- Code depends on the locals by their names alone: neither their order nor names that have no value matter.
use Rattle.std.specs.Prelude.{◌≡◌, ℕ, List}
use Rattle.py_tree.specs.PlainExpressions.{PlainExpr}
use Rattle.py_tree.specs.PlainStatements.{PlainStmts}
use Rattle.sf_value.specs.declared.Failure.{Failure}
use Rattle.sf_value.specs.declared.value.Value.{Value}
use Rattle.program_meaning.specs.declared.vars.Var.{Var}
use Rattle.program_meaning.specs.World.{Ends, Goes, Returns, Breaks, Continues, Fails, local_value}
use Rattle.program_meaning.specs.Evaluation.{Site, eval}
use Rattle.program_meaning.specs.Execution.{act_all}

-- each name has the same value in both
abbrev pub AgreeByName : List Var → List Var → Type 0
AgreeByName us vs = (x : ℕ) → local_value us x ≡ local_value vs x

-- statements end alike, but for the order of the locals
pub data EndsAgree {W : Type 0} : Ends W → Ends W → Type 0 where
  go : {us vs : List Var} {w : W} {n : ℕ} → AgreeByName us vs → EndsAgree (Goes us w n) (Goes vs w n)
  return : {v : Value} {w : W} {n : ℕ} → EndsAgree (Returns v w n) (Returns v w n)
  break : {us vs : List Var} {w : W} {n : ℕ} → AgreeByName us vs → EndsAgree (Breaks us w n) (Breaks vs w n)
  continue : {us vs : List Var} {w : W} {n : ℕ} → AgreeByName us vs → EndsAgree (Continues us w n) (Continues vs w n)
  fail : {f : Failure} {us vs : List Var} {w : W} {n : ℕ} → AgreeByName us vs → EndsAgree (Fails f us w n) (Fails f vs w n)

abbrev pub ExpressionsAgree : Type 0 → Type 0
ExpressionsAgree W = (s : Site W) (e : PlainExpr) (us vs : List Var) → AgreeByName us vs → (w : W) (n : ℕ) → eval s e us w n ≡ eval s e vs w n

abbrev pub StatementsAgree : Type 0 → Type 0
StatementsAgree W = (s : Site W) (xs : PlainStmts) (us vs : List Var) → AgreeByName us vs → (w : W) (n : ℕ) → EndsAgree (act_all s xs us w n) (act_all s xs vs w n)

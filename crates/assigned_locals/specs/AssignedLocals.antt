-- Code that breaks no rule reads of its locals those that are surely assigned, and no others: what else a list of locals holds doesn't matter.
use Rattle.std.specs.Prelude.{◌≡◌, ℕ, true, List, [], length, Some, Ok}
use Rattle.std.specs.declared.option.Option.{Option}
use Rattle.py_tree.specs.PlainTypes.{PlainTy, TNil}
use Rattle.py_tree.specs.PlainExpressions.{PlainExpr, PlainExprs}
use Rattle.py_tree.specs.PlainStatements.{PlainStmts}
use Rattle.py_tree.specs.ClassRules.{PlainSigParam}
use Rattle.py_tree.specs.FlowEnvironment.{PlainLocal, local_of}
use Rattle.py_tree.specs.ExpressionTypes.{arguments, count_of}
use Rattle.py_tree.specs.Flow.{Context, Way, env_of, type_at, flow_all}
use Rattle.sf_value.specs.declared.Failure.{Failure}
use Rattle.sf_value.specs.declared.value.Value.{Value}
use Rattle.program_meaning.specs.declared.vars.Var.{Var}
use Rattle.program_meaning.specs.World.{Ends, Goes, Returns, Breaks, Continues, Fails, local_value}
use Rattle.program_meaning.specs.Evaluation.{Site, eval, eval_all}
use Rattle.program_meaning.specs.Execution.{act_all}

-- each local that is surely assigned has the same value in both
abbrev pub AgreeOnAssigned : List PlainLocal → List Var → List Var → Type 0
AgreeOnAssigned locals us vs = (x : ℕ) (l : PlainLocal) → local_of locals x ≡ Some l → l.assigned ≡ true → local_value us x ≡ local_value vs x

-- statements end alike: what was surely assigned before them has the same value in both however they end, and what is so behind them
-- where they go on
pub data EndsAgree (before after : List PlainLocal) {W : Type 0} : Ends W → Ends W → Type 0 where
  go : {us vs : List Var} {w : W} {n : ℕ} → AgreeOnAssigned after us vs → EndsAgree before after (Goes us w n) (Goes vs w n)
  return : {v : Value} {w : W} {n : ℕ} → EndsAgree before after (Returns v w n) (Returns v w n)
  break : {us vs : List Var} {w : W} {n : ℕ} → AgreeOnAssigned before us vs → EndsAgree before after (Breaks us w n) (Breaks vs w n)
  continue : {us vs : List Var} {w : W} {n : ℕ} → AgreeOnAssigned before us vs → EndsAgree before after (Continues us w n) (Continues vs w n)
  fail : {f : Failure} {us vs : List Var} {w : W} {n : ℕ} → AgreeOnAssigned before us vs → EndsAgree before after (Fails f us w n) (Fails f vs w n)

abbrev pub ExpressionsReadAssigned : Type 0 → Type 0
ExpressionsReadAssigned W = (c : Context) (locals : List PlainLocal) (wanted : Option PlainTy) (e : PlainExpr) (ty : PlainTy) → type_at c locals wanted e ≡ Ok ty
    → (s : Site W) (us vs : List Var) → AgreeOnAssigned locals us vs → (w : W) (n : ℕ) → eval s e us w n ≡ eval s e vs w n

-- as many arguments as parameters, each of which fits
abbrev pub ArgumentsReadAssigned : Type 0 → Type 0
ArgumentsReadAssigned W = (c : Context) (locals : List PlainLocal) (args : PlainExprs) (params : List PlainSigParam) → count_of args ≡ length params → arguments c.tables (env_of c locals) args params TNil ≡ Ok TNil
    → (s : Site W) (us vs : List Var) → AgreeOnAssigned locals us vs → (w : W) (n : ℕ) → eval_all s args [] us w n ≡ eval_all s args [] vs w n

abbrev pub StatementsReadAssigned : Type 0 → Type 0
StatementsReadAssigned W = (c : Context) (before after : Way) (xs : PlainStmts) → flow_all c before xs ≡ Ok after
    → (s : Site W) (us vs : List Var) → AgreeOnAssigned before.locals us vs → (w : W) (n : ℕ) → EndsAgree before.locals after.locals (act_all s xs us w n) (act_all s xs vs w n)

-- Steps never grow over the parts of a block.
use Rattle.std.proofs.Common.{ℕ, ◌≤◌, arith, Bool, true, false, List, [], ◌∷◌, ◌++◌, Option, Some, None, if◌then◌else◌, subst}
use Rattle.py_tree.specs.PlainExpressions.{PlainExpr, PlainExprs, PNoExpr, PExpr}
use Rattle.py_tree.specs.PlainStatements.{PlainStmt, PNoStmt, PStmt}
use Rattle.sf_value.specs.declared.value.Value.{Value}
use Rattle.program_meaning.specs.declared.vars.Var.{Var}
use Rattle.program_meaning.specs.World.{Gives, Got, Fell, ◌>>=◌, Ends, with_given}
use Rattle.program_meaning.specs.Evaluation.{Site, eval, eval_all}
use Rattle.program_meaning.specs.Execution.{message, act}
use Rattle.program_meaning.specs.StepsLeft.{left_in, left_at, CallsTakeSteps}
use Rattle.program_meaning.proofs.StepsTaken.{eval_takes, acts_take}
use Rattle.flat_tree.proofs.InTurn.{next_nothing}
use Rattle.method_splitter.proofs.RestsRun.{at_most}

module _ {W : Type 0} where
  pub then_few : {A B : Type 0} (x : Gives W A) (f : A → W → ℕ → Gives W B) (n : ℕ) → left_in x ≤ n → ((y : A) (v : W) (m : ℕ) → left_in (f y v m) ≤ m) → left_in (x >>= f) ≤ n
  then_few (Got y v m) f n few later = at_most (later y v m) few
  then_few (Fell e v m) f n few later = few

  pub given_few : {A : Type 0} (vars : List Var) (x : Gives W A) (f : A → W → ℕ → Ends W) (n : ℕ) → left_in x ≤ n → ((y : A) (v : W) (m : ℕ) → m ≤ n → left_at (f y v m) ≤ m) → left_at (with_given vars x f) ≤ n
  given_few vars (Got y v m) f n few later = at_most (later y v m few) few
  given_few vars (Fell e v m) f n few later = few

  pub either_few : (b : Bool) (x y : Ends W) (n : ℕ) → left_at x ≤ n → left_at y ≤ n → left_at (if b then x else y) ≤ n
  either_few true x y n first second = first
  either_few false x y n first second = second

module _ {W : Type 0} (s : Site W) (calls : CallsTakeSteps s.calls) where
  pub all_few : (xs : PlainExprs) (vs : List Value) (vars : List Var) (w : W) (n : ℕ) → left_in (eval_all s xs vs vars w n) ≤ n
  unfolding eval
  all_few PNoExpr vs vars w n = omega arith
  all_few (PExpr x xs) vs vars w n = then_few (eval s x vars w n) _ n (eval_takes s calls x vars w n) (λ y v m. all_few xs (vs ++ y ∷ []) vars v m)

  pub message_few : (e : Option PlainExpr) (vars : List Var) (w : W) (n : ℕ) → left_in (message s e vars w n) ≤ n
  unfolding message
  message_few None vars w n = omega arith
  message_few (Some e) vars w n = then_few (eval s e vars w n) _ n (eval_takes s calls e vars w n) (λ y v m. omega arith)

  pub act_few : (x : PlainStmt) (vars : List Var) (w : W) (n : ℕ) → left_at (act s x vars w n) ≤ n
  unfolding act
  act_few x vars w n = subst (λ e. left_at e ≤ n) (next_nothing (act s x vars w n)) (acts_take s calls (PStmt x PNoStmt) vars w n)

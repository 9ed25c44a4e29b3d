-- A loop has turns enough where it has more than there are steps: of how many at most it is doesn't matter then.
use Rattle.std.proofs.Common.{◌≡◌, ◌<◌, ◌≤◌, ℕ, zero, suc, arith, ℤ, pos, ◌+ℤ◌, Bool, true, false, Result, Ok, Err, List, if◌then◌else◌, refl}
use Rattle.std.specs.Ordering.{int_cmp, is_lt}
use Rattle.py_tree.specs.PlainExpressions.{PlainExpr}
use Rattle.py_tree.specs.PlainStatements.{PlainStmts}
use Rattle.sf_value.specs.declared.Failure.{Failure}
use Rattle.sf_value.specs.declared.value.Value.{Value}
use Rattle.sf_value.specs.declared.value.Value.TheVariants as value
use Rattle.program_meaning.specs.declared.vars.Var.{Var}
use Rattle.program_meaning.specs.World.{Gives, Got, Fell, told, Ends, Goes, Returns, Breaks, Continues, Fails, with_given, next_turn, assigned}
use Rattle.program_meaning.specs.Operations.{in_range, is_true}
use Rattle.program_meaning.specs.Evaluation.{Site, eval}
use Rattle.program_meaning.specs.Execution.{stepping, counting, over_numbers, while_turns, act_all}
use Rattle.program_meaning.specs.StepsLeft.{left_in, left_at, CallsTakeSteps}
use Rattle.program_meaning.proofs.StepsTaken.{eval_takes, acts_take}

module _ {W : Type 0} where
  -- the turn takes a step, so what is left behind it is less
  turn_alike : (n : ℕ) (e : Ends W) (f g : List Var → W → ℕ → Ends W) → left_at e ≤ n → ((vars : List Var) (w : W) (m : ℕ) → m ≤ n → f vars w m ≡ g vars w m) → next_turn e f ≡ next_turn e g
  turn_alike n (Goes vars w m) f g le same = same vars w m le
  turn_alike n (Returns v w m) f g le same = refl
  turn_alike n (Breaks vars w m) f g le same = refl
  turn_alike n (Continues vars w m) f g le same = same vars w m le
  turn_alike n (Fails c vars w m) f g le same = refl

  stepped_alike : (vars : List Var) (w : W) (n : ℕ) (e : ℕ → Ends W) (f g : List Var → W → ℕ → Ends W) → ((m : ℕ) → left_at (e m) ≤ m) → ((vars : List Var) (w : W) (m : ℕ) → m < n → f vars w m ≡ g vars w m)
      → next_turn (stepping vars w n e) f ≡ next_turn (stepping vars w n e) g
  stepped_alike vars w zero e f g less same = refl
  stepped_alike vars w (suc n) e f g less same = turn_alike n (e n) f g (less n) (λ vars w m le. same vars w m (omega (arith, le)))

  choice_alike : (b : Bool) (x y z : Ends W) → x ≡ y → (if b then x else z) ≡ (if b then y else z)
  choice_alike true x y z same = same
  choice_alike false x y z same = refl

  given_alike : {A : Type 0} (vars : List Var) (n : ℕ) (given : Gives W A) (f g : A → W → ℕ → Ends W) → left_in given ≤ n → ((x : A) (w : W) (m : ℕ) → m ≤ n → f x w m ≡ g x w m) → with_given vars given f ≡ with_given vars given g
  given_alike vars n (Got x w m) f g le same = same x w m le
  given_alike vars n (Fell c w m) f g le same = refl

  told_left : (vars : List Var) (r : Result Value Failure) (w : W) (n : ℕ) (f : Value → W → ℕ → Ends W) → ((v : Value) → left_at (f v w n) ≤ n) → left_at (with_given vars (told r w n) f) ≤ n
  told_left vars (Ok v) w n f less = less v
  told_left vars (Err c) w n f less = omega arith

  module _ (s : Site W) (calls : CallsTakeSteps s.calls) where
    pub whiles_enough : (test : PlainExpr) (body : PlainStmts) (most other : ℕ) (vars : List Var) (w : W) (n : ℕ) → n < most → n < other
        → while_turns most (eval s test) (act_all s body) vars w n ≡ while_turns other (eval s test) (act_all s body) vars w n
    unfolding while_turns
    whiles_enough test body zero other vars w n lt more = absurd (omega (arith, lt))
    whiles_enough test body (suc most) zero vars w n lt more = absurd (omega (arith, more))
    whiles_enough test body (suc most) (suc other) vars w n lt more =
        given_alike vars n (eval s test vars w n) _ _ (eval_takes s calls test vars w n) (λ v w m le.
        choice_alike (is_true v) _ _ (Goes vars w m)
        (stepped_alike vars w m (λ k. act_all s body vars w k) (while_turns most (eval s test) (act_all s body)) (while_turns other (eval s test) (act_all s body)) (λ k. acts_take s calls body vars w k) (λ vars w k less.
        whiles_enough test body most other vars w k (omega (arith, lt, le, less)) (omega (arith, more, le, less)))))

    pub numbers_enough : (name : ℕ) (body : PlainStmts) (most other : ℕ) (from to : ℤ) (vars : List Var) (w : W) (n : ℕ) → n < most → n < other
        → over_numbers most name (act_all s body) from to vars w n ≡ over_numbers other name (act_all s body) from to vars w n
    unfolding over_numbers
    numbers_enough name body zero other from to vars w n lt more = absurd (omega (arith, lt))
    numbers_enough name body (suc most) zero from to vars w n lt more = absurd (omega (arith, more))
    numbers_enough name body (suc most) (suc other) from to vars w n lt more =
        let bound : List Var = assigned vars name (value.Int from) in
        choice_alike (is_lt (int_cmp from to)) _ _ (Goes vars w n)
        (stepped_alike vars w n (λ k. counting from (act_all s body) bound w k) (over_numbers most name (act_all s body) (from +ℤ pos 1) to) (over_numbers other name (act_all s body) (from +ℤ pos 1) to)
        (λ k. told_left bound (in_range (from +ℤ pos 1)) w k (λ v w k. act_all s body bound w k) (λ v. acts_take s calls body bound w k))
        (λ vars w k less. numbers_enough name body most other (from +ℤ pos 1) to vars w k (omega (arith, lt, less)) (omega (arith, more, less))))

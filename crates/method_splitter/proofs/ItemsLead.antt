-- Items before a rest lead to it: assignments, returned values, failures, and statements of the source.
use Rattle.std.proofs.Common.{◌≡◌, ℕ, arith, Bool, true, false, List, [], ◌∷◌, Option, refl, sym, ap, ◌∙◌, subst, true≢false}
use Rattle.py_tree.specs.PlainExpressions.{PlainExpr}
use Rattle.py_tree.specs.PlainStatements.{PlainStmt, PlainStmts, PNoStmt, PStmt}
use Rattle.py_tree.specs.Reachability.{goes_on, breaks}
use Rattle.sf_value.specs.declared.value.Value.{Value}
use Rattle.program_meaning.specs.declared.vars.Var.{Var}
use Rattle.program_meaning.specs.World.{Gives, Got, Fell, Ends, Goes, Returns, Breaks, Continues, Fails, with_given, next}
use Rattle.program_meaning.specs.Evaluation.{Site, eval}
use Rattle.program_meaning.specs.Execution.{message, act, act_all}
use Rattle.program_meaning.specs.StepsLeft.{CallsTakeSteps}
use Rattle.program_meaning.specs.Reached.{IsReached}
use Rattle.program_meaning.proofs.StepsTaken.{eval_takes, acts_take}
use Rattle.program_meaning.proofs.NotReached.{act_reached}
use Rattle.block_code.specs.PlainBlocks.{PlainItem, IMark, ISet, IPut, IGive, IFail, ICode, PlainEnd, PlainBlock}
use Rattle.block_runs.specs.BlockRuns.{run_item, run_items, run_end, behind, run_blocks, recursing}
use Rattle.flat_tree.specs.FlatMeaning.{Way, into_local, into_field}
use Rattle.flat_tree.proofs.InTurn.{next_nothing}
use Rattle.method_splitter.specs.Split.{Rest, Jumps, Holds, leave, front, front_code, coded, Caught, Around}
use Rattle.method_splitter.proofs.LoopsLeft.{StaysInLoop, given_stays}
use Rattle.method_splitter.proofs.RestsRun.{Stops, falls_on, Runs, Leads, leads_nowhere, leads_same, front_leads}
use Rattle.method_splitter.proofs.FewerSteps.{given_few, message_few}

module _ {W : Type 0} (s : Site W) (calls : CallsTakeSteps s.calls) (g : List PlainBlock) where
  pub set_leads : (a : Around) (x : ℕ) (e : PlainExpr) (c : Rest) (vars : List Var) (w : W) (n : ℕ) → Leads s g a (front (ISet x e) c) vars w n (into_local x vars (eval s e vars w n)) c
  unfolding run_item
  set_leads a x e c vars w n =
      front_leads s g a (ISet x e) c vars w n (given_stays vars (eval s e vars w n) _ (λ v w n. tt)) (given_few vars (eval s e vars w n) _ n (eval_takes s calls e vars w n) (λ y v m le. omega arith))

  pub put_leads : (a : Around) (x : ℕ) (e : PlainExpr) (c : Rest) (vars : List Var) (w : W) (n : ℕ) → Leads s g a (front (IPut x e) c) vars w n (into_field s x vars (eval s e vars w n)) c
  unfolding run_item
  put_leads a x e c vars w n =
      front_leads s g a (IPut x e) c vars w n (given_stays vars (eval s e vars w n) _ (λ v w n. tt)) (given_few vars (eval s e vars w n) _ n (eval_takes s calls e vars w n) (λ y v m le. omega arith))

  given_stops : {A : Type 0} (vars : List Var) (x : Gives W A) (f : A → W → ℕ → Ends W) → ((y : A) (v : W) (m : ℕ) → Stops (f y v m)) → Stops (with_given vars x f)
  given_stops vars (Got y v m) f stops = stops y v m
  given_stops vars (Fell e v m) f stops = tt

  pub give_leads : (a : Around) (e : PlainExpr) (c : Rest) (vars : List Var) (w : W) (n : ℕ) → Leads s g a (front (IGive e) leave) vars w n (with_given vars (eval s e vars w n) (λ v w n. Returns v w n)) c
  unfolding run_item
  give_leads a e c vars w n =
      leads_nowhere s g a _ leave c vars w n _ (given_stops vars (eval s e vars w n) _ (λ v w n. tt))
      (front_leads s g a (IGive e) leave vars w n (given_stays vars (eval s e vars w n) _ (λ v w n. tt)) (given_few vars (eval s e vars w n) _ n (eval_takes s calls e vars w n) (λ y v m le. omega arith)))

  pub fail_leads : (a : Around) (kind : ℕ) (e : Option PlainExpr) (c : Rest) (vars : List Var) (w : W) (n : ℕ)
      → Leads s g a (front (IFail kind e) leave) vars w n (with_given vars (message s e vars w n) (λ text w n. Fails (record { kind = kind; message = text }) vars w n)) c
  unfolding run_item
  fail_leads a kind e c vars w n =
      leads_nowhere s g a _ leave c vars w n _ (given_stops vars (message s e vars w n) _ (λ v w n. tt))
      (front_leads s g a (IFail kind e) leave vars w n (given_stays vars (message s e vars w n) _ (λ v w n. tt)) (given_few vars (message s e vars w n) _ n (message_few s calls e vars w n) (λ y v m le. omega arith)))

  -- Statements of the source

  next_in_turn : (e : Ends W) (f h : Way W) → next (next e f) h ≡ next e (λ us v m. next (f us v m) h)
  next_in_turn (Goes us v m) f h = refl
  next_in_turn (Returns y v m) f h = refl
  next_in_turn (Breaks us v m) f h = refl
  next_in_turn (Continues us v m) f h = refl
  next_in_turn (Fails y us v m) f h = refl

  alone_leads : (a : Around) (x : PlainStmt) (c : Rest) (vars : List Var) (w : W) (n : ℕ) → StaysInLoop (act s x vars w n) → Leads s g a (front (ICode (PStmt x PNoStmt)) c) vars w n (act s x vars w n) c
  unfolding run_item act
  alone_leads a x c vars w n stays =
      let same = next_nothing (act s x vars w n) in
      leads_same s g a _ c vars w n _ _ (sym same) (front_leads s g a (ICode (PStmt x PNoStmt)) c vars w n (subst StaysInLoop (sym same) stays) (acts_take s calls (PStmt x PNoStmt) vars w n))

  -- a statement before others behaves as it does alone before code of the others
  merged : (ks : List Caught) (x : PlainStmt) (xs : PlainStmts) (is : List PlainItem) (end : PlainEnd) (rank : ℕ) (vars : List Var) (w : W) (n : ℕ) (r : Gives W Value)
      → Runs s g ks (front (ICode (PStmt x PNoStmt)) (Holds (ICode xs ∷ is) end rank)) vars w n r → Runs s g ks (Holds (ICode (PStmt x xs) ∷ is) end 0) vars w n r
  unfolding run_items run_item act
  merged ks x xs is end rank vars w n r h = record { fuel = h.fuel; by = λ number. ap (λ e. behind (recursing s) e (run_end s (recursing s) number (run_blocks s (recursing s) g h.fuel) (falls_on s g ks h.fuel) end) (falls_on s g ks h.fuel)) same ∙ h.by number }
    where
      same : next (next (act s x vars w n) (λ vars w n. act_all s xs vars w n)) (run_items s is) ≡ next (next (act s x vars w n) (λ vars w n. Goes vars w n)) (λ vars w n. next (act_all s xs vars w n) (run_items s is))
      same = next_in_turn (act s x vars w n) _ _ ∙ sym (next_in_turn (act s x vars w n) _ _)

  code_leads : (a : Around) (x : PlainStmt) (c : Rest) (vars : List Var) (w : W) (n : ℕ) → StaysInLoop (act s x vars w n) → Leads s g a (front_code x c) vars w n (act s x vars w n) c
  code_leads a x (Jumps to) vars w n stays = alone_leads a x _ vars w n stays
  code_leads a x (Holds [] end rank) vars w n stays = alone_leads a x _ vars w n stays
  code_leads a x (Holds (ICode xs ∷ is) end rank) vars w n stays =
      let l = alone_leads a x (Holds (ICode xs ∷ is) end rank) vars w n stays in
      record { by = λ r h. merged a.catches x xs is end rank vars w n r (l.by r h); fewer = l.fewer }
  code_leads a x (Holds (IMark ∷ is) end rank) vars w n stays = alone_leads a x _ vars w n stays
  code_leads a x (Holds (ISet y e ∷ is) end rank) vars w n stays = alone_leads a x _ vars w n stays
  code_leads a x (Holds (IPut y e ∷ is) end rank) vars w n stays = alone_leads a x _ vars w n stays
  code_leads a x (Holds (IGive e ∷ is) end rank) vars w n stays = alone_leads a x _ vars w n stays
  code_leads a x (Holds (IFail kind e ∷ is) end rank) vars w n stays = alone_leads a x _ vars w n stays

  not_reached : (go out : Bool) (e : Ends W) → go ≡ false → IsReached go out e → Stops e
  not_reached go out (Goes us v m) off reached = absurd (true≢false (sym reached ∙ off))
  not_reached go out (Returns y v m) off reached = tt
  not_reached go out (Breaks us v m) off reached = tt
  not_reached go out (Continues us v m) off reached = tt
  not_reached go out (Fails y us v m) off reached = tt

  pub coded_leads : (b : Bool) (a : Around) (x : PlainStmt) (c : Rest) (vars : List Var) (w : W) (n : ℕ) → goes_on x ≡ b → StaysInLoop (act s x vars w n) → Leads s g a (coded b x c) vars w n (act s x vars w n) c
  coded_leads true a x c vars w n on stays = code_leads a x c vars w n stays
  coded_leads false a x c vars w n off stays = leads_nowhere s g a _ leave c vars w n _ (not_reached (goes_on x) (breaks x) _ off (act_reached s x vars w n)) (code_leads a x leave vars w n stays)

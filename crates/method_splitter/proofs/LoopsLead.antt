-- Loops lead on behind them: the head's test, a turn, which takes its step where its body begins, and the head again.
use Rattle.std.proofs.Common.{◌≡◌, ℕ, zero, suc, ◌+◌, ◌<◌, arith, Bool, true, false, List, ◌++◌, length, refl, sym, subst, true≢false}
use Rattle.py_tree.specs.PlainExpressions.{PBool}
use Rattle.program_meaning.specs.declared.vars.Var.{Var}
use Rattle.program_meaning.specs.World.{Ends, Goes, Returns, Breaks, Continues, Fails, next, next_turn}
use Rattle.program_meaning.specs.Evaluation.{Site, eval}
use Rattle.program_meaning.specs.Execution.{stepping}
use Rattle.program_meaning.specs.StepsLeft.{CallsTakeSteps}
use Rattle.block_code.specs.PlainBlocks.{IMark, PlainBlock}
use Rattle.block_runs.specs.BlockRuns.{behind}
use Rattle.flat_tree.specs.PlainFlat.{Point, FNoStmt, FStmt, PlainFlatTest, FLeaf, FNot, FAnd, FOr}
use Rattle.flat_tree.specs.FlatMeaning.{Way, loop_turns, decide}
use Rattle.method_splitter.specs.Split.{Target, Rest, Jumps, rank_of, rank_in, front, Numbered, lodge, Around, inside, looped, endless, loop_code, always, split_test}
use Rattle.method_splitter.proofs.RestsRun.{StandAt, stand_first, stand_behind, at_most, IsFree, AroundFree, inside_free, Leads, WayLeads, AsGood, leads_good, leads_same, mark_leads, jump_leads, lodge_good}

module _ {W : Type 0} (s : Site W) (calls : CallsTakeSteps s.calls) (g : List PlainBlock) where
  -- what is shown of code, and of tests
  abbrev pub CodeLeads : (Around → Rest → Numbered Rest) → Way W → Type 0
  CodeLeads code f = (a : Around) → AroundFree a → (c : Rest) (at : ℕ) → StandAt g at (code a c at).made → (vars : List Var) (w : W) (n : ℕ) → Leads s g a (code a c at).got vars w n (f vars w n) c

  abbrev pub TestLeads : (Around → Target → Target → Numbered Rest) → (Way W → Way W → Way W) → Type 0
  TestLeads code test =
      (a : Around) → AroundFree a → (holds fails : Target) (at : ℕ) → StandAt g at (code a holds fails at).made → (c : Rest) (y o : Way W) (n : ℕ) → WayLeads s g a (Jumps holds) c y n → WayLeads s g a (Jumps fails) c o n
      → (vars : List Var) (w : W) → Leads s g a (code a holds fails at).got vars w n (test y o vars w n) c

  turn_leads : (a : Around) (b behind : Rest) (again : Target) (vars : List Var) (w : W) (n : ℕ) (e : Ends W) (f : Way W) → Leads s g (inside a behind again) b vars w n e (Jumps again) → WayLeads s g a (Jumps again) behind f n
      → Leads s g a b vars w n (next_turn e f) behind
  turn_leads a b behind again vars w n (Goes us v m) f l next = let k = next us v m l.fewer in record { by = λ r h. l.by r (k.by r h); fewer = at_most k.fewer l.fewer }
  turn_leads a b behind again vars w n (Returns y v m) f l next = record { by = λ r h. l.by r h; fewer = l.fewer }
  turn_leads a b behind again vars w n (Breaks us v m) f l next = record { by = λ r h. l.by r h; fewer = l.fewer }
  turn_leads a b behind again vars w n (Continues us v m) f l next = let k = next us v m l.fewer in record { by = λ r h. l.by r (k.by r h); fewer = at_most k.fewer l.fewer }
  turn_leads a b behind again vars w n (Fails y us v m) f l next = record { by = λ r h. l.by r h; fewer = l.fewer }

  abbrev LaterLeads : Around → Rest → Rest → Way W → ℕ → Type 0
  LaterLeads a r c f n = (us : List Var) (v : W) (m : ℕ) → m < n → Leads s g a r us v m (f us v m) c

  -- a turn takes its step where its body begins
  step_leads : (a : Around) (b behind : Rest) (again : Target) (body f : Way W) → ((us : List Var) (v : W) (m : ℕ) → Leads s g (inside a behind again) b us v m (body us v m) (Jumps again))
      → (vars : List Var) (w : W) (n : ℕ) → LaterLeads a (Jumps again) behind f n → Leads s g a (front IMark b) vars w n (next_turn (stepping vars w n (λ n. body vars w n)) f) behind
  step_leads a b behind again body f l vars w zero next = record { by = λ r h. (mark_leads s g a b vars w zero).by r h; fewer = omega arith }
  step_leads a b behind again body f l vars w (suc n) next =
      let k = turn_leads a b behind again vars w n (body vars w n) f (l vars w n) (λ us v m le. next us v m (omega (arith, le))) in
      let few = k.fewer in
      record { by = λ r h. (mark_leads s g a b vars w (suc n)).by r (k.by r h); fewer = omega (arith, few) }

  loop_leads : (a : Around) (again start : Target) (c : Rest) (test : Way W → Way W → Way W) (body : Way W)
      → ((y : Way W) (n : ℕ) → WayLeads s g a (Jumps start) c y n → (us : List Var) (v : W) → Leads s g a (Jumps again) us v n (test y (λ us v m. Goes us v m) us v n) c)
      → ((f : Way W) (us : List Var) (v : W) (n : ℕ) → LaterLeads a (Jumps again) c f n → Leads s g a (Jumps start) us v n (next_turn (stepping us v n (λ n. body us v n)) f) c)
      → (most : ℕ) (vars : List Var) (w : W) (n : ℕ) → n < most → Leads s g a (Jumps again) vars w n (loop_turns most test body vars w n) c
  unfolding loop_turns
  loop_leads a again start c test body tests turns zero vars w n less = absurd (omega (arith, less))
  loop_leads a again start c test body tests turns (suc most) vars w n less =
      tests (λ us v m. next_turn (stepping us v m (λ n. body us v n)) (loop_turns most test body)) n
      (λ us v m le. turns (loop_turns most test body) us v m (λ us v k fewer. loop_leads a again start c test body tests turns most us v k (omega (arith, less, le, fewer)))) vars w

  looped_leads : (head start : Point) (behind : Rest) (fails : Target) (test : Around → Target → Target → Numbered Rest) (code : Around → Rest → Numbered Rest) (decides : Way W → Way W → Way W) (body : Way W) → TestLeads test decides → CodeLeads code body
      → (a : Around) → AroundFree a → IsFree behind → (at : ℕ) → AsGood s g a.catches behind (Jumps fails) → StandAt g at (looped a head start (λ holds. test a holds fails) (λ again. code (inside a behind again) (Jumps again)) at).made
      → (vars : List Var) (w : W) (n : ℕ) → Leads s g a (looped a head start (λ holds. test a holds fails) (λ again. code (inside a behind again) (Jumps again)) at).got vars w n (loop_turns (suc n) decides body vars w n) behind
  looped_leads head start behind fails test code decides body tests bodies a free out at good stand vars w n =
      let first : Target = record { number = at + 1; rank = rank_in a 0 } in
      let two : at + 1 + 1 ≡ at + 2 = omega arith in
      let t = test a first fails (at + 2) in
      let again : Target = record { number = at; rank = rank_in a (rank_of t.got) } in
      let b = code (inside a behind again) (Jumps again) (at + 2 + length t.made) in
      let rest = subst (λ k. StandAt g k (t.made ++ b.made)) two stand.1.1 in
      loop_leads a again first behind decides body
      (λ y n holds us v. jump_leads s g a head again t.got behind us v n _ stand.0 (tests a free first fails (at + 2) (stand_first g (at + 2) t.made _ rest) behind y (λ us v m. Goes us v m) n holds (λ us v m le. leads_good s g a (Jumps fails) behind us v m good) us v))
      (λ f us v n next. jump_leads s g a start first (front IMark b.got) behind us v n _ stand.1.0
      (step_leads a b.got behind again body f (λ us v m. bodies (inside a behind again) (inside_free a behind again out) (Jumps again) (at + 2 + length t.made) (stand_behind g (at + 2) t.made _ rest) us v m) us v n next))
      (suc n) vars w n (omega arith)

  endless_leads : (head : Point) (behind : Rest) (code : Around → Rest → Numbered Rest) (decides : Way W → Way W → Way W) (body : Way W) → ((y o : Way W) (us : List Var) (v : W) (m : ℕ) → decides y o us v m ≡ y us v m) → CodeLeads code body
      → (a : Around) → IsFree behind → (at : ℕ) → StandAt g at (endless a head (λ again. code (inside a behind again) (Jumps again)) at).made
      → (vars : List Var) (w : W) (n : ℕ) → Leads s g a (endless a head (λ again. code (inside a behind again) (Jumps again)) at).got vars w n (loop_turns (suc n) decides body vars w n) behind
  endless_leads head behind code decides body holds bodies a out at stand vars w n =
      let again : Target = record { number = at; rank = rank_in a 0 } in
      let b = code (inside a behind again) (Jumps again) (at + 1) in
      loop_leads a again again behind decides body
      (λ y n first us v. leads_same s g a _ behind us v n _ _ (holds y (λ us v m. Goes us v m) us v n) (first us v n (omega arith)))
      (λ f us v n next. jump_leads s g a head again (front IMark b.got) behind us v n _ stand.0
      (step_leads a b.got behind again body f (λ us v m. bodies (inside a behind again) (inside_free a behind again out) (Jumps again) (at + 1) stand.1 us v m) us v n next))
      (suc n) vars w n (omega arith)

  always_holds : (test : PlainFlatTest) → always test ≡ true → (y o : Way W) (us : List Var) (v : W) (m : ℕ) → decide s test y o us v m ≡ y us v m
  unfolding decide eval
  always_holds (FLeaf FNoStmt (PBool at true)) is y o us v m = refl
  always_holds (FLeaf FNoStmt _) is y o us v m = absurd (true≢false (sym is))
  always_holds (FLeaf (FStmt x xs) e) is y o us v m = absurd (true≢false (sym is))
  always_holds (FNot test) is y o us v m = absurd (true≢false (sym is))
  always_holds (FAnd operands) is y o us v m = absurd (true≢false (sym is))
  always_holds (FOr operands) is y o us v m = absurd (true≢false (sym is))

  pub while_leads : (b : Bool) (head start : Point) (test : PlainFlatTest) (code : Around → Rest → Numbered Rest) (body : Way W) → always test ≡ b → TestLeads (λ a holds fails at. split_test test a holds fails at) (decide s test) → CodeLeads code body
      → (a : Around) → AroundFree a → (behind : Rest) → IsFree behind → (at : ℕ)
      → StandAt g at (loop_code a b head start behind (λ holds fails. split_test test a holds fails) (λ again. code (inside a behind again) (Jumps again)) at).made
      → (vars : List Var) (w : W) (n : ℕ)
      → Leads s g a (loop_code a b head start behind (λ holds fails. split_test test a holds fails) (λ again. code (inside a behind again) (Jumps again)) at).got vars w n (loop_turns (suc n) (decide s test) body vars w n) behind
  while_leads true head start test code body is tests bodies a free behind out at stand vars w n = endless_leads head behind code (decide s test) body (always_holds test is) bodies a out at stand vars w n
  while_leads false head start test code body is tests bodies a free behind out at stand vars w n =
      let fails = lodge a head behind at in
      looped_leads head start behind fails.got (λ a holds fails at. split_test test a holds fails at) code (decide s test) body tests bodies a free out (at + length fails.made)
      (lodge_good s g a head behind at (stand_first g at fails.made _ stand)) (stand_behind g at fails.made _ stand) vars w n

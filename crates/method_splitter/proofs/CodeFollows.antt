-- The blocks of flat code do what it does, for all that calls may do.
use Rattle.std.proofs.Common.{◌≡◌, ℕ, ◌+◌, ◌++◌, arith, Bool, true, false, List, [], length, if◌then◌else◌, refl, sym, subst, true≢false}
use Rattle.py_tree.specs.Reachability.{goes_on}
use Rattle.call_graph.specs.SuspendingCode.{Leaving}
use Rattle.sf_value.specs.declared.Failure.{Failure}
use Rattle.sf_value.specs.declared.value.Value.{Value}
use Rattle.program_meaning.specs.declared.vars.Var.{Var}
use Rattle.program_meaning.specs.World.{Gives, Got, Fell, Returns, Fails, with_given, next}
use Rattle.program_meaning.specs.Evaluation.{Site, eval}
use Rattle.program_meaning.specs.Execution.{message}
use Rattle.program_meaning.specs.StepsLeft.{CallsTakeSteps}
use Rattle.block_code.specs.PlainBlocks.{ECall, EMake, PlainBlock}
use Rattle.block_runs.specs.BlockRuns.{behind}
use Rattle.flat_tree.specs.PlainFlat.{PlainFlatStmt, FMark, FSet, FPut, FGive, FFail, FCode, FBreak, FContinue, FCall, FMake, FIf, FWhile, FTry, PlainFlatStmts, FNoStmt, FStmt, FArm, PlainFlatArms, FNoArm, FMoreArms, FClause, PlainFlatClauses, FNoClause, FMoreClauses, PlainFlatTest, FLeaf, FNot, FAnd, FOr, FOperand, PlainOperands, FNoOperand, FMoreOperands}
use Rattle.flat_tree.specs.FlatMeaning.{Way, call_gives, creation_gives, into_local, run_stmt, run_stmts, run_arms, run_clauses, decide, decide_each}
use Rattle.flat_tree.specs.Flatness.{IsFlat, AreFlat, AreFlatArms, AreFlatClauses, IsFlatTest, AreFlatOperands}
use Rattle.method_splitter.specs.Callees.{Each, EachInAll, EachInArms, EachInClauses, EachInTest, EachInOperands, CalleeIsNamed, CreatedIsNamed}
use Rattle.method_splitter.specs.Split.{Rest, Holds, branch, Numbered, ◌and_then◌, lodge, homed, joined, outlet, Around, guarded, always, stops, split, split_all, split_arms, split_clauses, split_test, split_each}
use Rattle.method_splitter.proofs.LoopsLeft.{act_stays}
use Rattle.method_splitter.proofs.RestsRun.{StandAt, stand_first, stand_behind, at_most, AroundFree, outlet_free, guarded_free, Leads, leads_itself, leads_next, leads_on, leads_same, mark_leads, jump_leads, lodge_leads, lodge_good, joined_good}
use Rattle.method_splitter.proofs.ItemsLead.{set_leads, put_leads, give_leads, fail_leads, coded_leads}
use Rattle.method_splitter.proofs.EndsLead.{branch_leads, call_leads, make_leads}
use Rattle.method_splitter.proofs.LoopsLead.{CodeLeads, TestLeads, while_leads}
use Rattle.method_splitter.proofs.TriesLead.{closed_leads, ClausesLead, nobody_leads, clause_leads, caught_leads}

module _ {W : Type 0} (s : Site W) (calls : CallsTakeSteps s.calls) (g : List PlainBlock) where
  -- Behind a statement that stops

  stops_next : (x : PlainFlatStmt) → stops x ≡ true → (f : Way W) (vars : List Var) (w : W) (n : ℕ) → next (run_stmt s x vars w n) f ≡ run_stmt s x vars w n
  unfolding run_stmt
  stops_next (FGive e) is f vars w n = by (eval s e vars w n)
    where
      by : (x : Gives W Value) → next (with_given vars x (λ v w n. Returns v w n)) f ≡ with_given vars x (λ v w n. Returns v w n)
      by (Got x v m) = refl
      by (Fell e v m) = refl
  stops_next (FFail kind e) is f vars w n = by (message s e vars w n)
    where
      by : (x : Gives W (List ℕ)) → next (with_given vars x (λ text w n. Fails (record { kind = kind; message = text }) vars w n)) f ≡ with_given vars x (λ text w n. Fails (record { kind = kind; message = text }) vars w n)
      by (Got x v m) = refl
      by (Fell e v m) = refl
  stops_next FBreak is f vars w n = refl
  stops_next FContinue is f vars w n = refl
  stops_next _ is f vars w n = absurd (true≢false (sym is))

  -- a statement and those behind it
  in_turn_leads : (b : Bool) (x : PlainFlatStmt) (later : Around → Rest → Numbered Rest) (f : Way W) → stops x ≡ b → CodeLeads s calls g (λ a c at. split x a c at) (run_stmt s x) → CodeLeads s calls g later f
      → CodeLeads s calls g (λ a c at. (if b then split x a c else (later a c and_then λ rest. split x a rest)) at) (λ vars w n. next (run_stmt s x vars w n) f)
  in_turn_leads true x later f is here behind a free c at stand vars w n = leads_same s g a _ c vars w n _ _ (stops_next x is f vars w n) (here a free c at stand vars w n)
  in_turn_leads false x later f is here behind a free c at stand vars w n =
      let rest = later a c at in
      leads_next s g a _ rest.got c vars w n (run_stmt s x vars w n) f (here a free rest.got (at + length rest.made) (stand_behind g at rest.made _ stand) vars w n)
      (λ us v m le. behind a free c at (stand_first g at rest.made _ stand) us v m)

  -- All code

  module _ (leaves : Leaving) where
    mutual
      unfolding run_stmt split IsFlat Each

      stmt_leads : (x : PlainFlatStmt) → IsFlat leaves x → Each (CalleeIsNamed s.src) (CreatedIsNamed s.src) x → CodeLeads s calls g (λ a c at. split x a c at) (run_stmt s x)
      stmt_leads FMark flat named a free c at stand vars w n = mark_leads s g a c vars w n
      stmt_leads (FSet x e) flat named a free c at stand vars w n = set_leads s calls g a x e c vars w n
      stmt_leads (FPut x e) flat named a free c at stand vars w n = put_leads s calls g a x e c vars w n
      stmt_leads (FGive e) flat named a free c at stand vars w n = give_leads s calls g a e c vars w n
      stmt_leads (FFail kind e) flat named a free c at stand vars w n = fail_leads s calls g a kind e c vars w n
      stmt_leads (FCode x) flat named a free c at stand vars w n = coded_leads s calls g (goes_on x) a x c vars w n refl (act_stays s x flat.1 vars w n)
      stmt_leads FBreak flat named a free c at stand vars w n = record { by = λ r h. h; fewer = omega arith }
      stmt_leads FContinue flat named a free c at stand vars w n = record { by = λ r h. h; fewer = omega arith }
      stmt_leads (FCall on callee args into after) flat named a free c at stand vars w n =
          let to = lodge a after c at in
          subst (λ name. Leads s g a (Holds [] (ECall on callee.class callee.method args into to.got.number) 0) vars w n (into_local into vars (call_gives s on name args vars w n)) c) named
          (call_leads s calls g a on callee.class callee.method args into to.got c vars w n (lodge_good s g a after c at (stand_first g at to.made [] stand)))
      stmt_leads (FMake class args into after) flat named a free c at stand vars w n =
          let to = lodge a after c at in
          subst (λ number. Leads s g a (Holds [] (EMake number args into to.got.number) 0) vars w n (into_local into vars (creation_gives s class.name.0 args vars w n)) c) named
          (make_leads s calls g a class.name.0 args into to.got c vars w n (lodge_good s g a after c at (stand_first g at to.made [] stand)))
      stmt_leads (FIf arms other after) flat named a free c at stand vars w n =
          let join = joined a after c at in
          let at2 = at + length join.made in
          let rest = split_all other a join.got at2 in
          let stand2 = stand_behind g at join.made _ stand in
          leads_on s g a _ join.got c vars w n _
          (arms_lead arms flat.0 named.0 (λ vars w n. run_stmts s other vars w n) a free join.got rest.got (at2 + length rest.made) (stand_behind g at2 rest.made _ stand2)
          (stmts_lead other flat.1 named.1 a free join.got at2 (stand_first g at2 rest.made _ stand2)) vars w n)
          (joined_good s g a after c at (stand_first g at join.made _ stand))
      stmt_leads (FWhile head test start body after) flat named a free c at stand vars w n =
          let behind = outlet a after c at in
          closed_leads s g a after c at (stand_first g at behind.made _ stand) _ vars w n _
          (while_leads s calls g (always test) head start test (λ a c at. split_all body a c at) (λ vars w n. run_stmts s body vars w n) refl (test_leads test flat.0 named.0) (stmts_lead body flat.1 named.1) a free behind.got
          (outlet_free a after c at) (at + length behind.made) (stand_behind g at behind.made _ stand) vars w n)
      stmt_leads (FTry start body clauses after) flat named a free c at stand vars w n =
          let behind = outlet a after c at in
          let at2 = at + length behind.made in
          let ks = split_clauses clauses a behind.got at2 in
          let at3 = at2 + length ks.made in
          let inner = guarded a ks.got in
          let first = split_all body inner behind.got at3 in
          let at4 = at3 + length first.made in
          let to = lodge inner start first.got at4 in
          let made4 = to.made ++ [] in
          let made3 = first.made ++ made4 in
          let made2 = ks.made ++ made3 in
          let stand2 = stand_behind g at behind.made made2 stand in
          let stand3 = stand_behind g at2 ks.made made3 stand2 in
          let stand4 = stand_behind g at3 first.made made4 stand3 in
          closed_leads s g a after c at (stand_first g at behind.made made2 stand) _ vars w n _
          (caught_leads s g a free ks.got behind.got (outlet_free a after c at) (λ f vars w n. run_clauses s clauses f vars w n) (clauses_lead clauses flat.1 named.1 a free behind.got at2 (stand_first g at2 ks.made made3 stand2)) to.got vars w n (run_stmts s body vars w n)
          (lodge_leads s g inner start first.got behind.got at4 (stand_first g at4 to.made [] stand4) vars w n _
          (stmts_lead body flat.0 named.0 inner (guarded_free a ks.got free) behind.got at3 (stand_first g at3 first.made made4 stand3) vars w n)))

      pub stmts_lead : (xs : PlainFlatStmts) → AreFlat leaves xs → EachInAll (CalleeIsNamed s.src) (CreatedIsNamed s.src) xs → CodeLeads s calls g (λ a c at. split_all xs a c at) (run_stmts s xs)
      stmts_lead FNoStmt flat named a free c at stand vars w n = leads_itself s g a c vars w n
      stmts_lead (FStmt x xs) flat named a free c at stand vars w n =
          in_turn_leads (stops x) x (λ a c at. split_all xs a c at) (λ vars w n. run_stmts s xs vars w n) refl (stmt_leads x flat.0 named.0) (stmts_lead xs flat.1 named.1) a free c at stand vars w n

      arms_lead : (arms : PlainFlatArms) → AreFlatArms leaves arms → EachInArms (CalleeIsNamed s.src) (CreatedIsNamed s.src) arms → (other : Way W) (a : Around) → AroundFree a → (c rest : Rest) (at : ℕ) → StandAt g at (split_arms arms a c rest at).made
          → ((us : List Var) (v : W) (m : ℕ) → Leads s g a rest us v m (other us v m) c) → (vars : List Var) (w : W) (n : ℕ) → Leads s g a (split_arms arms a c rest at).got vars w n (run_arms s arms other vars w n) c
      arms_lead FNoArm flat named other a free c rest at stand last vars w n = last vars w n
      arms_lead (FMoreArms (FArm test start body otherwise) more) flat named other a free c rest at stand last vars w n =
          let later = split_arms more a c rest at in
          let at2 = at + length later.made in
          let fails = lodge a otherwise later.got at2 in
          let at3 = at2 + length fails.made in
          let first = split_all body a c at3 in
          let at4 = at3 + length first.made in
          let holds = lodge a start first.got at4 in
          let at5 = at4 + length holds.made in
          let tested = split_test test a holds.got fails.got at5 in
          let made4 = holds.made ++ tested.made in
          let made3 = first.made ++ made4 in
          let made2 = fails.made ++ made3 in
          let stand2 = stand_behind g at later.made made2 stand in
          let stand3 = stand_behind g at2 fails.made made3 stand2 in
          let stand4 = stand_behind g at3 first.made made4 stand3 in
          test_leads test flat.0 named.0 a free holds.got fails.got at5 (stand_behind g at4 holds.made tested.made stand4) c (λ vars w n. run_stmts s body vars w n) (λ vars w n. run_arms s more other vars w n) n
          (λ us v m le. lodge_leads s g a start first.got c at4 (stand_first g at4 holds.made tested.made stand4) us v m _ (stmts_lead body flat.1 named.1 a free c at3 (stand_first g at3 first.made made4 stand3) us v m))
          (λ us v m le. lodge_leads s g a otherwise later.got c at2 (stand_first g at2 fails.made made3 stand2) us v m _ (arms_lead more flat.2 named.2 other a free c rest at (stand_first g at later.made made2 stand) last us v m))
          vars w

      clauses_lead : (clauses : PlainFlatClauses) → AreFlatClauses leaves clauses → EachInClauses (CalleeIsNamed s.src) (CreatedIsNamed s.src) clauses → (a : Around) → AroundFree a → (c : Rest) (at : ℕ) → StandAt g at (split_clauses clauses a c at).made
          → (f : Failure) (vars : List Var) (w : W) (n : ℕ) → ClausesLead s g a (split_clauses clauses a c at).got f vars w n (run_clauses s clauses f vars w n) c
      clauses_lead FNoClause flat named a free c at stand f vars w n = nobody_leads s g a f vars w n c
      clauses_lead (FMoreClauses (FClause kinds start body) more) flat named a free c at stand f vars w n =
          let later = split_clauses more a c at in
          let at2 = at + length later.made in
          let first = split_all body a c at2 in
          let at3 = at2 + length first.made in
          let to = homed a start first.got at3 in
          let made3 = to.made ++ [] in
          let made2 = first.made ++ made3 in
          let stand2 = stand_behind g at later.made made2 stand in
          let stand3 = stand_behind g at2 first.made made3 stand2 in
          clause_leads s g a kinds to.got later.got f vars w n (run_stmts s body vars w n) (run_clauses s more f vars w n) c
          (jump_leads s g a start to.got first.got c vars w n _ stand3.0 (stmts_lead body flat.0 named.0 a free c at2 (stand_first g at2 first.made made3 stand2) vars w n))
          (clauses_lead more flat.1 named.1 a free c at (stand_first g at later.made made2 stand) f vars w n)

      test_leads : (test : PlainFlatTest) → IsFlatTest leaves test → EachInTest (CalleeIsNamed s.src) (CreatedIsNamed s.src) test → TestLeads s calls g (λ a holds fails at. split_test test a holds fails at) (decide s test)
      test_leads (FLeaf before e) flat named a free holds fails at stand c y o n first second vars w =
          leads_next s g a _ (branch e holds fails) c vars w n (run_stmts s before vars w n) _ (stmts_lead before flat.0 named a free (branch e holds fails) at stand vars w n)
          (λ us v m le. branch_leads s calls g a e holds fails c y o us v m (λ us v k less. first us v k (at_most less le)) (λ us v k less. second us v k (at_most less le)))
      test_leads (FNot test) flat named a free holds fails at stand c y o n first second vars w = test_leads test flat named a free fails holds at stand c o y n second first vars w
      test_leads (FAnd operands) flat named a free holds fails at stand c y o n first second vars w = each_leads true operands flat named a free holds fails at stand c y o n first second vars w
      test_leads (FOr operands) flat named a free holds fails at stand c y o n first second vars w = each_leads false operands flat named a free holds fails at stand c y o n first second vars w

      each_leads : (truth : Bool) (operands : PlainOperands) → AreFlatOperands leaves operands → EachInOperands (CalleeIsNamed s.src) (CreatedIsNamed s.src) operands → TestLeads s calls g (λ a holds fails at. split_each truth operands a holds fails at) (decide_each s truth operands)
      each_leads true FNoOperand flat named a free holds fails at stand c y o n first second vars w = first vars w n (omega arith)
      each_leads false FNoOperand flat named a free holds fails at stand c y o n first second vars w = second vars w n (omega arith)
      each_leads true (FMoreOperands (FOperand test rest) more) flat named a free holds fails at stand c y o n first second vars w =
          let later = split_each true more a holds fails at in
          let at2 = at + length later.made in
          let onward = lodge a rest later.got at2 in
          let stand2 = stand_behind g at later.made _ stand in
          test_leads test flat.0 named.0 a free onward.got fails (at2 + length onward.made) (stand_behind g at2 onward.made _ stand2) c (λ vars w n. decide_each s true more y o vars w n) o n
          (λ us v m le. lodge_leads s g a rest later.got c at2 (stand_first g at2 onward.made _ stand2) us v m _
          (each_leads true more flat.1 named.1 a free holds fails at (stand_first g at later.made _ stand) c y o m (λ us v k less. first us v k (at_most less le)) (λ us v k less. second us v k (at_most less le)) us v))
          second vars w
      each_leads false (FMoreOperands (FOperand test rest) more) flat named a free holds fails at stand c y o n first second vars w =
          let later = split_each false more a holds fails at in
          let at2 = at + length later.made in
          let onward = lodge a rest later.got at2 in
          let stand2 = stand_behind g at later.made _ stand in
          test_leads test flat.0 named.0 a free holds onward.got (at2 + length onward.made) (stand_behind g at2 onward.made _ stand2) c y (λ vars w n. decide_each s false more y o vars w n) n first
          (λ us v m le. lodge_leads s g a rest later.got c at2 (stand_first g at2 onward.made _ stand2) us v m _
          (each_leads false more flat.1 named.1 a free holds fails at (stand_first g at later.made _ stand) c y o m (λ us v k less. first us v k (at_most less le)) (λ us v k less. second us v k (at_most less le)) us v))
          vars w

-- A statement that stays as it is keeps the rules as code.
use Rattle.std.proofs.Common.{◌≡◌, ℕ, Bool, true, false, cond, Option, Some, None, Ok, List, [], ◌∷◌, ◌++◌, append-nil, refl, sym, ap, ◌∙◌, subst, true≢false}
use Rattle.std.specs.Prelude.{◌||◌, ◌&&◌, is_some}
use Rattle.std.specs.Cmp.Derive.{both_true as both_hold}
use Rattle.py_tree.specs.Bounded.{StmtNames, EachStmt, EachOfStmts, RaisesFailure}
use Rattle.py_tree.specs.PlainTypes.{PlainTy}
use Rattle.py_tree.specs.PlainStatements.{PlainStmt, PNoStmt, PStmt}
use Rattle.py_tree.specs.FlowEnvironment.{PlainLocal}
use Rattle.py_tree.specs.ExpressionTypes.{with_found}
use Rattle.py_tree.specs.Reachability.{goes_on, breaks, assigns, assigned_in}
use Rattle.py_tree.specs.Flow.{Context, Way, begun, flow, flow_all}
use Rattle.call_graph.specs.SuspendingCode.{Leaving, stmt_suspends, stmts_suspend}
use Rattle.program_meaning.proofs.LocalShapes.{shapes, type_in, is_typed}
use Rattle.program_meaning.proofs.TypedParts.{done, either_false, both_true}
use Rattle.block_code.specs.GraphFits.{Asked, are_variables, CodeFits}
use Rattle.flat_tree.specs.PlainFlat.{FCode}
use Rattle.flat_tree.specs.Flatness.{jumps}
use Rattle.method_splitter.specs.Points.{PointsPass}
use Rattle.flat_types.specs.FlatTypes.{stmts_fit}
use Rattle.flat_types.proofs.FlowStays.{EachTyped, stmt_stays}
use Rattle.typed_methods.proofs.StoredKnown.{TypedThere, all_under, are_same}
use Rattle.typed_methods.proofs.KeptParts.{in_loop_if}
use Rattle.typed_methods.proofs.FlowKept.{LoopsToo, GoesSo, begun_ahead, stmt_kept}
use Rattle.typed_methods.proofs.BegunAnew.{way_at, LeadsTo, stmt_anew}
use Rattle.typed_methods.proofs.Floors.{Floors, EachForgets, EachUnder, each_on}
use Rattle.typed_methods.proofs.PointsAbove.{code_guarded}
use Rattle.typed_methods.proofs.CodeLaws.{GoodCode, typed_env, typed_same, no_more, no_more_is}
use Rattle.typed_methods.proofs.SimpleKeep.{EachVariable, Begins}

pub all_variables : (locals : List PlainLocal) (names : List ℕ) → EachTyped (shapes locals) names → are_variables locals names ≡ true
all_variables locals [] h = refl
all_variables locals (x ∷ xs) h = both_hold (is_typed locals x ∙ h.0) (all_variables locals xs h.1)

pub some_typed : (o : Option PlainTy) → is_some o ≡ true → (t : PlainTy) × (o ≡ Some t)
some_typed (Some t) e = (t, refl)
some_typed None e = absurd (true≢false (sym e))

-- names that have types here have them there
pub each_there : (here there : List PlainLocal) (names : List ℕ) → TypedThere here there → EachVariable here names → EachVariable there names
each_there here there [] typed h = tt
each_there here there (x ∷ xs) typed h = let p = some_typed (type_in (shapes here) x) h.0 in (ap is_some (typed x p.0 p.1), each_there here there xs typed h.1)

one_goes_on : (go : Bool) (next : Way) → cond go (done next) (done next) ≡ Ok next
one_goes_on true next = refl
one_goes_on false next = refl

nothing_more : (b : Bool) (locals : List PlainLocal) (names : List ℕ) → EachVariable locals names → EachVariable locals (names ++ cond b [] [])
nothing_more b locals [] h = by b
  where
    by : (b : Bool) → EachVariable locals (cond b [] [])
    by true = tt
    by false = tt
nothing_more b locals (x ∷ xs) h = (h.0, nothing_more b locals xs h.1)

same_names : (b : Bool) (names : List ℕ) → names ++ cond b [] [] ≡ names
same_names true names = append-nil names
same_names false names = append-nil names

module _ (c : Context) (leaves : Leaving) (limit : ℕ) (outside : c.in_loop ≡ false) (x : PlainStmt) (named : StmtNames limit x) (raises : EachStmt RaisesFailure x) (stays : stmt_suspends leaves x || jumps x ≡ false) where
  -- code in a context that is in no loop
  code_stays : (env : List PlainLocal) (end : Way) (goal : Asked) → flow (in_loop_if c false) (begun env) x ≡ Ok end → EachVariable env (assigns x) → (goes_on x ≡ true → goal end.locals) → CodeFits c leaves env (PStmt x PNoStmt) goal
  unfolding flow assigns stmts_suspend EachOfStmts goes_on
  code_stays env end goal flows variables goes = record {
    way = end;
    flows = ap (λ (d : Context). flow_all d (begun env) (PStmt x PNoStmt)) (ap (in_loop_if c) outside) ∙ ap (λ r. with_found r (λ next. cond (goes_on x) (done next) (done next))) flows ∙ one_goes_on (goes_on x) end;
    assigns = all_variables env (assigned_in (PStmt x PNoStmt)) (nothing_more (goes_on x) env (assigns x) variables);
    raises = (raises, tt);
    stays = ap (λ b. b || (goes_on x && false)) (either_false (stmt_suspends leaves x) (jumps x) stays).0 ∙ nothing (goes_on x);
    goes = λ e. goes (both_true (goes_on x) true e).0;
  }
    where
      nothing : (b : Bool) → (b && false) ≡ false
      nothing true = refl
      nothing false = refl

  pub still_keeps : (looping : Bool) (floor : Floors) (w : Way) (n : ℕ) (end : Way) → Begins limit floor w n → EachVariable w.locals (assigns x) → EachForgets floor.clauses (assigns x) → flow (in_loop_if c looping) w x ≡ Ok end
      → GoodCode c leaves looping floor w n (FCode x ∷ []) n end (goes_on x) (breaks x)
  unfolding stmts_fit PointsPass assigns
  still_keeps looping floor w n end b variables forgets h = record {
    made = [];
    numbered = refl;
    points = λ variables among typed. (tt, tt);
    fits = λ m among typed env at ways goal goes.
        let anew : LeadsTo end (flow (in_loop_if c looping) (way_at w.locals None) x) = stmt_anew c x looping looping w end None (λ j t. t) h in
        let same : shapes end.locals ≡ shapes w.locals = (stmt_stays x (in_loop_if c looping) w end h).same variables in
        let there : TypedThere w.locals env = typed_env m.variables w.locals env typed at.are in
        let loops : LoopsToo (jumps x) looping false = λ j t. absurd (true≢false (sym j ∙ (either_false (stmt_suspends leaves x) (jumps x) stays).1)) in
        let kept : GoesSo (way_at end.locals anew.0) (begun env) (flow (in_loop_if c false) (begun env) x) =
        stmt_kept c limit x looping false (begun w.locals) (begun env) (way_at end.locals anew.0) named loops (begun_ahead w.locals env at.kept) (typed_env m.variables end.locals env (typed_same m.variables w.locals end.locals same typed) at.are) anew.1 in
        let in_env : EachVariable env (assigns x) = each_there w.locals env (assigns x) there variables in
        let above : EachUnder floor.clauses env = each_on floor.clauses w.locals env b.above.1 (all_under w.locals env at.kept) in (
          code_stays env kept.end (no_more c leaves m goal) kept.is in_env
              (λ go. no_more_is c leaves m goal kept.end.locals (goes go kept.end.locals (record { are = are_same m.variables env kept.end.locals kept.same at.are; kept = kept.ahead.kept }))),
          code_guarded floor.clauses env (PStmt x PNoStmt) c (subst (EachForgets floor.clauses) (sym (same_names (goes_on x) (assigns x))) forgets) (nothing_more (goes_on x) env (assigns x) in_env) above m.caught
              (λ ls under e. ways.at_caught ls (are_same m.variables env ls e at.are) under),
        );
  }

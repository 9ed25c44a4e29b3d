-- The items of a block end alike from variables that agree on what is surely assigned.
use Rattle.std.proofs.Common.{◌≡◌, ℕ, zero, suc, Option, Some, None, List, [], ◌∷◌, refl, ap, subst}
use Rattle.py_tree.specs.PlainTypes.{PlainTy, TStr}
use Rattle.py_tree.specs.PlainExpressions.{PlainExpr}
use Rattle.py_tree.specs.PlainStatements.{PlainStmts, PNoStmt, PStmt}
use Rattle.py_tree.specs.FlowEnvironment.{PlainLocal}
use Rattle.py_tree.specs.Reachability.{all_go_on, break_in}
use Rattle.py_tree.specs.Flow.{Context, Way, begun, with_local}
use Rattle.call_graph.specs.SuspendingCode.{Leaving}
use Rattle.sf_value.specs.declared.Failure.{Failure}
use Rattle.sf_value.specs.declared.value.Value.{Value}
use Rattle.program_meaning.specs.declared.vars.Var.{Var}
use Rattle.program_meaning.specs.World.{Gives, Got, Fell, ◌>>=◌, Ends, Goes, Returns, Breaks, Continues, Fails, with_given, next}
use Rattle.program_meaning.specs.Evaluation.{Site, eval}
use Rattle.program_meaning.specs.Execution.{message, act_all}
use Rattle.program_meaning.specs.Reached.{IsReached}
use Rattle.program_meaning.proofs.NotReached.{acts_reached}
use Rattle.block_code.specs.PlainVars.{PlainVar}
use Rattle.block_code.specs.PlainBlocks.{PlainItem, IMark, ISet, IPut, IGive, IFail, ICode}
use Rattle.block_code.specs.GraphFits.{Asked, HasType, Takes, CodeFits, MessageFits, ItemFits, ItemsFit, AtEachPoint, AtEachItem}
use Rattle.block_runs.specs.BlockRuns.{run_item, run_items}
use Rattle.block_runs.proofs.Variables.{Supplied}
use Rattle.assigned_locals.specs.AssignedLocals.{AgreeOnAssigned, EndsAgree}
use Rattle.assigned_locals.specs.AssignedLocals as agreed
use Rattle.assigned_locals.proofs.AssignedLocals.{expressions, statements}
use Rattle.request_events.proofs.Agreeing.{Same, supplied_agree, given_agree}

at_first : (P : Asked) (c : Context) (w : Way) (code : PlainStmts) → AtEachPoint P c w code → P w.locals
unfolding AtEachPoint
at_first P c w PNoStmt p = p
at_first P c w (PStmt s ss) p = p.0

pub bound_same : {W A B : Type 0} (g h : Gives W A) (k : A → W → ℕ → Gives W B) → g ≡ h → (g >>= k) ≡ (h >>= k)
bound_same g h k e = ap (λ g. g >>= k) e

module _ {W : Type 0} where
  -- two runs end alike: where they go on, with variables that agree on what is surely assigned there; and where they fail, on the
  -- parameters that this is ready for. Of those that go on it is later so at the point where they do
  pub data Met (Ready : List PlainVar → Type 0) (Later : List PlainVar → Asked) (goal : Asked) : Ends W → Ends W → Type 0 where
    both_go : {us vs : List Var} {w : W} {n : ℕ} → (after : List PlainLocal) → goal after → AgreeOnAssigned after us vs → ((params : List PlainVar) → Ready params → Later params after) → Met Ready Later goal (Goes us w n) (Goes vs w n)
    both_return : {v : Value} {w : W} {n : ℕ} → Met Ready Later goal (Returns v w n) (Returns v w n)
    both_break : {us vs : List Var} {w : W} {n : ℕ} → Met Ready Later goal (Breaks us w n) (Breaks vs w n)
    both_continue : {us vs : List Var} {w : W} {n : ℕ} → Met Ready Later goal (Continues us w n) (Continues vs w n)
    both_fail : {f : Failure} {us vs : List Var} {w : W} {n : ℕ} → ((params : List PlainVar) → Ready params → Same params us vs) → Met Ready Later goal (Fails f us w n) (Fails f vs w n)

  sooner : (R Q : List PlainVar → Type 0) (L : List PlainVar → Asked) (goal : Asked) (e d : Ends W) → ((params : List PlainVar) → R params → Q params) → Met Q L goal e d → Met R L goal e d
  sooner R Q L goal _ _ more (both_go after g agree later) = both_go after g agree (λ params r. later params (more params r))
  sooner R Q L goal _ _ more both_return = both_return
  sooner R Q L goal _ _ more both_break = both_break
  sooner R Q L goal _ _ more both_continue = both_continue
  sooner R Q L goal _ _ more (both_fail same) = both_fail (λ params r. same params (more params r))

module _ {W : Type 0} (s : Site W) (c : Context) (leaves : Leaving) where
  pub value_same : (locals : List PlainLocal) (e : PlainExpr) (ty : PlainTy) (us vs : List Var) (w : W) (n : ℕ) → HasType c leaves locals e ty → AgreeOnAssigned locals us vs → eval s e us w n ≡ eval s e vs w n
  value_same locals e ty us vs w n h agree = expressions c locals h.wanted e ty h.typed s us vs agree w n

  text_same : (locals : List PlainLocal) (e : Option PlainExpr) (us vs : List Var) (w : W) (n : ℕ) → MessageFits c leaves locals e → AgreeOnAssigned locals us vs → message s e us w n ≡ message s e vs w n
  unfolding message
  text_same locals None us vs w n h agree = refl
  text_same locals (Some e) us vs w n h agree = bound_same _ _ _ (value_same locals e TStr us vs w n h agree)

  abbrev AtItems : List PlainItem → List PlainLocal → List PlainVar → Type 0
  AtItems is locals params = AtEachItem (Supplied params) c is locals

  -- One item, with those behind it

  module _ (i : PlainItem) (is : List PlainItem) (locals : List PlainLocal) (goal : Asked) where
    abbrev ItemMet : Ends W → Ends W → Type 0
    ItemMet e d = Met (AtItems (i ∷ is) locals) (λ params after. AtItems is after params) goal e d

    given_met : {A : Type 0} (us vs : List Var) (g h : Gives W A) (k l : A → W → ℕ → Ends W) → AgreeOnAssigned locals us vs → ((params : List PlainVar) → AtItems (i ∷ is) locals params → Supplied params locals) → g ≡ h
        → ((x : A) (w : W) (n : ℕ) → ItemMet (k x w n) (l x w n)) → ItemMet (with_given us g k) (with_given vs h l)
    given_met us vs g h k l agree first e rest = subst (λ h. ItemMet (with_given us g k) (with_given vs h l)) e (by g)
      where
        by : (g : Gives W _) → ItemMet (with_given us g k) (with_given vs g l)
        by (Got x w n) = rest x w n
        by (Fell f w n) = both_fail (λ params at. supplied_agree locals params us vs agree (first params at))

  code_met : (code : PlainStmts) (is : List PlainItem) (locals : List PlainLocal) (goal : Asked) (f : CodeFits c leaves locals code goal) (e d : Ends W) → EndsAgree locals f.way.locals e d → IsReached (all_go_on code) (break_in code) e → ItemMet (ICode code) is locals goal e d
  unfolding AtEachItem
  code_met code is locals goal f _ _ (agreed.go agree) on = both_go f.way.locals (f.goes on) agree (λ params at. at.1 on f.way f.flows)
  code_met code is locals goal f _ _ agreed.return on = both_return
  code_met code is locals goal f _ _ (agreed.break agree) on = both_break
  code_met code is locals goal f _ _ (agreed.continue agree) on = both_continue
  code_met code is locals goal f _ _ (agreed.fail {us = us} {vs = vs} agree) on = both_fail (λ params at. supplied_agree locals params us vs agree (at_first (Supplied params) c (begun locals) code at.0))

  item_met : (i : PlainItem) (is : List PlainItem) (locals : List PlainLocal) (goal : Asked) (us vs : List Var) (w : W) (n : ℕ) → ItemFits c leaves i goal locals → AgreeOnAssigned locals us vs → ItemMet i is locals goal (run_item s i us w n) (run_item s i vs w n)
  unfolding run_item AtEachItem
  item_met IMark is locals goal us vs w zero f agree = both_fail (λ params at. supplied_agree locals params us vs agree at.0)
  item_met IMark is locals goal us vs w (suc n) f agree = both_go locals f agree (λ params at. at.1)
  item_met (ISet x e) is locals goal us vs w n f agree =
      let t : Takes locals x f.0 goal = f.2 in
      given_met (ISet x e) is locals goal us vs _ _ _ _ agree (λ params at. at.0) (value_same locals e f.0 us vs w n f.1 agree)
      (λ v w n. both_go (with_local x f.0 f.0 locals) t.goes (given_agree x f.0 v locals us vs t.local t.is agree) (λ params at. at.1 f.1.wanted f.0 f.1.typed))
  item_met (IPut field e) is locals goal us vs w n f agree =
      given_met (IPut field e) is locals goal us vs _ _ _ _ agree (λ params at. at.0) (value_same locals e f.0.fits.ty us vs w n f.0.fits.has agree) (λ v w n. both_go locals f.1 agree (λ params at. at.1))
  item_met (IGive e) is locals goal us vs w n f agree = given_met (IGive e) is locals goal us vs _ _ _ _ agree (λ params at. at) (value_same locals e f.ty us vs w n f.has agree) (λ v w n. both_return)
  item_met (IFail kind e) is locals goal us vs w n f agree =
      given_met (IFail kind e) is locals goal us vs _ _ _ _ agree (λ params at. at) (text_same locals e us vs w n f.2 agree) (λ text w n. both_fail (λ params at. supplied_agree locals params us vs agree at))
  item_met (ICode code) is locals goal us vs w n f agree = code_met code is locals goal f (act_all s code us w n) (act_all s code vs w n) (statements c (begun locals) f.way code f.flows s us vs agree w n) (acts_reached s code us w n)

  -- All items

  abbrev pub ItemsMet : List PlainItem → List PlainLocal → Asked → Ends W → Ends W → Type 0
  ItemsMet is locals goal e d = Met (AtItems is locals) Supplied goal e d

  then_met : (i : PlainItem) (is : List PlainItem) (locals : List PlainLocal) (mid goal : Asked) (e d : Ends W) (k : List Var → W → ℕ → Ends W) → ItemMet i is locals mid e d
      → ((after : List PlainLocal) (us vs : List Var) (w : W) (n : ℕ) → mid after → AgreeOnAssigned after us vs → ItemsMet is after goal (k us w n) (k vs w n)) → ItemsMet (i ∷ is) locals goal (next e k) (next d k)
  then_met i is locals mid goal _ _ k (both_go {us = us} {vs = vs} {w = w} {n = n} after g agree later) rest = sooner (AtItems (i ∷ is) locals) (AtItems is after) Supplied goal (k us w n) (k vs w n) later (rest after us vs w n g agree)
  then_met i is locals mid goal _ _ k both_return rest = both_return
  then_met i is locals mid goal _ _ k both_break rest = both_break
  then_met i is locals mid goal _ _ k both_continue rest = both_continue
  then_met i is locals mid goal _ _ k (both_fail same) rest = both_fail same

  pub items_met : (is : List PlainItem) (locals : List PlainLocal) (goal : Asked) (us vs : List Var) (w : W) (n : ℕ) → ItemsFit c leaves is goal locals → AgreeOnAssigned locals us vs → ItemsMet is locals goal (run_items s is us w n) (run_items s is vs w n)
  unfolding run_items ItemsFit AtEachItem
  items_met [] locals goal us vs w n f agree = both_go locals f agree (λ params at. at)
  items_met (i ∷ is) locals goal us vs w n f agree =
      then_met i is locals (ItemsFit c leaves is goal) goal (run_item s i us w n) (run_item s i vs w n) _ (item_met i is locals (ItemsFit c leaves is goal) us vs w n f agree) (λ after us vs w n g agree. items_met is after goal us vs w n g agree)

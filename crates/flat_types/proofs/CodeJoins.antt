-- Statements of the source that fit one after another fit together.
use Rattle.std.proofs.Common.{◌≡◌, ℕ, Bool, true, false, cond, Option, None, Ok, List, [], ◌∷◌, refl, sym, ap, ◌∙◌, subst}
use Rattle.std.specs.Prelude.{is_some, ◌||◌, ◌&&◌}
use Rattle.std.specs.declared.result.Result.{Result}
use Rattle.std.specs.Cmp.Derive.{both_true as both_hold}
use Rattle.py_tree.specs.declared.rule.RuleFault.{RuleFault}
use Rattle.py_tree.specs.PlainStatements.{PlainStmt, PlainStmts, PNoStmt, PStmt}
use Rattle.py_tree.specs.FlowEnvironment.{PlainLocal, local_of}
use Rattle.py_tree.specs.ExpressionTypes.{with_found}
use Rattle.py_tree.specs.Bounded.{EachOfStmts}
use Rattle.py_tree.specs.Reachability.{goes_on, all_go_on, assigns, assigned_in}
use Rattle.py_tree.specs.Flow.{Context, Known, Way, begun, flow, flow_all}
use Rattle.call_graph.specs.SuspendingCode.{Leaving, stmt_suspends, stmts_suspend}
use Rattle.program_meaning.proofs.TypedParts.{done, same_ok, both_true, either_false}
use Rattle.program_meaning.proofs.LocalShapes.{shapes, is_typed}
use Rattle.program_meaning.proofs.FlowGrows.{all_parts}
use Rattle.block_code.specs.GraphFits.{Asked, are_variables, CodeFits}
use Rattle.flat_types.proofs.FlowStays.{EachTyped, first_typed, both_typed, Stays, stmt_stays, all_stay}

pub typed_variables : (locals : List PlainLocal) (names : List ℕ) → are_variables locals names ≡ true → EachTyped (shapes locals) names
typed_variables locals [] h = tt
typed_variables locals (x ∷ xs) h =
    let b : (is_some (local_of locals x) ≡ true) × (are_variables locals xs ≡ true) = both_true (is_some (local_of locals x)) _ h in
    (sym (is_typed locals x) ∙ b.0, typed_variables locals xs b.1)

variables_typed : (locals : List PlainLocal) (names : List ℕ) → EachTyped (shapes locals) names → are_variables locals names ≡ true
variables_typed locals [] h = refl
variables_typed locals (x ∷ xs) h = both_hold (is_typed locals x ∙ h.0) (variables_typed locals xs h.1)

-- code leaves the names and types of variables as they are
pub code_stays : (c : Context) (leaves : Leaving) (locals : List PlainLocal) (xs : PlainStmts) (goal : Asked) → (f : CodeFits c leaves locals xs goal) → shapes f.way.locals ≡ shapes locals
code_stays c leaves locals xs goal f = (all_stay xs c (begun locals) f.way f.flows).same (typed_variables locals (assigned_in xs) f.assigns)

pub left_unsaid : (w : Way) → w.breaks ≡ None → begun w.locals ≡ w
left_unsaid w e = ap (λ (b : Option (List Known)). abbrev_way w.locals b) (sym e)
  where
    abbrev_way : List PlainLocal → Option (List Known) → Way
    abbrev_way locals b = record { locals = locals; breaks = b }

module _ (c : Context) (leaves : Leaving) (outside : c.in_loop ≡ false) (locals : List PlainLocal) (x : PlainStmt) (xs : PlainStmts) (goal : Asked) (on : goes_on x ≡ true) where
  joined : (next after : Way) → flow c (begun locals) x ≡ Ok next → flow_all c next xs ≡ Ok after → flow_all c (begun locals) (PStmt x xs) ≡ Ok after
  unfolding flow
  joined next after e f =
      ap (λ (r : Result Way RuleFault). with_found r (λ next. cond (goes_on x) (flow_all c next xs) (Ok next))) e ∙ ap (λ b. cond b (flow_all c next xs) (Ok next)) on ∙ f

  pub code_joins : (mid : Asked) → CodeFits c leaves locals (PStmt x PNoStmt) mid → ((after : List PlainLocal) → shapes after ≡ shapes locals → mid after → CodeFits c leaves after xs goal) → CodeFits c leaves locals (PStmt x xs) goal
  unfolding flow assigned_in stmts_suspend EachOfStmts all_go_on
  code_joins mid f rest =
      let a : (next : Way) × (flow c (begun locals) x ≡ Ok next) × (cond (goes_on x) (done next) (done next) ≡ Ok f.way) = all_parts c (begun locals) f.way x PNoStmt f.flows in
      let same : a.0 ≡ f.way = by_case (goes_on x) a.0 a.2 in
      let step : flow c (begun locals) x ≡ Ok f.way = a.1 ∙ ap Ok same in
      let stays : Stays c (assigns x) (begun locals) f.way = stmt_stays x c (begun locals) f.way step in
      let first : EachTyped (shapes locals) (assigns x) = first_typed (shapes locals) (assigns x) _ (typed_variables locals (assigned_in (PStmt x PNoStmt)) f.assigns) in
      let shaped : shapes f.way.locals ≡ shapes locals = stays.same first in
      let g : CodeFits c leaves f.way.locals xs goal = rest f.way.locals shaped (f.goes (both_hold on refl)) in
      let whole : begun f.way.locals ≡ f.way = left_unsaid f.way (stays.breaks outside) in
      let later : EachTyped (shapes locals) (assigned_in xs) = subst (λ ss. EachTyped ss (assigned_in xs)) shaped (typed_variables f.way.locals (assigned_in xs) g.assigns) in
      record {
        way = g.way;
        flows = joined f.way g.way step (ap (λ w. flow_all c w xs) (sym whole) ∙ g.flows);
        assigns = variables_typed locals (assigned_in (PStmt x xs)) (both_typed (shapes locals) (assigns x) _ first (subst (λ b. EachTyped (shapes locals) (cond b (assigned_in xs) [])) (sym on) later));
        raises = (f.raises.0, g.raises);
        stays = ap (λ b. b || (goes_on x && stmts_suspend leaves xs)) (either_false (stmt_suspends leaves x) _ f.stays).0 ∙ ap (λ b. b && stmts_suspend leaves xs) on ∙ g.stays;
        goes = λ e. g.goes (both_true (goes_on x) (all_go_on xs) e).1;
      }
    where
      by_case : (b : Bool) (next : Way) → cond b (done next) (done next) ≡ Ok f.way → next ≡ f.way
      by_case true next e = same_ok next f.way e
      by_case false next e = same_ok next f.way e

-- The values of expressions, one after another, as the code finds them.
use Rattle.std.proofs.Common.{◌≡◌, ◌<◌, ◌+◌, ℕ, Option, Some, None, List, [], ◌∷◌, ◌++◌, drop, get_or, length, ap, sym, ◌∙◌, subst}
use Rattle.sf_value.specs.declared.Failure.{Failure}
use Rattle.sf_value.specs.declared.value.Value.{Value}
use Rattle.py_tree.specs.declared.expr.Expr.{Expr}
use Rattle.py_tree.specs.PlainExpressions.{plain_expr, plain_exprs, exprs_of}
use Rattle.program_meaning.specs.World.{Gives, Got, Fell, ◌>>=◌}
use Rattle.program_meaning.specs.Evaluation.{eval_all}
use Rattle.program_meaning.specs.Calls.{Held}
use Rattle.program_meaning.proofs.EvalLaws.{all_next}
use Rattle.event_step.specs.declared.method.Place.{Place}
use Rattle.event_step.specs.declared.method.Running.{Running}
use Rattle.event_step.specs.Running.{site_of, held_of}
use Rattle.event_step.specs.Values.{AddsNow, added_at, value_at}

module _ (place : Place) (before r : Running) (same : r.vars ≡ before.vars) (es : List Expr) (i : ℕ) (x : Expr) (vs : List Value) (lt : i < length es) (is : x ≡ get_or es i x) where
  abbrev rest : Gives Held Value → Gives Held (List Value)
  rest g = g >>= λ v w n. eval_all (site_of place) (exprs_of (plain_exprs (drop (i + 1) es))) (vs ++ v ∷ []) before.vars w n

  cut : added_at place (exprs_of (plain_exprs (drop i es))) vs before ≡ rest (value_at place (plain_expr x) before)
  cut = all_next (site_of place) before.vars (held_of before) before.steps es i x vs lt is

  -- a value, or a failure, of the next expression
  pub value_added : (o : Option Failure) (after : List Value) → o ≡ None → AddsNow o vs after r (value_at place (plain_expr x) before)
      → added_at place (exprs_of (plain_exprs (drop (i + 1) es))) after r ≡ added_at place (exprs_of (plain_exprs (drop i es))) vs before
  value_added o after none adds =
      let added : (v : Value) × (value_at place (plain_expr x) before ≡ Got v (held_of r) r.steps) × (after ≡ vs ++ v ∷ []) = subst (λ o. AddsNow o vs after r (value_at place (plain_expr x) before)) none adds in
      (λ j. eval_all (site_of place) (exprs_of (plain_exprs (drop (i + 1) es))) (added.2 j) (same j) (held_of r) r.steps) ∙ ap rest (sym added.1) ∙ sym cut

  pub value_fails : (o : Option Failure) (f : Failure) (after : List Value) → o ≡ Some f → AddsNow o vs after r (value_at place (plain_expr x) before) → added_at place (exprs_of (plain_exprs (drop i es))) vs before ≡ Fell f (held_of r) r.steps
  value_fails o f after some adds = cut ∙ ap rest (subst (λ o. AddsNow o vs after r (value_at place (plain_expr x) before)) some adds)

-- Values that are stored where much is known, and what is read there.
use Rattle.std.proofs.Common.{◌≡◌, ℕ, Bool, true, false, cond, Option, Some, None, List, [], ◌∷◌, ◌++◌, refl, sym, ap, ◌∙◌, subst}
use Rattle.std.specs.Prelude.{◌==◌, option_map, unwrap_or, codes}
use Rattle.std.proofs.lemmas.Bool.{eqb-true, eq-eqb, or_from}
use Rattle.py_tree.specs.declared.names.Place.{Place}
use Rattle.py_tree.specs.declared.expr.BinOp.TheVariants as op
use Rattle.py_tree.specs.declared.expr.Cmp.TheVariants as cmp
use Rattle.py_tree.specs.ReservedNames.{reserved_number}
use Rattle.py_tree.specs.PlainTypes.{PlainTy, TInt, TBool, TList}
use Rattle.py_tree.specs.PlainExpressions.{PlainExpr, PInt, PVar, PApply, PList, PCompare, PNoExpr, PExpr, PLink}
use Rattle.py_tree.specs.FlowEnvironment.{PlainLocal, has_name}
use Rattle.py_tree.specs.ExpressionTypes.{operand, is_str_or_list, place_of, assignable, right_wanted, function_of, applied, comparison, ordered, with_found, type_of}
use Rattle.py_tree.specs.Flow.{Context, type_at, at_head, with_local}
use Rattle.call_graph.specs.SuspendingCode.{Leaving, expr_suspends}
use Rattle.program_meaning.proofs.TypedParts.{done, Joins}
use Rattle.block_code.specs.PlainVars.{PlainVar}
use Rattle.block_code.specs.GraphFits.{Asked, HasType}
use Rattle.flat_tree.specs.PlainFlat.{FSet}
use Rattle.flat_types.specs.FlatTypes.{stmt_fits}
use Rattle.hoisting.specs.Stages.{temporary}
use Rattle.hoisting.specs.HoistStatements.{plus}
use Rattle.typed_hoisting.specs.KnownLocals.{Seen, seen_of, seen, Kept, Free, AreVariables}
use Rattle.typed_hoisting.specs.TypedHoisting.{Around, SuppliesAll, Typed}
use Rattle.typed_hoisting.proofs.LocalLaws.{kept_seen, read_seen}
use Rattle.typed_hoisting.proofs.EnvironmentLaws.{other_local, temporary_seen}
use Rattle.typed_hoisting.proofs.PointLaws.{IsVariable, found_local}
use Rattle.typed_hoisting.proofs.StoredLaws.{takes, stored_variables}
use Rattle.typed_hoisting.proofs.GuardedItems.{set_guarded}
use Rattle.typed_hoisting.proofs.TypedKinds.{RunTyped, one_link_typed, run_typed, run_stays}
use Rattle.typed_methods.proofs.StoredKnown.{AllKept, given_as, type_or, stored_seen, forget_if, head_seen}
use Rattle.typed_methods.proofs.CodeLaws.{At, variable_typed}
use Rattle.typed_methods.proofs.AugmentKeep.{joins_combined}

-- an assigned local of this type
abbrev pub with_type : PlainTy → Option Seen
with_type t = Some (record { ty = t; less = false })

module _ (variables : List PlainVar) (x : ℕ) (t s : PlainTy) (env : List PlainLocal) (are : AreVariables variables env) (is : IsVariable variables x t) where
  stored_type_is : type_or env x s ≡ t
  stored_type_is = ap (λ o. unwrap_or o s) (variable_typed variables env x t are is)

  stored_by : (y : ℕ) → seen (with_local x s s env) y ≡ cond (x == y) (Some (given_as t s)) (seen env y)
  stored_by y = stored_seen x s s env y ∙ ap (λ u. cond (x == y) (Some (given_as u s)) (seen env y)) stored_type_is

  pub stored_itself : seen (with_local x s s env) x ≡ Some (given_as t s)
  stored_itself = stored_by x ∙ ap (λ b. cond b (Some (given_as t s)) (seen env x)) (eq-eqb x x refl)

  pub stored_other : (y : ℕ) → (x == y) ≡ false → seen (with_local x s s env) y ≡ seen env y
  stored_other y e = stored_by y ∙ ap (λ b. cond b (Some (given_as t s)) (seen env y)) e

  -- where no more is known of the name than that
  pub stored_at : (locals : List PlainLocal) → AllKept locals env → Kept (seen locals x) (Some (given_as t s)) → At variables locals (with_local x s s env)
  stored_at locals kept here = record { are = stored_variables variables x t s env are is; kept = λ y. subst (Kept (seen locals y)) (sym (stored_by y)) (by y (x == y) refl) }
    where
      by : (y : ℕ) (b : Bool) → (x == y) ≡ b → Kept (seen locals y) (cond b (Some (given_as t s)) (seen env y))
      by y true e = subst (λ z. Kept (seen locals z) (Some (given_as t s))) (eqb-true x y e) here
      by y false e = kept y

-- one more temporary
pub more_at : (variables : List PlainVar) (k : ℕ) (t : PlainTy) (locals env : List PlainLocal) → Free k locals → At variables locals env → seen env k ≡ with_type t → At variables (locals ++ temporary k t ∷ []) env
more_at variables k t locals env free at h = record { are = at.are; kept = λ y. by y (k == y) refl }
  where
    by : (y : ℕ) (b : Bool) → (k == y) ≡ b → Kept (seen (locals ++ temporary k t ∷ []) y) (seen env y)
    by y true e = subst (λ z. Kept (seen (locals ++ temporary k t ∷ []) z) (seen env z)) (eqb-true k y e) (subst (λ o. Kept o (seen env k)) (sym (temporary_seen k locals t free)) h)
    by y false e = subst (λ o. Kept o (seen env y)) (sym (ap seen_of (other_local k locals t y e))) (at.kept y)

pub seen_at : (variables : List PlainVar) (locals env : List PlainLocal) (x : ℕ) (t : PlainTy) → At variables locals env → seen locals x ≡ with_type t → seen env x ≡ with_type t
seen_at variables locals env x t at h = kept_seen (seen locals x) (seen env x) _ (at.kept x) h

pub head_type : (names : List ℕ) (locals : List PlainLocal) (x : ℕ) (t : PlainTy) → seen locals x ≡ with_type t → seen (at_head names locals) x ≡ with_type t
head_type names locals x t h = head_seen names locals x ∙ ap (option_map (forget_if (has_name names x))) h ∙ by (has_name names x)
  where
    by : (b : Bool) → option_map (forget_if b) (with_type t) ≡ with_type t
    by true = refl
    by false = refl

module _ (c : Context) (leaves : Leaving) where
  -- a variable takes a value
  pub set_fits : (m : Around) (x : ℕ) (e : PlainExpr) (s t : PlainTy) (env : List PlainLocal) → HasType c leaves env e s → AreVariables m.variables env → IsVariable m.variables x t → assignable s t ≡ true → SuppliesAll m.caught env → SuppliesAll m.caught (with_local x s s env) → (goal : Asked) → goal (with_local x s s env)
      → stmt_fits c leaves m.variables m.caught m.breaks m.continues (FSet x e) goal env
  unfolding stmt_fits
  set_fits m x e s t env has are is suits before behind goal goes = (
    (s, has, takes m.variables x t s env are is suits goal goes),
    set_guarded c leaves m.variables x e s t env has (found_local m.variables env x t are is) m.caught before behind,
  )

  pub as_has : (wanted : Option PlainTy) (t : PlainTy) (env : List PlainLocal) (e : PlainExpr) → Typed c leaves wanted t env e → HasType c leaves env e t
  as_has wanted t env e h = record { wanted = wanted; typed = h.0; stays = h.1 }

  pub variable_reads : (env : List PlainLocal) (wanted : Option PlainTy) (at : Place) (x : ℕ) (t : PlainTy) → seen env x ≡ with_type t → Typed c leaves wanted t env (PVar at x)
  unfolding type_of expr_suspends
  variable_reads env wanted at x t h = (read_seen env at x _ h, refl)

  pub int_typed : (env : List PlainLocal) (wanted : Option PlainTy) (at : Place) (i : _) → Typed c leaves wanted TInt env (PInt at i)
  unfolding type_of expr_suspends
  int_typed env wanted at i = (refl, refl)

  pub empty_typed : (env : List PlainLocal) (at : Place) (u : PlainTy) → Typed c leaves (Some (TList u)) (TList u) env (PList at PNoExpr)
  unfolding type_of expr_suspends
  empty_typed env at u = (refl, refl)

  pub plus_typed : (env : List PlainLocal) (at : Place) (x y : PlainExpr) (s : PlainTy) → Joins op.Add s s → Typed c leaves None s env x → Typed c leaves (right_wanted op.Add s) s env y → Typed c leaves None s env (plus at x y)
  plus_typed env at x y s joins hx hy =
      let run : RunTyped c leaves s env (x, PLink op.Add at y ∷ []) = (hx, one_link_typed c leaves s s env op.Add at y (joins_combined op.Add at s s joins) hy) in
      (run_typed c leaves s env None at x (PLink op.Add at y ∷ []) run, run_stays c leaves s env at x (PLink op.Add at y ∷ []) run)

  pub less_typed : (env : List PlainLocal) (at : Place) (x y : PlainExpr) → Typed c leaves None TInt env x → Typed c leaves None TInt env y → Typed c leaves None TBool env (PCompare at cmp.Lt at x y)
  unfolding type_of expr_suspends comparison ordered
  less_typed env at x y hx hy = (
    ap (λ r. with_found r (λ s. with_found (type_at c env None y) (λ t. comparison cmp.Lt at at s t))) hx.0 ∙ ap (λ r. with_found r (λ t. comparison cmp.Lt at at TInt t)) hy.0,
    or_from _ _ hx.1 hy.1,
  )

  pub length_typed : (env : List PlainLocal) (at : Place) (x : PlainExpr) (u : PlainTy) → Typed c leaves None (TList u) env x → Typed c leaves None TInt env (PApply at (reserved_number (codes "len")) (PExpr x PNoExpr))
  unfolding type_of expr_suspends function_of applied
  length_typed env at x u h = (ap (λ r. with_found r (λ t. operand t is_str_or_list (place_of x) (done TInt))) h.0, or_from _ _ (or_from _ _ h.1 refl) refl)

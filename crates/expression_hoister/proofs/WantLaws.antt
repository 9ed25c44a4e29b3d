-- Wanted types of expressions in a list, and up to where one of them suspends.
use Rattle.std.proofs.Common.{◌≡◌, ◌⊎◌, inl, inr, ℕ, zero, suc, ◌+◌, ◌<◌, ◌≤◌, arith, Bool, true, false, ◌||◌, Option, None, Some, List, [], ◌∷◌, ◌++◌, length, drop, get_or, append_assoc, refl, sym, ap, ◌∙◌}
use Rattle.std.specs.Prelude.{option_map}
use Rattle.std.proofs.lemmas.List.{drop_all, append-nil}
use Rattle.std.proofs.Math.Nat.{eq-or-lt_of_le}
use Rattle.py_tree.specs.declared.ty.Ty.{Ty}
use Rattle.py_tree.specs.declared.expr.Expr.{Expr}
use Rattle.py_tree.specs.PlainTypes.{PlainTy, plain_ty}
use Rattle.py_tree.specs.PlainExpressions.{plain_expr, plain_exprs, exprs_of}
use Rattle.py_tree.proofs.ListWalks.{map_from, exprs_from, exprs_end}
use Rattle.call_graph.specs.SuspendingCode.{Leaving, expr_suspends, exprs_suspend}
use Rattle.hoisting.specs.HoistExpressions.{each_wanted, first_wanted, others_wanted}
use Rattle.expression_hoister.specs.ExpressionViews.{plain_each_wanted}

pub wanted_here : (ws : List (Option Ty)) (i : ℕ) (w : Option Ty) → i < length ws → w ≡ get_or ws i w → first_wanted (plain_each_wanted (drop i ws)) ≡ option_map plain_ty w
wanted_here ws i w within is = ap first_wanted (map_from (option_map plain_ty) ws i w within is)

pub wanted_past : (ws : List (Option Ty)) (i : ℕ) → length ws ≤ i → first_wanted (plain_each_wanted (drop i ws)) ≡ None
wanted_past ws i past = ap (λ l. first_wanted (plain_each_wanted l)) (drop_all i ws past)

pub ruleset wanted_laws = (wanted_here, wanted_past)

others_suc : (ws : List (Option Ty)) (i : ℕ) → others_wanted (plain_each_wanted (drop i ws)) ≡ plain_each_wanted (drop (suc i) ws)
others_suc [] zero = refl
others_suc (w ∷ ws) zero = refl
others_suc [] (suc i) = refl
others_suc (w ∷ ws) (suc i) = others_suc ws i

-- behind the one at a place stand those from the next place on
pub others_from : (ws : List (Option Ty)) (i : ℕ) → others_wanted (plain_each_wanted (drop i ws)) ≡ plain_each_wanted (drop (i + 1) ws)
others_from ws i = let next : suc i ≡ i + 1 = omega arith in others_suc ws i ∙ ap (λ n. plain_each_wanted (drop n ws)) next

module _ (leaves : Leaving) where
  abbrev suspends_from : List Expr → ℕ → Bool
  suspends_from es k = exprs_suspend leaves (exprs_of (plain_exprs (drop k es)))

  or_later : (b d : Bool) → d ≡ true → (b || d) ≡ true
  or_later true d is = refl
  or_later false d is = is

  first_from : (es : List Expr) (i : ℕ) (x : Expr) → i < length es → x ≡ get_or es i x → suspends_from es i ≡ (expr_suspends leaves (plain_expr x) || suspends_from es (i + 1))
  unfolding expr_suspends
  first_from es i x within is = ap (exprs_suspend leaves) (exprs_from es i x within is)

  none_past : (es : List Expr) (k : ℕ) → length es ≤ k → suspends_from es k ≡ false
  unfolding expr_suspends
  none_past es k past = ap (exprs_suspend leaves) (exprs_end es k past)

  pub behind_all : (es : List Expr) (k : ℕ) → length es ≤ k → exprs_suspend leaves (exprs_of (plain_exprs (drop k es))) ≡ false
  behind_all es k past = none_past es k past

  -- one that suspends stands behind each place before it
  pub before_one : (es : List Expr) (k i : ℕ) (x : Expr) → k ≤ i → i < length es → x ≡ get_or es i x → expr_suspends leaves (plain_expr x) ≡ true → exprs_suspend leaves (exprs_of (plain_exprs (drop k es))) ≡ true
  unfolding expr_suspends
  before_one [] k i x low within is asks = absurd (omega (arith, within))
  before_one (y ∷ es) zero zero x low within is asks = ap (λ (z : Expr). expr_suspends leaves (plain_expr z) || exprs_suspend leaves (exprs_of (plain_exprs es))) (sym is) ∙ ap (λ b. b || exprs_suspend leaves (exprs_of (plain_exprs es))) asks
  before_one (y ∷ es) zero (suc i) x low within is asks =
      or_later (expr_suspends leaves (plain_expr y)) (exprs_suspend leaves (exprs_of (plain_exprs es))) (before_one es zero i x (omega arith) (omega (arith, within)) is asks)
  before_one (y ∷ es) (suc k) zero x low within is asks = absurd (omega (arith, low))
  before_one (y ∷ es) (suc k) (suc i) x low within is asks = before_one es k i x (omega (arith, low)) (omega (arith, within)) is asks

  -- behind one that doesn't suspend, and behind those after it
  pub behind_more : (es : List Expr) (i n : ℕ) (x : Expr) → i + 1 ≡ n → i < length es → x ≡ get_or es i x → expr_suspends leaves (plain_expr x) ≡ false
      → ((k : ℕ) → n ≤ k → exprs_suspend leaves (exprs_of (plain_exprs (drop k es))) ≡ false) → (k : ℕ) → i ≤ k → exprs_suspend leaves (exprs_of (plain_exprs (drop k es))) ≡ false
  behind_more es i n x next within is stays behind k low = by (eq-or-lt_of_le low) where
    by : (i ≡ k) ⊎ (i < k) → exprs_suspend leaves (exprs_of (plain_exprs (drop k es))) ≡ false
    by (inl same) =
        ap (suspends_from es) (sym same) ∙ first_from es i x within is ∙ ap (λ b. b || suspends_from es (i + 1)) stays ∙ behind (i + 1) (omega (arith, next))
    by (inr more) = behind k (omega (arith, next, more))

-- One type for each expression

pub same_more : (ty : PlainTy) (all made old : List (Option PlainTy)) (es : List Expr) (i : ℕ) (x : Expr) → i < length es → x ≡ get_or es i x → made ≡ old ++ Some ty ∷ []
    → old ++ each_wanted (Some ty) (exprs_of (plain_exprs (drop i es))) ≡ all → made ++ each_wanted (Some ty) (exprs_of (plain_exprs (drop (i + 1) es))) ≡ all
unfolding each_wanted
same_more ty all made old es i x within is longer so_far =
    ap (λ l. l ++ each_wanted (Some ty) (exprs_of (plain_exprs (drop (i + 1) es)))) longer ∙ append_assoc old (Some ty ∷ []) (each_wanted (Some ty) (exprs_of (plain_exprs (drop (i + 1) es))))
    ∙ sym (ap (λ l. old ++ each_wanted (Some ty) l) (exprs_from es i x within is)) ∙ so_far

pub same_done : (ty : PlainTy) (all old : List (Option PlainTy)) (es : List Expr) (i : ℕ) → length es ≤ i → old ++ each_wanted (Some ty) (exprs_of (plain_exprs (drop i es))) ≡ all → old ≡ all
unfolding each_wanted
same_done ty all old es i past so_far = sym (append-nil old) ∙ sym (ap (λ l. old ++ each_wanted (Some ty) l) (exprs_end es i past)) ∙ so_far

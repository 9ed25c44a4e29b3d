-- Evaluating an expression is evaluating its innermost receiver, and then going on along its trailers.
use Rattle.std.proofs.Common.{◌≡◌, ◌≤◌, ◌+◌, ℕ, List, [], ◌∷◌, ◌++◌, Option, Some, None, refl, ap, ◌∙◌, subst, arith}
use Rattle.std.specs.declared.alloc.Global.{Global}
use Rattle.std.specs.declared.boxed.Box.{Box}
use Rattle.py_tree.specs.declared.names.Place.{Place}
use Rattle.py_tree.specs.declared.names.PlacedName.{PlacedName}
use Rattle.py_tree.specs.declared.expr.Expr.{Expr}
use Rattle.py_tree.specs.declared.expr.ExprKind as e
use Rattle.py_tree.specs.PlainExpressions.{PlainExpr, PCall, PIndex, plain_kind, plain_expr, plain_exprs, exprs_of}
use Rattle.py_tree.specs.Bounded.{expr_size}
use Rattle.py_tree.proofs.Views.{plain-Call, plain-Index}
use Rattle.sf_value.specs.declared.value.Value.{Value}
use Rattle.sf_value.specs.declared.Failure.{Failure}
use Rattle.program_meaning.specs.declared.vars.Var.{Var}
use Rattle.program_meaning.specs.World.{Gives, Fell, ◌>>=◌}
use Rattle.program_meaning.specs.Evaluation.{Site, eval}
use Rattle.program_meaning.specs.Trailers.{PlainTrailer, Calling, Indexing, last_trailer, EndsWith, bare, behind, trailer_size, followed, all_followed}

module _ (at : Place) where
  pub trailer-Call : (a : Box Expr Global) (x : PlacedName) (xs : List Expr) → last_trailer (plain_kind (e.Call a x xs) at) ≡ Some (plain_expr a.value, Calling x.name.0 (exprs_of (plain_exprs xs)))
  unfolding last_trailer
  trailer-Call a x xs = ap last_trailer (plain-Call at a x xs)

  pub trailer-Index : (a b : Box Expr Global) → last_trailer (plain_kind (e.Index a b) at) ≡ Some (plain_expr a.value, Indexing (plain_expr b.value))
  unfolding last_trailer
  trailer-Index a b = ap last_trailer (plain-Index at a b)

pub ruleset trailers = (trailer-Call, trailer-Index)

-- the last trailer follows what the receiver gives
Follows : {W : Type 0} → Site W → List Var → W → ℕ → PlainExpr → Option (PlainExpr × PlainTrailer) → Type 0
Follows s vars w n x None = Unit {0}
Follows s vars w n x (Some p) = eval s x vars w n ≡ (eval s p.0 vars w n >>= followed s p.1 vars)

follows : {W : Type 0} (s : Site W) (vars : List Var) (w : W) (n : ℕ) (x : PlainExpr) → Follows s vars w n x (last_trailer x)
unfolding Follows last_trailer followed eval
follows s vars w n (PCall at on m m_at args) = refl
follows s vars w n (PIndex at on index) = refl
follows s vars w n _ = tt

-- and is a part of the expression, beside the receiver
Divides : PlainExpr → Option (PlainExpr × PlainTrailer) → Type 0
Divides x None = Unit {0}
Divides x (Some p) = expr_size x ≡ 1 + expr_size p.0 + trailer_size p.1

divides : (x : PlainExpr) → Divides x (last_trailer x)
unfolding Divides last_trailer expr_size
divides (PCall at on m m_at args) = refl
divides (PIndex at on index) = refl
divides _ = tt

pub trailer_part : (x on : PlainExpr) (t : PlainTrailer) → last_trailer x ≡ Some (on, t) → expr_size x ≡ 1 + expr_size on + trailer_size t
unfolding Divides
trailer_part x on t is = subst (Divides x) is (divides x)

-- the trailers of an expression, one further in
pub further : (x y on : PlainExpr) (t : PlainTrailer) (ts : List PlainTrailer) → EndsWith x ts y → last_trailer y ≡ Some (on, t) → EndsWith x (ts ++ t ∷ []) on
further x y on t [] bare is = behind is bare
further x y on t (u ∷ ts) (behind first ends) is = behind first (further _ y on t ts ends is)

pub all_sizes : List PlainTrailer → ℕ
all_sizes [] = 0
all_sizes (t ∷ ts) = 1 + trailer_size t + all_sizes ts

pub sizes_more : (ts : List PlainTrailer) (t : PlainTrailer) → all_sizes (ts ++ t ∷ []) ≡ all_sizes ts + (1 + trailer_size t)
unfolding all_sizes
sizes_more [] t = omega arith
sizes_more (u ∷ ts) t = let h = sizes_more ts t in omega arith

pub trailers_within : (x y : PlainExpr) (ts : List PlainTrailer) → EndsWith x ts y → all_sizes ts ≤ expr_size x
unfolding all_sizes
trailers_within x y [] bare = omega arith
trailers_within x y (t ∷ ts) (behind {on = on} first ends) = let h = trailers_within on y ts ends in let e = trailer_part x on t first in omega arith

module _ {W : Type 0} (s : Site W) (vars : List Var) where
  -- the law
  pub eval_along : (x y : PlainExpr) (ts : List PlainTrailer) (w : W) (n : ℕ) → EndsWith x ts y → eval s x vars w n ≡ all_followed s ts vars (eval s y vars w n)
  unfolding all_followed Follows
  eval_along x y [] w n bare = refl
  eval_along x y (t ∷ ts) w n (behind {on = on} first ends) =
      (let P : Option (PlainExpr × PlainTrailer) → Type 0 = Follows s vars w n x in subst P first (follows s vars w n x))
      ∙ ap (λ g. g >>= followed s t vars) (eval_along on y ts w n ends)

  -- the innermost trailer comes first
  pub follow_first : (ts : List PlainTrailer) (t : PlainTrailer) (g : Gives W Value) → all_followed s (ts ++ t ∷ []) vars g ≡ all_followed s ts vars (g >>= followed s t vars)
  unfolding all_followed
  follow_first [] t g = refl
  follow_first (u ∷ ts) t g = ap (λ g. g >>= followed s u vars) (follow_first ts t g)

  -- and none follows a failure
  pub follow_fallen : (ts : List PlainTrailer) (f : Failure) (w : W) (n : ℕ) → all_followed s ts vars (Fell f w n) ≡ Fell f w n
  unfolding all_followed
  follow_fallen [] f w n = refl
  follow_fallen (t ∷ ts) f w n = ap (λ g. g >>= followed s t vars) (follow_fallen ts f w n)

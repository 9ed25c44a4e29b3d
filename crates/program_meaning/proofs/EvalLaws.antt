-- What an expression gives, at each variant and at each part of a walk.
use Rattle.std.proofs.Common.{◌≡◌, ◌<◌, ◌≤◌, ◌+◌, ℕ, ℤ, pos, ◌-ℤ◌, Bool, true, false, not, List, [], ◌∷◌, ◌++◌, if◌then◌else◌, drop, get_or, length, ap}
use Rattle.std.specs.declared.alloc.Global.{Global}
use Rattle.std.specs.declared.boxed.Box.{Box}
use Rattle.py_tree.specs.declared.names.Name.{Name}
use Rattle.py_tree.specs.declared.names.Place.{Place}
use Rattle.py_tree.specs.declared.names.PlacedName.{PlacedName}
use Rattle.py_tree.specs.declared.expr.Cmp.{Cmp}
use Rattle.py_tree.specs.declared.expr.Expr.{Expr}
use Rattle.py_tree.specs.declared.expr.Link.{Link}
use Rattle.py_tree.specs.declared.expr.ExprKind as e
use Rattle.py_tree.specs.ExpressionTypes.{function_of}
use Rattle.py_tree.specs.PlainExpressions.{plain_kind, plain_expr, plain_exprs, exprs_of, plain_links, links_of}
use Rattle.py_tree.proofs.ListWalks.{exprs_from, exprs_end, links_from, links_end}
use Rattle.py_tree.proofs.Views.{plain-Int, plain-Bool, plain-Str, plain-Nil, plain-Var, plain-SelfRef, plain-Attr, plain-Call, plain-Apply, plain-Index, plain-List, plain-Neg, plain-Pos, plain-Not, plain-Chain, plain-And, plain-Or, plain-Compare, plain-IsNone, plain-Cond}
use Rattle.sf_value.specs.declared.value.Value.{Value}
use Rattle.sf_value.specs.declared.value.Value.TheVariants as value
use Rattle.program_meaning.specs.declared.vars.Var.{Var}
use Rattle.program_meaning.specs.World.{Got, ◌>>=◌, told, local_value}
use Rattle.program_meaning.specs.Operations.{in_range, weighed, int_of, is_true, is_nil, items_of, element, combined, holds}
use Rattle.program_meaning.specs.Evaluation.{Site, eval, eval_all, linked, each_is, same_truth, applied, entity, key_in, method_of, literal, own_field}

module _ {W : Type 0} (s : Site W) (at : Place) (vars : List Var) (w : W) (n : ℕ) where
  pub eval-Int : (x : ℤ) → eval s (plain_kind (e.Int x) at) vars w n ≡ Got (value.Int x) w n
  unfolding eval
  eval-Int x = ap (λ t. eval s t vars w n) (plain-Int at x)

  pub eval-Bool : (b : Bool) → eval s (plain_kind (e.Bool b) at) vars w n ≡ Got (value.Bool b) w n
  unfolding eval
  eval-Bool b = ap (λ t. eval s t vars w n) (plain-Bool at b)

  pub eval-Str : (x : Name) → eval s (plain_kind (e.Str x) at) vars w n ≡ told (weighed (value.Str (literal s.src x.0))) w n
  unfolding eval
  eval-Str x = ap (λ t. eval s t vars w n) (plain-Str at x)

  pub eval-Nil : eval s (plain_kind e.Nil at) vars w n ≡ Got value.Nil w n
  unfolding eval
  eval-Nil = ap (λ t. eval s t vars w n) (plain-Nil at)

  pub eval-Var : (x : Name) → eval s (plain_kind (e.Var x) at) vars w n ≡ told (weighed (local_value vars x.0)) w n
  unfolding eval
  eval-Var x = ap (λ t. eval s t vars w n) (plain-Var at x)

  pub eval-SelfRef : eval s (plain_kind e.SelfRef at) vars w n ≡ told (weighed (entity s.me)) w n
  unfolding eval
  eval-SelfRef = ap (λ t. eval s t vars w n) (plain-SelfRef at)

  pub eval-Attr : (a : Box Expr Global) (x : PlacedName) → eval s (plain_kind (e.Attr a x) at) vars w n ≡ told (weighed (own_field s x.name.0 w)) w n
  unfolding eval
  eval-Attr a x = ap (λ t. eval s t vars w n) (plain-Attr at a x)

  pub eval-Call : (a : Box Expr Global) (x : PlacedName) (xs : List Expr) → eval s (plain_kind (e.Call a x xs) at) vars w n ≡ (eval s (plain_expr a.value) vars w n >>= λ v w n. eval_all s (exprs_of (plain_exprs xs)) [] vars w n >>= λ vs w n. s.calls.call (key_in v) (method_of s.src (key_in v).0 x.name.0) vs w n)
  unfolding eval
  eval-Call a x xs = ap (λ t. eval s t vars w n) (plain-Call at a x xs)

  pub eval-Apply : (x : Name) (xs : List Expr) → eval s (plain_kind (e.Apply x xs) at) vars w n ≡ (eval_all s (exprs_of (plain_exprs xs)) [] vars w n >>= λ vs w n. applied s (function_of x.0) x.0 vs w n)
  unfolding eval
  eval-Apply x xs = ap (λ t. eval s t vars w n) (plain-Apply at x xs)

  pub eval-Index : (a b : Box Expr Global) → eval s (plain_kind (e.Index a b) at) vars w n ≡ (eval s (plain_expr a.value) vars w n >>= λ v w n. eval s (plain_expr b.value) vars w n >>= λ i w n. told (element (items_of v) (int_of i)) w n)
  unfolding eval
  eval-Index a b = ap (λ t. eval s t vars w n) (plain-Index at a b)

  pub eval-List : (xs : List Expr) → eval s (plain_kind (e.List xs) at) vars w n ≡ (eval_all s (exprs_of (plain_exprs xs)) [] vars w n >>= λ vs w n. told (weighed (value.List vs)) w n)
  unfolding eval
  eval-List xs = ap (λ t. eval s t vars w n) (plain-List at xs)

  pub eval-Neg : (a : Box Expr Global) → eval s (plain_kind (e.Neg a) at) vars w n ≡ (eval s (plain_expr a.value) vars w n >>= λ v w n. told (in_range (pos 0 -ℤ int_of v)) w n)
  unfolding eval
  eval-Neg a = ap (λ t. eval s t vars w n) (plain-Neg at a)

  pub eval-Pos : (a : Box Expr Global) → eval s (plain_kind (e.Pos a) at) vars w n ≡ (eval s (plain_expr a.value) vars w n >>= λ v w n. Got (value.Int (int_of v)) w n)
  unfolding eval
  eval-Pos a = ap (λ t. eval s t vars w n) (plain-Pos at a)

  pub eval-Not : (a : Box Expr Global) → eval s (plain_kind (e.Not a) at) vars w n ≡ (eval s (plain_expr a.value) vars w n >>= λ v w n. Got (value.Bool (not (is_true v))) w n)
  unfolding eval
  eval-Not a = ap (λ t. eval s t vars w n) (plain-Not at a)

  pub eval-Chain : (a : Box Expr Global) (ls : List Link) → eval s (plain_kind (e.Chain a ls) at) vars w n ≡ (eval s (plain_expr a.value) vars w n >>= λ v w n. linked s (links_of (plain_links ls)) v vars w n)
  unfolding eval
  eval-Chain a ls = ap (λ t. eval s t vars w n) (plain-Chain at a ls)

  pub eval-And : (xs : List Expr) → eval s (plain_kind (e.And xs) at) vars w n ≡ each_is s true (exprs_of (plain_exprs xs)) vars w n
  unfolding eval
  eval-And xs = ap (λ t. eval s t vars w n) (plain-And at xs)

  pub eval-Or : (xs : List Expr) → eval s (plain_kind (e.Or xs) at) vars w n ≡ each_is s false (exprs_of (plain_exprs xs)) vars w n
  unfolding eval
  eval-Or xs = ap (λ t. eval s t vars w n) (plain-Or at xs)

  pub eval-Compare : (op : Cmp) (op_at : Place) (a b : Box Expr Global) → eval s (plain_kind (e.Compare op op_at a b) at) vars w n ≡ (eval s (plain_expr a.value) vars w n >>= λ x w n. eval s (plain_expr b.value) vars w n >>= λ y w n. Got (value.Bool (holds op x y)) w n)
  unfolding eval
  eval-Compare op op_at a b = ap (λ t. eval s t vars w n) (plain-Compare at op op_at a b)

  pub eval-IsNone : (a : Box Expr Global) (positive : Bool) → eval s (plain_kind (e.IsNone a positive) at) vars w n ≡ (eval s (plain_expr a.value) vars w n >>= λ v w n. Got (value.Bool (if positive then is_nil v else not (is_nil v))) w n)
  unfolding eval
  eval-IsNone a positive = ap (λ t. eval s t vars w n) (plain-IsNone at a positive)

  pub eval-Cond : (a b d : Box Expr Global) → eval s (plain_kind (e.Cond a b d) at) vars w n ≡ (eval s (plain_expr a.value) vars w n >>= λ v w n. if is_true v then eval s (plain_expr b.value) vars w n else eval s (plain_expr d.value) vars w n)
  unfolding eval
  eval-Cond a b d = ap (λ t. eval s t vars w n) (plain-Cond at a b d)

pub ruleset eval_is = (eval-Int, eval-Bool, eval-Str, eval-Nil, eval-Var, eval-SelfRef, eval-Attr, eval-Call, eval-Apply, eval-Index, eval-List, eval-Neg, eval-Pos, eval-Not, eval-Chain, eval-And, eval-Or, eval-Compare, eval-IsNone, eval-Cond)

module _ {W : Type 0} (s : Site W) (vars : List Var) (w : W) (n : ℕ) where
  pub all_next : (es : List Expr) (i : ℕ) (x : Expr) (vs : List Value) → i < length es → x ≡ get_or es i x
      → eval_all s (exprs_of (plain_exprs (drop i es))) vs vars w n ≡ (eval s (plain_expr x) vars w n >>= λ v w n. eval_all s (exprs_of (plain_exprs (drop (i + 1) es))) (vs ++ v ∷ []) vars w n)
  unfolding eval_all
  all_next es i x vs lt is = ap (λ t. eval_all s t vs vars w n) (exprs_from es i x lt is)

  pub all_end : (es : List Expr) (i : ℕ) (vs : List Value) → length es ≤ i → eval_all s (exprs_of (plain_exprs (drop i es))) vs vars w n ≡ Got vs w n
  unfolding eval_all
  all_end es i vs le = ap (λ t. eval_all s t vs vars w n) (exprs_end es i le)

  pub link_next : (ls : List Link) (i : ℕ) (l : Link) (v : Value) → i < length ls → l ≡ get_or ls i l
      → linked s (links_of (plain_links (drop i ls))) v vars w n ≡ (eval s (plain_expr l.right) vars w n >>= λ x w n. told (combined l.op v x) w n >>= λ both w n. linked s (links_of (plain_links (drop (i + 1) ls))) both vars w n)
  unfolding linked
  link_next ls i l v lt is = ap (λ t. linked s t v vars w n) (links_from ls i l lt is)

  pub link_end : (ls : List Link) (i : ℕ) (v : Value) → length ls ≤ i → linked s (links_of (plain_links (drop i ls))) v vars w n ≡ Got v w n
  unfolding linked
  link_end ls i v le = ap (λ t. linked s t v vars w n) (links_end ls i le)

  pub each_next : (truth : Bool) (es : List Expr) (i : ℕ) (x : Expr) → i < length es → x ≡ get_or es i x
      → each_is s truth (exprs_of (plain_exprs (drop i es))) vars w n ≡ (eval s (plain_expr x) vars w n >>= λ v w n. if same_truth (is_true v) truth then each_is s truth (exprs_of (plain_exprs (drop (i + 1) es))) vars w n else Got (value.Bool (not truth)) w n)
  unfolding each_is
  each_next truth es i x lt is = ap (λ t. each_is s truth t vars w n) (exprs_from es i x lt is)

  pub each_end : (truth : Bool) (es : List Expr) (i : ℕ) → length es ≤ i → each_is s truth (exprs_of (plain_exprs (drop i es))) vars w n ≡ Got (value.Bool truth) w n
  unfolding each_is
  each_end truth es i le = ap (λ t. each_is s truth t vars w n) (exprs_end es i le)

-- What the rules of types say at each kind of expression, one equation each, and what a test shows of names. The place of a
-- call of a method, of an index and of a conditional is told by none of the rules: that of its first part stands for it.
use Rattle.std.proofs.Common.{◌≡◌, ℤ, suc, arith, Bool, true, false, not, List, [], ◌∷◌, length, Option, None, Ok, refl, ap, ◌∙◌}
use Rattle.std.specs.Prelude.{option_and_then, ◌+◌, if◌then◌else◌}
use Rattle.std.specs.declared.alloc.Global.{Global}
use Rattle.std.specs.declared.boxed.Box.{Box}
use Rattle.py_tree.specs.declared.names.Name.{Name}
use Rattle.py_tree.specs.declared.names.Place.{Place}
use Rattle.py_tree.specs.declared.names.PlacedName.{PlacedName}
use Rattle.py_tree.specs.declared.rule.Rule.TheVariants.{RemoteField, UnknownField}
use Rattle.py_tree.specs.declared.expr.Cmp.{Cmp}
use Rattle.py_tree.specs.declared.expr.Expr.{Expr}
use Rattle.py_tree.specs.declared.expr.ExprKind.{ExprKind}
use Rattle.py_tree.specs.declared.expr.Link.{Link}
use Rattle.py_tree.specs.declared.expr.ExprKind as e
use Rattle.py_tree.specs.PlainTypes.{PlainTy, TInt, TBool, TStr, TNil}
use Rattle.py_tree.specs.PlainExpressions.{PCall, PApply, PIndex, PCond, plain_kind, plain_expr, plain_exprs, exprs_of, plain_links, links_of}
use Rattle.py_tree.specs.ClassRules.{PlainTable, is_self}
use Rattle.py_tree.specs.FlowEnvironment.{PlainEnv, shown, shown_by_each, says_not_none, variable_in}
use Rattle.py_tree.specs.ExpressionTypes.{type_of, type_of_name, self_ty, field_of, refuse_if, needs, with_found, operand, is_int, as_condition, list_of, element_wanted, linked, conditions, comparison, place_of, count_of}
use Rattle.py_tree.proofs.Views.{plain-Int, plain-Bool, plain-Str, plain-Nil, plain-Var, plain-SelfRef, plain-Attr, plain-Call, plain-Apply, plain-Index, plain-List, plain-Neg, plain-Pos, plain-Not, plain-Chain, plain-And, plain-Or, plain-Compare, plain-IsNone, plain-Cond}

pub place-kind : (k : ExprKind) (at : Place) → place_of (plain_kind k at) ≡ at
unfolding plain_kind
place-kind (e.Int n) at = refl
place-kind (e.Bool b) at = refl
place-kind (e.Str x) at = refl
place-kind e.Nil at = refl
place-kind (e.Var x) at = refl
place-kind e.SelfRef at = refl
place-kind (e.Attr' p a k x) at = refl
place-kind (e.Call' p a k x s row) at = refl
place-kind (e.Apply' x s row) at = refl
place-kind (e.Index' p a k q b l) at = refl
place-kind (e.List' s row) at = refl
place-kind (e.Neg' p a k) at = refl
place-kind (e.Pos' p a k) at = refl
place-kind (e.Not' p a k) at = refl
place-kind (e.Chain' p a k s row) at = refl
place-kind (e.And' s row) at = refl
place-kind (e.Or' s row) at = refl
place-kind (e.Compare' op op_at p a k q b l) at = refl
place-kind (e.IsNone' p a k positive) at = refl
place-kind (e.Cond' p a k q b l r c m) at = refl

pub place-expr : (x : Expr) → place_of (plain_expr x) ≡ x.place
place-expr x = place-kind x.kind x.place

pub count-exprs : (es : List Expr) → count_of (exprs_of (plain_exprs es)) ≡ length es
count-exprs [] = refl
count-exprs (x ∷ es) = let more : 1 + length es ≡ suc (length es) = omega arith in ap (λ n. 1 + n) (count-exprs es) ∙ more

module _ (at : Place) (tables : List PlainTable) (env : PlainEnv) (wanted : Option PlainTy) where
  pub type-Int : (n : ℤ) → type_of tables env wanted (plain_kind (e.Int n) at) ≡ Ok TInt
  unfolding type_of
  type-Int n = ap (type_of tables env wanted) (plain-Int at n)

  pub type-Bool : (b : Bool) → type_of tables env wanted (plain_kind (e.Bool b) at) ≡ Ok TBool
  unfolding type_of
  type-Bool b = ap (type_of tables env wanted) (plain-Bool at b)

  pub type-Str : (x : Name) → type_of tables env wanted (plain_kind (e.Str x) at) ≡ Ok TStr
  unfolding type_of
  type-Str x = ap (type_of tables env wanted) (plain-Str at x)

  pub type-Nil : type_of tables env wanted (plain_kind e.Nil at) ≡ Ok TNil
  unfolding type_of
  type-Nil = ap (type_of tables env wanted) (plain-Nil at)

  pub type-Var : (x : Name) → type_of tables env wanted (plain_kind (e.Var x) at) ≡ type_of_name env.locals at x.0
  unfolding type_of
  type-Var x = ap (type_of tables env wanted) (plain-Var at x)

  pub type-SelfRef : type_of tables env wanted (plain_kind e.SelfRef at) ≡ Ok (self_ty tables env.class)
  unfolding type_of
  type-SelfRef = ap (type_of tables env wanted) (plain-SelfRef at)

  pub type-Attr : (a : Box Expr Global) (x : PlacedName) → type_of tables env wanted (plain_kind (e.Attr a x) at) ≡ refuse_if (not (is_self (plain_expr a.value))) RemoteField x.place (needs (field_of tables env.class x.name.0) UnknownField x.place (λ t. Ok t))
  unfolding type_of
  type-Attr a x = ap (type_of tables env wanted) (plain-Attr at a x)

  pub type-Call : (a : Box Expr Global) (x : PlacedName) (es : List Expr) → type_of tables env wanted (plain_kind (e.Call a x es) at) ≡ type_of tables env None (PCall a.value.place (plain_expr a.value) x.name.0 x.place (exprs_of (plain_exprs es)))
  unfolding type_of
  type-Call a x es = ap (type_of tables env wanted) (plain-Call at a x es)

  pub type-Apply : (x : Name) (es : List Expr) → type_of tables env wanted (plain_kind (e.Apply x es) at) ≡ type_of tables env None (PApply at x.0 (exprs_of (plain_exprs es)))
  unfolding type_of
  type-Apply x es = ap (type_of tables env wanted) (plain-Apply at x es)

  pub type-Index : (a b : Box Expr Global) → type_of tables env wanted (plain_kind (e.Index a b) at) ≡ type_of tables env None (PIndex a.value.place (plain_expr a.value) (plain_expr b.value))
  unfolding type_of
  type-Index a b = ap (type_of tables env wanted) (plain-Index at a b)

  pub type-List : (es : List Expr) → type_of tables env wanted (plain_kind (e.List es) at) ≡ list_of tables env (option_and_then element_wanted wanted) at (exprs_of (plain_exprs es))
  unfolding type_of
  type-List es = ap (type_of tables env wanted) (plain-List at es)

  pub type-Neg : (a : Box Expr Global) → type_of tables env wanted (plain_kind (e.Neg a) at) ≡ with_found (type_of tables env None (plain_expr a.value)) (λ t. operand t is_int a.value.place (Ok TInt))
  unfolding type_of
  type-Neg a = ap (type_of tables env wanted) (plain-Neg at a) ∙ ap (λ p. with_found (type_of tables env None (plain_expr a.value)) (λ t. operand t is_int p (Ok TInt))) (place-expr a.value)

  pub type-Pos : (a : Box Expr Global) → type_of tables env wanted (plain_kind (e.Pos a) at) ≡ with_found (type_of tables env None (plain_expr a.value)) (λ t. operand t is_int a.value.place (Ok TInt))
  unfolding type_of
  type-Pos a = ap (type_of tables env wanted) (plain-Pos at a) ∙ ap (λ p. with_found (type_of tables env None (plain_expr a.value)) (λ t. operand t is_int p (Ok TInt))) (place-expr a.value)

  pub type-Not : (a : Box Expr Global) → type_of tables env wanted (plain_kind (e.Not a) at) ≡ as_condition a.value.place (type_of tables env None (plain_expr a.value))
  unfolding type_of
  type-Not a = ap (type_of tables env wanted) (plain-Not at a) ∙ ap (λ p. as_condition p (type_of tables env None (plain_expr a.value))) (place-expr a.value)

  pub type-Chain : (a : Box Expr Global) (ls : List Link) → type_of tables env wanted (plain_kind (e.Chain a ls) at) ≡ with_found (type_of tables env None (plain_expr a.value)) (λ t. linked tables env t (links_of (plain_links ls)))
  unfolding type_of
  type-Chain a ls = ap (type_of tables env wanted) (plain-Chain at a ls)

  pub type-And : (es : List Expr) → type_of tables env wanted (plain_kind (e.And es) at) ≡ conditions tables env true (exprs_of (plain_exprs es))
  unfolding type_of
  type-And es = ap (type_of tables env wanted) (plain-And at es)

  pub type-Or : (es : List Expr) → type_of tables env wanted (plain_kind (e.Or es) at) ≡ conditions tables env false (exprs_of (plain_exprs es))
  unfolding type_of
  type-Or es = ap (type_of tables env wanted) (plain-Or at es)

  pub type-Compare : (op : Cmp) (op_at : Place) (a b : Box Expr Global) → type_of tables env wanted (plain_kind (e.Compare op op_at a b) at) ≡ with_found (type_of tables env None (plain_expr a.value)) (λ s. with_found (type_of tables env None (plain_expr b.value)) (λ t. comparison op op_at b.value.place s t))
  unfolding type_of
  type-Compare op op_at a b = ap (type_of tables env wanted) (plain-Compare at op op_at a b) ∙ ap (λ p. with_found (type_of tables env None (plain_expr a.value)) (λ s. with_found (type_of tables env None (plain_expr b.value)) (λ t. comparison op op_at p s t))) (place-expr b.value)

  pub type-IsNone : (a : Box Expr Global) (positive : Bool) → type_of tables env wanted (plain_kind (e.IsNone a positive) at) ≡ with_found (type_of tables env None (plain_expr a.value)) (λ t. Ok TBool)
  unfolding type_of
  type-IsNone a positive = ap (type_of tables env wanted) (plain-IsNone at a positive)

  pub type-Cond : (a b c : Box Expr Global) → type_of tables env wanted (plain_kind (e.Cond a b c) at) ≡ type_of tables env wanted (PCond a.value.place (plain_expr a.value) (plain_expr b.value) (plain_expr c.value))
  unfolding type_of
  type-Cond a b c = ap (type_of tables env wanted) (plain-Cond at a b c)

pub ruleset type_rules = (type-Int, type-Bool, type-Str, type-Nil, type-Var, type-SelfRef, type-Attr, type-Call, type-Apply, type-Index, type-List, type-Neg, type-Pos, type-Not, type-Chain, type-And, type-Or, type-Compare, type-IsNone, type-Cond)

module _ (at : Place) (truth : Bool) where
  pub shown-Int : (n : ℤ) → shown truth (plain_kind (e.Int n) at) ≡ []
  unfolding shown
  shown-Int n = ap (shown truth) (plain-Int at n)

  pub shown-Bool : (b : Bool) → shown truth (plain_kind (e.Bool b) at) ≡ []
  unfolding shown
  shown-Bool b = ap (shown truth) (plain-Bool at b)

  pub shown-Str : (x : Name) → shown truth (plain_kind (e.Str x) at) ≡ []
  unfolding shown
  shown-Str x = ap (shown truth) (plain-Str at x)

  pub shown-Nil : shown truth (plain_kind e.Nil at) ≡ []
  unfolding shown
  shown-Nil = ap (shown truth) (plain-Nil at)

  pub shown-Var : (x : Name) → shown truth (plain_kind (e.Var x) at) ≡ []
  unfolding shown
  shown-Var x = ap (shown truth) (plain-Var at x)

  pub shown-SelfRef : shown truth (plain_kind e.SelfRef at) ≡ []
  unfolding shown
  shown-SelfRef = ap (shown truth) (plain-SelfRef at)

  pub shown-Attr : (a : Box Expr Global) (x : PlacedName) → shown truth (plain_kind (e.Attr a x) at) ≡ []
  unfolding shown
  shown-Attr a x = ap (shown truth) (plain-Attr at a x)

  pub shown-Call : (a : Box Expr Global) (x : PlacedName) (es : List Expr) → shown truth (plain_kind (e.Call a x es) at) ≡ []
  unfolding shown
  shown-Call a x es = ap (shown truth) (plain-Call at a x es)

  pub shown-Apply : (x : Name) (es : List Expr) → shown truth (plain_kind (e.Apply x es) at) ≡ []
  unfolding shown
  shown-Apply x es = ap (shown truth) (plain-Apply at x es)

  pub shown-Index : (a b : Box Expr Global) → shown truth (plain_kind (e.Index a b) at) ≡ []
  unfolding shown
  shown-Index a b = ap (shown truth) (plain-Index at a b)

  pub shown-List : (es : List Expr) → shown truth (plain_kind (e.List es) at) ≡ []
  unfolding shown
  shown-List es = ap (shown truth) (plain-List at es)

  pub shown-Neg : (a : Box Expr Global) → shown truth (plain_kind (e.Neg a) at) ≡ []
  unfolding shown
  shown-Neg a = ap (shown truth) (plain-Neg at a)

  pub shown-Pos : (a : Box Expr Global) → shown truth (plain_kind (e.Pos a) at) ≡ []
  unfolding shown
  shown-Pos a = ap (shown truth) (plain-Pos at a)

  pub shown-Not : (a : Box Expr Global) → shown truth (plain_kind (e.Not a) at) ≡ shown (not truth) (plain_expr a.value)
  unfolding shown
  shown-Not a = ap (shown truth) (plain-Not at a)

  pub shown-Chain : (a : Box Expr Global) (ls : List Link) → shown truth (plain_kind (e.Chain a ls) at) ≡ []
  unfolding shown
  shown-Chain a ls = ap (shown truth) (plain-Chain at a ls)

  pub shown-And : (es : List Expr) → shown truth (plain_kind (e.And es) at) ≡ (if truth then shown_by_each truth (exprs_of (plain_exprs es)) else [])
  unfolding shown
  shown-And es = ap (shown truth) (plain-And at es)

  pub shown-Or : (es : List Expr) → shown truth (plain_kind (e.Or es) at) ≡ (if truth then [] else shown_by_each truth (exprs_of (plain_exprs es)))
  unfolding shown
  shown-Or es = ap (shown truth) (plain-Or at es)

  pub shown-Compare : (op : Cmp) (op_at : Place) (a b : Box Expr Global) → shown truth (plain_kind (e.Compare op op_at a b) at) ≡ []
  unfolding shown
  shown-Compare op op_at a b = ap (shown truth) (plain-Compare at op op_at a b)

  pub shown-IsNone : (a : Box Expr Global) (positive : Bool) → shown truth (plain_kind (e.IsNone a positive) at) ≡ (if says_not_none truth positive then variable_in (plain_expr a.value) else [])
  unfolding shown
  shown-IsNone a positive = ap (shown truth) (plain-IsNone at a positive)

  pub shown-Cond : (a b c : Box Expr Global) → shown truth (plain_kind (e.Cond a b c) at) ≡ []
  unfolding shown
  shown-Cond a b c = ap (shown truth) (plain-Cond at a b c)

pub ruleset shown_rules = (shown-Int, shown-Bool, shown-Str, shown-Nil, shown-Var, shown-SelfRef, shown-Attr, shown-Call, shown-Apply, shown-Index, shown-List, shown-Neg, shown-Pos, shown-Not, shown-Chain, shown-And, shown-Or, shown-Compare, shown-IsNone, shown-Cond)

pub ruleset place_rules = (place-kind, place-expr)

-- Expressions as plain trees, without pointers. Each has the place of its first token.
use Rattle.std.specs.Prelude.{ℕ, ℤ, Bool, List, [], ◌∷◌, map}
use Rattle.py_tree.specs.declared.names.Place.{Place}
use Rattle.py_tree.specs.declared.expr.BinOp.{BinOp}
use Rattle.py_tree.specs.declared.expr.Cmp.{Cmp}
use Rattle.py_tree.specs.declared.expr.Expr.{Expr}
use Rattle.py_tree.specs.declared.expr.Link.{Link}
use Rattle.py_tree.specs.declared.expr.ExprKind.{ExprKind, Row_of-Expr, end_of-Expr, more_of-Expr, Row_of-Link, end_of-Link, more_of-Link}
use Rattle.py_tree.specs.declared.expr.ExprKind as e

mutual
  pub data PlainExpr : Type 0 where
    PInt : (at : Place) → (n : ℤ) → PlainExpr
    PBool : (at : Place) → (b : Bool) → PlainExpr
    PStr : (at : Place) → (text : ℕ) → PlainExpr
    PNil : (at : Place) → PlainExpr
    PVar : (at : Place) → (name : ℕ) → PlainExpr
    PSelf : (at : Place) → PlainExpr
    PAttr : (at : Place) → (on : PlainExpr) → (name : ℕ) → (name_at : Place) → PlainExpr
    PCall : (at : Place) → (on : PlainExpr) → (name : ℕ) → (name_at : Place) → (args : PlainExprs) → PlainExpr
    PApply : (at : Place) → (name : ℕ) → (args : PlainExprs) → PlainExpr
    PIndex : (at : Place) → (on index : PlainExpr) → PlainExpr
    PList : (at : Place) → (items : PlainExprs) → PlainExpr
    PNeg : (at : Place) → (a : PlainExpr) → PlainExpr
    PPos : (at : Place) → (a : PlainExpr) → PlainExpr
    PNot : (at : Place) → (a : PlainExpr) → PlainExpr
    PChain : (at : Place) → (first : PlainExpr) → (links : PlainLinks) → PlainExpr
    PAnd : (at : Place) → (items : PlainExprs) → PlainExpr
    POr : (at : Place) → (items : PlainExprs) → PlainExpr
    PCompare : (at : Place) → (op : Cmp) → (op_at : Place) → (left right : PlainExpr) → PlainExpr
    PIsNone : (at : Place) → (a : PlainExpr) → (positive : Bool) → PlainExpr
    PCond : (at : Place) → (test yes no : PlainExpr) → PlainExpr

  pub data PlainExprs : Type 0 where
    PNoExpr : PlainExprs
    PExpr : (x : PlainExpr) → (xs : PlainExprs) → PlainExprs

  -- an operator with its place and its right side
  pub data PlainLink : Type 0 where
    PLink : (op : BinOp) → (at : Place) → (right : PlainExpr) → PlainLink

  pub data PlainLinks : Type 0 where
    PNoLink : PlainLinks
    PMoreLinks : (l : PlainLink) → (ls : PlainLinks) → PlainLinks

unfoldable mutual
  pub plain_kind : ExprKind → Place → PlainExpr
  plain_kind (e.Int n) at = PInt at n
  plain_kind (e.Bool b) at = PBool at b
  plain_kind (e.Str x) at = PStr at x.0
  plain_kind e.Nil at = PNil at
  plain_kind (e.Var x) at = PVar at x.0
  plain_kind e.SelfRef at = PSelf at
  plain_kind (e.Attr' p a k x) at = PAttr at (plain_kind k a) x.name.0 x.place
  plain_kind (e.Call' p a k x s row) at = PCall at (plain_kind k a) x.name.0 x.place (plain_expr_row row)
  plain_kind (e.Apply' x s row) at = PApply at x.0 (plain_expr_row row)
  plain_kind (e.Index' p a k q b l) at = PIndex at (plain_kind k a) (plain_kind l b)
  plain_kind (e.List' s row) at = PList at (plain_expr_row row)
  plain_kind (e.Neg' p a k) at = PNeg at (plain_kind k a)
  plain_kind (e.Pos' p a k) at = PPos at (plain_kind k a)
  plain_kind (e.Not' p a k) at = PNot at (plain_kind k a)
  plain_kind (e.Chain' p a k s row) at = PChain at (plain_kind k a) (plain_link_row row)
  plain_kind (e.And' s row) at = PAnd at (plain_expr_row row)
  plain_kind (e.Or' s row) at = POr at (plain_expr_row row)
  plain_kind (e.Compare' op op_at p a k q b l) at = PCompare at op op_at (plain_kind k a) (plain_kind l b)
  plain_kind (e.IsNone' p a k positive) at = PIsNone at (plain_kind k a) positive
  plain_kind (e.Cond' p a k q b l r c m) at = PCond at (plain_kind k a) (plain_kind l b) (plain_kind m c)

  pub plain_expr_row : {n : _} → Row_of-Expr n → PlainExprs
  plain_expr_row end_of-Expr = PNoExpr
  plain_expr_row (more_of-Expr at k row) = PExpr (plain_kind k at) (plain_expr_row row)

  pub plain_link_row : {n : _} → Row_of-Link n → PlainLinks
  plain_link_row end_of-Link = PNoLink
  plain_link_row (more_of-Link op at b k row) = PMoreLinks (PLink op at (plain_kind k b)) (plain_link_row row)

abbrev pub plain_expr : Expr → PlainExpr
plain_expr x = plain_kind x.kind x.place

abbrev pub plain_link : Link → PlainLink
plain_link l = PLink l.op l.place (plain_expr l.right)

abbrev pub plain_exprs : List Expr → List PlainExpr
plain_exprs = map plain_expr

abbrev pub plain_links : List Link → List PlainLink
plain_links = map plain_link

-- a list of trees as a part of a tree
abbrev pub exprs_of : List PlainExpr → PlainExprs
exprs_of [] = PNoExpr
exprs_of (x ∷ xs) = PExpr x (exprs_of xs)

abbrev pub links_of : List PlainLink → PlainLinks
links_of [] = PNoLink
links_of (l ∷ ls) = PMoreLinks l (links_of ls)

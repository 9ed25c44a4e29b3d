-- An expression of a kind, as a plain one over its parts.
use Rattle.std.proofs.Common.{◌≡◌, Bool, List, sym, ap, ◌∙◌}
use Rattle.std.specs.declared.alloc.Global.{Global}
use Rattle.std.specs.declared.boxed.Box.{Box}
use Rattle.py_tree.specs.declared.names.Name.{Name}
use Rattle.py_tree.specs.declared.names.Place.{Place}
use Rattle.py_tree.specs.declared.names.PlacedName.{PlacedName}
use Rattle.py_tree.specs.declared.expr.Cmp.{Cmp}
use Rattle.py_tree.specs.declared.expr.Expr.{Expr}
use Rattle.py_tree.specs.declared.expr.Link.{Link}
use Rattle.py_tree.specs.declared.expr.ExprKind as e
use Rattle.py_tree.specs.PlainExpressions.{PCall, PApply, PIndex, PList, PNeg, PPos, PNot, PChain, PAnd, POr, PCompare, PIsNone, PCond, plain_kind, plain_expr, plain_exprs, exprs_of, plain_links, links_of}
use Rattle.py_tree.proofs.Views.{plain-Call, plain-Apply, plain-Index, plain-List, plain-Neg, plain-Pos, plain-Not, plain-Chain, plain-And, plain-Or, plain-Compare, plain-IsNone, plain-Cond}

module _ (x : Expr) where
  pub is-Neg : (a : Box Expr Global) (a_read : Expr) → x.kind ≡ e.Neg a → a_read ≡ a.value → plain_expr x ≡ PNeg x.place (plain_expr a_read)
  is-Neg a a_read is a_is = ap (λ k. plain_kind k x.place) is ∙ plain-Neg x.place a ∙ (λ j. PNeg x.place (plain_expr (sym a_is j)))

  pub is-Pos : (a : Box Expr Global) (a_read : Expr) → x.kind ≡ e.Pos a → a_read ≡ a.value → plain_expr x ≡ PPos x.place (plain_expr a_read)
  is-Pos a a_read is a_is = ap (λ k. plain_kind k x.place) is ∙ plain-Pos x.place a ∙ (λ j. PPos x.place (plain_expr (sym a_is j)))

  pub is-Not : (a : Box Expr Global) (a_read : Expr) → x.kind ≡ e.Not a → a_read ≡ a.value → plain_expr x ≡ PNot x.place (plain_expr a_read)
  is-Not a a_read is a_is = ap (λ k. plain_kind k x.place) is ∙ plain-Not x.place a ∙ (λ j. PNot x.place (plain_expr (sym a_is j)))

  pub is-IsNone : (positive : Bool) (a : Box Expr Global) (a_read : Expr) → x.kind ≡ e.IsNone a positive → a_read ≡ a.value → plain_expr x ≡ PIsNone x.place (plain_expr a_read) positive
  is-IsNone positive a a_read is a_is = ap (λ k. plain_kind k x.place) is ∙ plain-IsNone x.place a positive ∙ (λ j. PIsNone x.place (plain_expr (sym a_is j)) positive)

  pub is-Index : (a : Box Expr Global) (b : Box Expr Global) (a_read : Expr) (b_read : Expr) → x.kind ≡ e.Index a b → a_read ≡ a.value → b_read ≡ b.value → plain_expr x ≡ PIndex x.place (plain_expr a_read) (plain_expr b_read)
  is-Index a b a_read b_read is a_is b_is = ap (λ k. plain_kind k x.place) is ∙ plain-Index x.place a b ∙ (λ j. PIndex x.place (plain_expr (sym a_is j)) (plain_expr (sym b_is j)))

  pub is-Compare : (op : Cmp) (op_at : Place) (a : Box Expr Global) (b : Box Expr Global) (a_read : Expr) (b_read : Expr) → x.kind ≡ e.Compare op op_at a b → a_read ≡ a.value → b_read ≡ b.value → plain_expr x ≡ PCompare x.place op op_at (plain_expr a_read) (plain_expr b_read)
  is-Compare op op_at a b a_read b_read is a_is b_is = ap (λ k. plain_kind k x.place) is ∙ plain-Compare x.place op op_at a b ∙ (λ j. PCompare x.place op op_at (plain_expr (sym a_is j)) (plain_expr (sym b_is j)))

  pub is-Cond : (a : Box Expr Global) (b : Box Expr Global) (d : Box Expr Global) (a_read : Expr) (b_read : Expr) (d_read : Expr) → x.kind ≡ e.Cond a b d → a_read ≡ a.value → b_read ≡ b.value → d_read ≡ d.value → plain_expr x ≡ PCond x.place (plain_expr a_read) (plain_expr b_read) (plain_expr d_read)
  is-Cond a b d a_read b_read d_read is a_is b_is d_is = ap (λ k. plain_kind k x.place) is ∙ plain-Cond x.place a b d ∙ (λ j. PCond x.place (plain_expr (sym a_is j)) (plain_expr (sym b_is j)) (plain_expr (sym d_is j)))

  pub is-List : (es : List Expr) → x.kind ≡ e.List es → plain_expr x ≡ PList x.place (exprs_of (plain_exprs es))
  is-List es is = ap (λ k. plain_kind k x.place) is ∙ plain-List x.place es

  pub is-And : (es : List Expr) → x.kind ≡ e.And es → plain_expr x ≡ PAnd x.place (exprs_of (plain_exprs es))
  is-And es is = ap (λ k. plain_kind k x.place) is ∙ plain-And x.place es

  pub is-Or : (es : List Expr) → x.kind ≡ e.Or es → plain_expr x ≡ POr x.place (exprs_of (plain_exprs es))
  is-Or es is = ap (λ k. plain_kind k x.place) is ∙ plain-Or x.place es

  pub is-Apply : (name : Name) (es : List Expr) → x.kind ≡ e.Apply name es → plain_expr x ≡ PApply x.place name.0 (exprs_of (plain_exprs es))
  is-Apply name es is = ap (λ k. plain_kind k x.place) is ∙ plain-Apply x.place name es

  pub is-Call : (name : PlacedName) (es : List Expr) (a : Box Expr Global) (a_read : Expr) → x.kind ≡ e.Call a name es → a_read ≡ a.value → plain_expr x ≡ PCall x.place (plain_expr a_read) name.name.0 name.place (exprs_of (plain_exprs es))
  is-Call name es a a_read is a_is = ap (λ k. plain_kind k x.place) is ∙ plain-Call x.place a name es ∙ (λ j. PCall x.place (plain_expr (sym a_is j)) name.name.0 name.place (exprs_of (plain_exprs es)))

  pub is-Chain : (ls : List Link) (a : Box Expr Global) (a_read : Expr) → x.kind ≡ e.Chain a ls → a_read ≡ a.value → plain_expr x ≡ PChain x.place (plain_expr a_read) (links_of (plain_links ls))
  is-Chain ls a a_read is a_is = ap (λ k. plain_kind k x.place) is ∙ plain-Chain x.place a ls ∙ (λ j. PChain x.place (plain_expr (sym a_is j)) (links_of (plain_links ls)))

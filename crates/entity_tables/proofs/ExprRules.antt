-- What the rules of `__init__` say at each kind of expression, one equation each.
use Rattle.std.proofs.Common.{◌≡◌, ℕ, ℤ, Bool, List, true, false, not, ◌||◌, if◌then◌else◌, refl, ap, ◌∙◌, ◌+◌, ◌<◌, ◌≤◌, length, drop, get_or}
use Rattle.std.specs.declared.alloc.Global.{Global}
use Rattle.std.specs.declared.boxed.Box.{Box}
use Rattle.py_tree.specs.declared.names.Name.{Name}
use Rattle.py_tree.specs.declared.names.Place.{Place}
use Rattle.py_tree.specs.declared.names.PlacedName.{PlacedName}
use Rattle.py_tree.specs.declared.expr.Cmp.{Cmp}
use Rattle.py_tree.specs.declared.expr.Expr.{Expr}
use Rattle.py_tree.specs.declared.expr.Link.{Link}
use Rattle.py_tree.specs.declared.expr.ExprKind as e
use Rattle.py_tree.specs.PlainExpressions.{plain_kind, plain_expr, plain_exprs, exprs_of, plain_links, links_of, PNoExpr, PExpr, PlainExpr, PlainExprs, PLink, PlainLinks, PNoLink, PMoreLinks}
use Rattle.py_tree.specs.PlainProgram.{PlainProgram}
use Rattle.py_tree.specs.ClassRules.{is_class, is_field, is_self, acts, any_acts, any_link_acts}
use Rattle.py_tree.proofs.ListWalks.{exprs_from, exprs_end, links_from, links_end}
use Rattle.py_tree.proofs.Views.{plain-Int, plain-Bool, plain-Str, plain-Nil, plain-Var, plain-SelfRef, plain-Attr, plain-Call, plain-Apply, plain-Index, plain-List, plain-Neg, plain-Pos, plain-Not, plain-Chain, plain-And, plain-Or, plain-Compare, plain-IsNone, plain-Cond}

module _ (at : Place) where
  pub acts-Int : (n : ℤ) (p : PlainProgram) (fields : List ℕ) → acts p fields (plain_kind (e.Int n) at) ≡ false
  unfolding acts
  acts-Int n p fields = ap (acts p fields) (plain-Int at n)

  pub acts-Bool : (b : Bool) (p : PlainProgram) (fields : List ℕ) → acts p fields (plain_kind (e.Bool b) at) ≡ false
  unfolding acts
  acts-Bool b p fields = ap (acts p fields) (plain-Bool at b)

  pub acts-Str : (x : Name) (p : PlainProgram) (fields : List ℕ) → acts p fields (plain_kind (e.Str x) at) ≡ false
  unfolding acts
  acts-Str x p fields = ap (acts p fields) (plain-Str at x)

  pub acts-Nil : (p : PlainProgram) (fields : List ℕ) → acts p fields (plain_kind e.Nil at) ≡ false
  unfolding acts
  acts-Nil p fields = ap (acts p fields) (plain-Nil at)

  pub acts-Var : (x : Name) (p : PlainProgram) (fields : List ℕ) → acts p fields (plain_kind (e.Var x) at) ≡ false
  unfolding acts
  acts-Var x p fields = ap (acts p fields) (plain-Var at x)

  pub acts-SelfRef : (p : PlainProgram) (fields : List ℕ) → acts p fields (plain_kind e.SelfRef at) ≡ true
  unfolding acts
  acts-SelfRef p fields = ap (acts p fields) (plain-SelfRef at)

  pub acts-Attr : (a : Box Expr Global) (x : PlacedName) (p : PlainProgram) (fields : List ℕ) → acts p fields (plain_kind (e.Attr a x) at) ≡ if is_self (plain_expr a.value) then not (is_field fields x.name.0) else acts p fields (plain_expr a.value)
  unfolding acts
  acts-Attr a x p fields = ap (acts p fields) (plain-Attr at a x)

  pub acts-Call : (a : Box Expr Global) (x : PlacedName) (es : List Expr) (p : PlainProgram) (fields : List ℕ) → acts p fields (plain_kind (e.Call a x es) at) ≡ true
  unfolding acts
  acts-Call a x es p fields = ap (acts p fields) (plain-Call at a x es)

  pub acts-Apply : (x : Name) (es : List Expr) (p : PlainProgram) (fields : List ℕ) → acts p fields (plain_kind (e.Apply x es) at) ≡ is_class p x.0 || any_acts p fields (exprs_of (plain_exprs es))
  unfolding acts
  acts-Apply x es p fields = ap (acts p fields) (plain-Apply at x es)

  pub acts-Index : (a b : Box Expr Global) (p : PlainProgram) (fields : List ℕ) → acts p fields (plain_kind (e.Index a b) at) ≡ acts p fields (plain_expr a.value) || acts p fields (plain_expr b.value)
  unfolding acts
  acts-Index a b p fields = ap (acts p fields) (plain-Index at a b)

  pub acts-List : (es : List Expr) (p : PlainProgram) (fields : List ℕ) → acts p fields (plain_kind (e.List es) at) ≡ any_acts p fields (exprs_of (plain_exprs es))
  unfolding acts
  acts-List es p fields = ap (acts p fields) (plain-List at es)

  pub acts-Neg : (a : Box Expr Global) (p : PlainProgram) (fields : List ℕ) → acts p fields (plain_kind (e.Neg a) at) ≡ acts p fields (plain_expr a.value)
  unfolding acts
  acts-Neg a p fields = ap (acts p fields) (plain-Neg at a)

  pub acts-Pos : (a : Box Expr Global) (p : PlainProgram) (fields : List ℕ) → acts p fields (plain_kind (e.Pos a) at) ≡ acts p fields (plain_expr a.value)
  unfolding acts
  acts-Pos a p fields = ap (acts p fields) (plain-Pos at a)

  pub acts-Not : (a : Box Expr Global) (p : PlainProgram) (fields : List ℕ) → acts p fields (plain_kind (e.Not a) at) ≡ acts p fields (plain_expr a.value)
  unfolding acts
  acts-Not a p fields = ap (acts p fields) (plain-Not at a)

  pub acts-Chain : (a : Box Expr Global) (ls : List Link) (p : PlainProgram) (fields : List ℕ) → acts p fields (plain_kind (e.Chain a ls) at) ≡ acts p fields (plain_expr a.value) || any_link_acts p fields (links_of (plain_links ls))
  unfolding acts
  acts-Chain a ls p fields = ap (acts p fields) (plain-Chain at a ls)

  pub acts-And : (es : List Expr) (p : PlainProgram) (fields : List ℕ) → acts p fields (plain_kind (e.And es) at) ≡ any_acts p fields (exprs_of (plain_exprs es))
  unfolding acts
  acts-And es p fields = ap (acts p fields) (plain-And at es)

  pub acts-Or : (es : List Expr) (p : PlainProgram) (fields : List ℕ) → acts p fields (plain_kind (e.Or es) at) ≡ any_acts p fields (exprs_of (plain_exprs es))
  unfolding acts
  acts-Or es p fields = ap (acts p fields) (plain-Or at es)

  pub acts-Compare : (op : Cmp) (op_at : Place) (a b : Box Expr Global) (p : PlainProgram) (fields : List ℕ) → acts p fields (plain_kind (e.Compare op op_at a b) at) ≡ acts p fields (plain_expr a.value) || acts p fields (plain_expr b.value)
  unfolding acts
  acts-Compare op op_at a b p fields = ap (acts p fields) (plain-Compare at op op_at a b)

  pub acts-IsNone : (a : Box Expr Global) (positive : Bool) (p : PlainProgram) (fields : List ℕ) → acts p fields (plain_kind (e.IsNone a positive) at) ≡ acts p fields (plain_expr a.value)
  unfolding acts
  acts-IsNone a positive p fields = ap (acts p fields) (plain-IsNone at a positive)

  pub acts-Cond : (a b c : Box Expr Global) (p : PlainProgram) (fields : List ℕ) → acts p fields (plain_kind (e.Cond a b c) at) ≡ acts p fields (plain_expr a.value) || acts p fields (plain_expr b.value) || acts p fields (plain_expr c.value)
  unfolding acts
  acts-Cond a b c p fields = ap (acts p fields) (plain-Cond at a b c)

pub any-no : (p : PlainProgram) (fields : List ℕ) → any_acts p fields PNoExpr ≡ false
unfolding acts
any-no p fields = refl

pub any-more : (p : PlainProgram) (fields : List ℕ) (x : PlainExpr) (xs : PlainExprs) → any_acts p fields (PExpr x xs) ≡ (acts p fields x || any_acts p fields xs)
unfolding acts
any-more p fields x xs = refl

pub link-no : (p : PlainProgram) (fields : List ℕ) → any_link_acts p fields PNoLink ≡ false
unfolding acts
link-no p fields = refl

pub link-more : (p : PlainProgram) (fields : List ℕ) (l : Link) (ls : PlainLinks) → any_link_acts p fields (PMoreLinks (PLink l.op l.place (plain_expr l.right)) ls) ≡ (acts p fields (plain_expr l.right) || any_link_acts p fields ls)
unfolding acts
link-more p fields l ls = refl

pub ruleset acts_rules = (acts-Int, acts-Bool, acts-Str, acts-Nil, acts-Var, acts-SelfRef, acts-Attr, acts-Call, acts-Apply, acts-Index, acts-List, acts-Neg, acts-Pos, acts-Not, acts-Chain, acts-And, acts-Or, acts-Compare, acts-IsNone, acts-Cond)

-- expressions, from one of them on
any_split : (p : PlainProgram) (fields : List ℕ) (es : List Expr) (i : ℕ) (x : Expr) → i < length es → x ≡ get_or es i x → any_acts p fields (exprs_of (plain_exprs (drop i es))) ≡ (acts p fields (plain_expr x) || any_acts p fields (exprs_of (plain_exprs (drop (i + 1) es))))
any_split p fields es i x within is =
    ap (any_acts p fields) (exprs_from es i x within is) ∙ any-more p fields (plain_expr x) (exprs_of (plain_exprs (drop (i + 1) es)))

pub any_passes : (p : PlainProgram) (fields : List ℕ) (es : List Expr) (i : ℕ) (x : Expr) → i < length es → x ≡ get_or es i x → acts p fields (plain_expr x) ≡ false → any_acts p fields (exprs_of (plain_exprs (drop i es))) ≡ any_acts p fields (exprs_of (plain_exprs (drop (i + 1) es)))
any_passes p fields es i x within is not_one = any_split p fields es i x within is ∙ ap (λ b. b || any_acts p fields (exprs_of (plain_exprs (drop (i + 1) es)))) not_one

pub any_stops : (p : PlainProgram) (fields : List ℕ) (es : List Expr) (i : ℕ) (x : Expr) → i < length es → x ≡ get_or es i x → acts p fields (plain_expr x) ≡ true → any_acts p fields (exprs_of (plain_exprs (drop i es))) ≡ true
any_stops p fields es i x within is is_one = any_split p fields es i x within is ∙ ap (λ b. b || any_acts p fields (exprs_of (plain_exprs (drop (i + 1) es)))) is_one

pub any_ends : (p : PlainProgram) (fields : List ℕ) (es : List Expr) (i : ℕ) → length es ≤ i → any_acts p fields (exprs_of (plain_exprs (drop i es))) ≡ false
any_ends p fields es i past = ap (any_acts p fields) (exprs_end es i past) ∙ any-no p fields

-- links, from one of them on
link_split : (p : PlainProgram) (fields : List ℕ) (es : List Link) (i : ℕ) (x : Link) → i < length es → x ≡ get_or es i x → any_link_acts p fields (links_of (plain_links (drop i es))) ≡ (acts p fields (plain_expr x.right) || any_link_acts p fields (links_of (plain_links (drop (i + 1) es))))
link_split p fields es i x within is =
    ap (any_link_acts p fields) (links_from es i x within is) ∙ link-more p fields x (links_of (plain_links (drop (i + 1) es)))

pub link_passes : (p : PlainProgram) (fields : List ℕ) (es : List Link) (i : ℕ) (x : Link) → i < length es → x ≡ get_or es i x → acts p fields (plain_expr x.right) ≡ false → any_link_acts p fields (links_of (plain_links (drop i es))) ≡ any_link_acts p fields (links_of (plain_links (drop (i + 1) es)))
link_passes p fields es i x within is not_one = link_split p fields es i x within is ∙ ap (λ b. b || any_link_acts p fields (links_of (plain_links (drop (i + 1) es)))) not_one

pub link_stops : (p : PlainProgram) (fields : List ℕ) (es : List Link) (i : ℕ) (x : Link) → i < length es → x ≡ get_or es i x → acts p fields (plain_expr x.right) ≡ true → any_link_acts p fields (links_of (plain_links (drop i es))) ≡ true
link_stops p fields es i x within is is_one = link_split p fields es i x within is ∙ ap (λ b. b || any_link_acts p fields (links_of (plain_links (drop (i + 1) es)))) is_one

pub link_ends : (p : PlainProgram) (fields : List ℕ) (es : List Link) (i : ℕ) → length es ≤ i → any_link_acts p fields (links_of (plain_links (drop i es))) ≡ false
link_ends p fields es i past = ap (any_link_acts p fields) (links_end es i past) ∙ link-no p fields

pub ruleset any_rules = (any_passes, any_stops, any_ends, link_passes, link_stops, link_ends)

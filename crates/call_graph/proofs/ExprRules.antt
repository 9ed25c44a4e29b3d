-- What the calls and creations of an expression are at each kind, one equation each, behind those found before.
use Rattle.std.proofs.Common.{◌≡◌, ℕ, ℤ, Bool, List, ◌++◌, ◌+◌, ◌<◌, ◌≤◌, length, drop, get_or, sym, ap, ◌∙◌}
use Rattle.std.specs.declared.alloc.Global.{Global}
use Rattle.std.specs.declared.boxed.Box.{Box}
use Rattle.py_tree.specs.declared.names.Name.{Name}
use Rattle.py_tree.specs.declared.names.Place.{Place}
use Rattle.py_tree.specs.declared.names.PlacedName.{PlacedName}
use Rattle.py_tree.specs.declared.expr.Cmp.{Cmp}
use Rattle.py_tree.specs.declared.expr.Expr.{Expr}
use Rattle.py_tree.specs.declared.expr.Link.{Link}
use Rattle.py_tree.specs.declared.expr.ExprKind.{ExprKind}
use Rattle.py_tree.specs.declared.expr.ExprKind as e
use Rattle.py_tree.specs.PlainExpressions.{plain_kind, plain_expr, plain_exprs, exprs_of, plain_links, links_of}
use Rattle.py_tree.specs.PlainProgram.{PlainProgram}
use Rattle.py_tree.proofs.Views.{plain-Int, plain-Bool, plain-Str, plain-Nil, plain-Var, plain-SelfRef, plain-Attr, plain-Call, plain-Apply, plain-Index, plain-List, plain-Neg, plain-Pos, plain-Not, plain-Chain, plain-And, plain-Or, plain-Compare, plain-IsNone, plain-Cond}
use Rattle.call_graph.specs.declared.sites.Site.{Site}
use Rattle.call_graph.specs.Suspending.{call, creation, sites, sites_in, sites_in_links}
use Rattle.call_graph.proofs.Parts.{no_more, two_parts, three_parts}
use Rattle.py_tree.proofs.ListWalks.{exprs_from, exprs_end, links_from, links_end}

module _ (at : Place) (p : PlainProgram) (ms : List ℕ) (old : List Site) where
  pub sites-Int : (n : ℤ) → old ++ sites p ms (plain_kind (e.Int n) at) ≡ old
  unfolding sites
  sites-Int n = ap (λ t. old ++ sites p ms t) (plain-Int at n) ∙ no_more old

  pub sites-Bool : (b : Bool) → old ++ sites p ms (plain_kind (e.Bool b) at) ≡ old
  unfolding sites
  sites-Bool b = ap (λ t. old ++ sites p ms t) (plain-Bool at b) ∙ no_more old

  pub sites-Str : (x : Name) → old ++ sites p ms (plain_kind (e.Str x) at) ≡ old
  unfolding sites
  sites-Str x = ap (λ t. old ++ sites p ms t) (plain-Str at x) ∙ no_more old

  pub sites-Nil : old ++ sites p ms (plain_kind e.Nil at) ≡ old
  unfolding sites
  sites-Nil = ap (λ t. old ++ sites p ms t) (plain-Nil at) ∙ no_more old

  pub sites-Var : (x : Name) → old ++ sites p ms (plain_kind (e.Var x) at) ≡ old
  unfolding sites
  sites-Var x = ap (λ t. old ++ sites p ms t) (plain-Var at x) ∙ no_more old

  pub sites-SelfRef : old ++ sites p ms (plain_kind e.SelfRef at) ≡ old
  unfolding sites
  sites-SelfRef = ap (λ t. old ++ sites p ms t) (plain-SelfRef at) ∙ no_more old

  pub sites-Attr : (a : Box Expr Global) (x : PlacedName) → old ++ sites p ms (plain_kind (e.Attr a x) at) ≡ old ++ sites p ms (plain_expr a.value)
  unfolding sites
  sites-Attr a x = ap (λ t. old ++ sites p ms t) (plain-Attr at a x)

  pub sites-Call : (a : Box Expr Global) (x : PlacedName) (es : List Expr) → old ++ sites p ms (plain_kind (e.Call a x es) at) ≡ ((old ++ sites p ms (plain_expr a.value)) ++ sites_in p ms (exprs_of (plain_exprs es))) ++ call ms (plain_expr a.value) x.name.0
  unfolding sites
  sites-Call a x es = ap (λ t. old ++ sites p ms t) (plain-Call at a x es) ∙ three_parts old (sites p ms (plain_expr a.value)) (sites_in p ms (exprs_of (plain_exprs es))) (call ms (plain_expr a.value) x.name.0)

  pub sites-Apply : (x : Name) (es : List Expr) → old ++ sites p ms (plain_kind (e.Apply x es) at) ≡ (old ++ sites_in p ms (exprs_of (plain_exprs es))) ++ creation p x.0
  unfolding sites
  sites-Apply x es = ap (λ t. old ++ sites p ms t) (plain-Apply at x es) ∙ two_parts old (sites_in p ms (exprs_of (plain_exprs es))) (creation p x.0)

  pub sites-Index : (a b : Box Expr Global) → old ++ sites p ms (plain_kind (e.Index a b) at) ≡ (old ++ sites p ms (plain_expr a.value)) ++ sites p ms (plain_expr b.value)
  unfolding sites
  sites-Index a b = ap (λ t. old ++ sites p ms t) (plain-Index at a b) ∙ two_parts old (sites p ms (plain_expr a.value)) (sites p ms (plain_expr b.value))

  pub sites-List : (es : List Expr) → old ++ sites p ms (plain_kind (e.List es) at) ≡ old ++ sites_in p ms (exprs_of (plain_exprs es))
  unfolding sites
  sites-List es = ap (λ t. old ++ sites p ms t) (plain-List at es)

  pub sites-Neg : (a : Box Expr Global) → old ++ sites p ms (plain_kind (e.Neg a) at) ≡ old ++ sites p ms (plain_expr a.value)
  unfolding sites
  sites-Neg a = ap (λ t. old ++ sites p ms t) (plain-Neg at a)

  pub sites-Pos : (a : Box Expr Global) → old ++ sites p ms (plain_kind (e.Pos a) at) ≡ old ++ sites p ms (plain_expr a.value)
  unfolding sites
  sites-Pos a = ap (λ t. old ++ sites p ms t) (plain-Pos at a)

  pub sites-Not : (a : Box Expr Global) → old ++ sites p ms (plain_kind (e.Not a) at) ≡ old ++ sites p ms (plain_expr a.value)
  unfolding sites
  sites-Not a = ap (λ t. old ++ sites p ms t) (plain-Not at a)

  pub sites-Chain : (a : Box Expr Global) (ls : List Link) → old ++ sites p ms (plain_kind (e.Chain a ls) at) ≡ (old ++ sites p ms (plain_expr a.value)) ++ sites_in_links p ms (links_of (plain_links ls))
  unfolding sites
  sites-Chain a ls = ap (λ t. old ++ sites p ms t) (plain-Chain at a ls) ∙ two_parts old (sites p ms (plain_expr a.value)) (sites_in_links p ms (links_of (plain_links ls)))

  pub sites-And : (es : List Expr) → old ++ sites p ms (plain_kind (e.And es) at) ≡ old ++ sites_in p ms (exprs_of (plain_exprs es))
  unfolding sites
  sites-And es = ap (λ t. old ++ sites p ms t) (plain-And at es)

  pub sites-Or : (es : List Expr) → old ++ sites p ms (plain_kind (e.Or es) at) ≡ old ++ sites_in p ms (exprs_of (plain_exprs es))
  unfolding sites
  sites-Or es = ap (λ t. old ++ sites p ms t) (plain-Or at es)

  pub sites-Compare : (op : Cmp) (op_at : Place) (a b : Box Expr Global) → old ++ sites p ms (plain_kind (e.Compare op op_at a b) at) ≡ (old ++ sites p ms (plain_expr a.value)) ++ sites p ms (plain_expr b.value)
  unfolding sites
  sites-Compare op op_at a b = ap (λ t. old ++ sites p ms t) (plain-Compare at op op_at a b) ∙ two_parts old (sites p ms (plain_expr a.value)) (sites p ms (plain_expr b.value))

  pub sites-IsNone : (a : Box Expr Global) (positive : Bool) → old ++ sites p ms (plain_kind (e.IsNone a positive) at) ≡ old ++ sites p ms (plain_expr a.value)
  unfolding sites
  sites-IsNone a positive = ap (λ t. old ++ sites p ms t) (plain-IsNone at a positive)

  pub sites-Cond : (a b c : Box Expr Global) → old ++ sites p ms (plain_kind (e.Cond a b c) at) ≡ ((old ++ sites p ms (plain_expr a.value)) ++ sites p ms (plain_expr b.value)) ++ sites p ms (plain_expr c.value)
  unfolding sites
  sites-Cond a b c = ap (λ t. old ++ sites p ms t) (plain-Cond at a b c) ∙ three_parts old (sites p ms (plain_expr a.value)) (sites p ms (plain_expr b.value)) (sites p ms (plain_expr c.value))

module _ (p : PlainProgram) (ms : List ℕ) (old : List Site) where
  pub exprs_more : (es : List Expr) (i : ℕ) (x : Expr) → i < length es → x ≡ get_or es i x → old ++ sites_in p ms (exprs_of (plain_exprs (drop i es))) ≡ (old ++ sites p ms (plain_expr x)) ++ sites_in p ms (exprs_of (plain_exprs (drop (i + 1) es)))
  unfolding sites_in
  exprs_more es i x within is =
      ap (λ xs. old ++ sites_in p ms xs) (exprs_from es i x within is) ∙ two_parts old (sites p ms (plain_expr x)) (sites_in p ms (exprs_of (plain_exprs (drop (i + 1) es))))

  pub exprs_done : (es : List Expr) (i : ℕ) → length es ≤ i → old ++ sites_in p ms (exprs_of (plain_exprs (drop i es))) ≡ old
  unfolding sites_in
  exprs_done es i past = ap (λ xs. old ++ sites_in p ms xs) (exprs_end es i past) ∙ no_more old

  pub links_more : (ls : List Link) (i : ℕ) (l : Link) → i < length ls → l ≡ get_or ls i l → old ++ sites_in_links p ms (links_of (plain_links (drop i ls))) ≡ (old ++ sites p ms (plain_expr l.right)) ++ sites_in_links p ms (links_of (plain_links (drop (i + 1) ls)))
  unfolding sites_in_links
  links_more ls i l within is =
      ap (λ xs. old ++ sites_in_links p ms xs) (links_from ls i l within is) ∙ two_parts old (sites p ms (plain_expr l.right)) (sites_in_links p ms (links_of (plain_links (drop (i + 1) ls))))

  pub links_done : (ls : List Link) (i : ℕ) → length ls ≤ i → old ++ sites_in_links p ms (links_of (plain_links (drop i ls))) ≡ old
  unfolding sites_in_links
  links_done ls i past = ap (λ xs. old ++ sites_in_links p ms xs) (links_end ls i past) ∙ no_more old

-- a call whose parts were found one after another
pub call_found : (at : Place) (p : PlainProgram) (ms : List ℕ) (old first second new : List Site) (k : ExprKind) (a : Box Expr Global) (x : PlacedName) (es : List Expr) (on again : Expr) → k ≡ e.Call a x es → on ≡ a.value → again ≡ a.value → first ≡ old ++ sites p ms (plain_expr on) → second ≡ first ++ sites_in p ms (exprs_of (plain_exprs es)) → new ≡ second ++ call ms (plain_expr again) x.name.0 → new ≡ old ++ sites p ms (plain_kind k at)
call_found at p ms old first second new k a x es on again is on_is again_is found_first found_second found_new =
    found_new
    ∙ (λ i. found_second i ++ call ms (plain_expr (again_is i)) x.name.0)
    ∙ (λ i. (found_first i ++ sites_in p ms (exprs_of (plain_exprs es))) ++ call ms (plain_expr a.value) x.name.0)
    ∙ (λ i. ((old ++ sites p ms (plain_expr (on_is i))) ++ sites_in p ms (exprs_of (plain_exprs es))) ++ call ms (plain_expr a.value) x.name.0)
    ∙ sym (sites-Call at p ms old a x es)
    ∙ ap (λ k. old ++ sites p ms (plain_kind k at)) (sym is)

pub ruleset expr_rules = (sites-Int, sites-Bool, sites-Str, sites-Nil, sites-Var, sites-SelfRef, sites-Attr, sites-Call, sites-Apply, sites-Index, sites-List, sites-Neg, sites-Pos, sites-Not, sites-Chain, sites-And, sites-Or, sites-Compare, sites-IsNone, sites-Cond)

pub ruleset list_rules = (exprs_more, exprs_done)

pub ruleset link_rules = (links_more, links_done)

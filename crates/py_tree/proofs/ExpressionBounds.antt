-- What is read fits what was there to read: its names are numbered, it has two nodes at most for each token, and it is no deeper
-- than the levels allow.
use Rattle.std.proofs.Common.{◌≡◌, ◌<◌, ◌≤◌, ◌+◌, ◌*◌, ◌-◌, ℕ, zero, suc, List, [], ◌∷◌, length, ap, arith}
use Rattle.std.specs.Prelude.{max}
use Rattle.std.proofs.Math.Nat.{max-le}
use Rattle.py_tree.specs.declared.names.Place.{Place}
use Rattle.py_tree.specs.PlainTypes.{PlainWritten, WInt, WBool, WStr, WNil, WList, WOptional, WEntity}
use Rattle.py_tree.specs.PlainExpressions.{PlainExpr, PInt, PBool, PStr, PNil, PVar, PSelf, PAttr, PCall, PApply, PIndex, PList, PNeg, PPos, PNot, PChain, PAnd, POr, PCompare, PIsNone, PCond, PlainExprs, PNoExpr, PExpr, PlainLink, PLink, PlainLinks, PNoLink, PMoreLinks, exprs_of, links_of}
use Rattle.py_tree.specs.ExpressionGrammar.{joined_or, joined_and, chained}
use Rattle.py_tree.specs.Reading.{Input}
use Rattle.py_tree.specs.Bounded.{nesting, expr_size, exprs_size, links_size, expr_depth, exprs_depth, links_depth, TypeNames, ExprNames, ExprsNames, LinkNames, LinksNames}
use Rattle.py_tree.proofs.Taken.{tokens_left, Reads, reads_on, stays}

-- how deep an atom can be where so many levels are left; its dots and indices take one each, and those of a part that a bracket
-- encloses end with it
pub atom_depth : ℕ → ℕ
atom_depth zero = 1
atom_depth (suc n) = 7 + (atom_depth n + n)

pub shallow : atom_depth 64 ≤ 4096
unfolding atom_depth
shallow = omega arith

pub leaf_depth : (n : ℕ) → 1 ≤ atom_depth n
unfolding atom_depth
leaf_depth zero = omega arith
leaf_depth (suc n) = omega arith

pub deeper : (n : ℕ) → 0 < n → atom_depth n ≡ 7 + (atom_depth (n - 1) + (n - 1))
unfolding atom_depth
deeper zero h = absurd (omega arith)
deeper (suc n) h = let e : n ≡ suc n - 1 = omega arith in ap (λ (m : ℕ). 7 + (atom_depth m + m)) e

pub above : (a b k : ℕ) → 1 + a ≤ k → 1 + b ≤ k → 1 + max a b ≤ k
above a b k p q = let m : max a b ≤ k - 1 = max-le (omega arith) (omega arith) in omega arith

pub above_by : (a b c k : ℕ) → 1 + a + c ≤ k → 1 + b + c ≤ k → 1 + max a b + c ≤ k
above_by a b c k p q = let m = above a b (k - c) (omega arith) (omega arith) in omega arith

-- more names are more room
pub type_kept : {c d : ℕ} → c ≤ d → (t : PlainWritten) → TypeNames c t → TypeNames d t
unfolding TypeNames
type_kept h (WInt at) p = tt
type_kept h (WBool at) p = tt
type_kept h (WStr at) p = tt
type_kept h (WNil at) p = tt
type_kept h (WList at element) p = type_kept h element p
type_kept h (WOptional at inner) p = type_kept h inner p
type_kept h (WEntity at class) p = omega arith

mutual
  unfolding ExprNames ExprsNames LinkNames LinksNames

  pub expr_kept : {c d : ℕ} → c ≤ d → (x : PlainExpr) → ExprNames c x → ExprNames d x
  expr_kept h (PInt at n) p = tt
  expr_kept h (PBool at b) p = tt
  expr_kept h (PStr at text) p = omega arith
  expr_kept h (PNil at) p = tt
  expr_kept h (PVar at name) p = omega arith
  expr_kept h (PSelf at) p = tt
  expr_kept h (PAttr at on name name_at) p = (expr_kept h on p.0, omega arith)
  expr_kept h (PCall at on name name_at args) p = (expr_kept h on p.0, omega arith, exprs_kept h args p.2)
  expr_kept h (PApply at name args) p = (omega arith, exprs_kept h args p.1)
  expr_kept h (PIndex at on index) p = (expr_kept h on p.0, expr_kept h index p.1)
  expr_kept h (PList at items) p = exprs_kept h items p
  expr_kept h (PNeg at a) p = expr_kept h a p
  expr_kept h (PPos at a) p = expr_kept h a p
  expr_kept h (PNot at a) p = expr_kept h a p
  expr_kept h (PChain at first links) p = (expr_kept h first p.0, links_kept h links p.1)
  expr_kept h (PAnd at items) p = exprs_kept h items p
  expr_kept h (POr at items) p = exprs_kept h items p
  expr_kept h (PCompare at op op_at left right) p = (expr_kept h left p.0, expr_kept h right p.1)
  expr_kept h (PIsNone at a positive) p = expr_kept h a p
  expr_kept h (PCond at test chosen other) p = (expr_kept h test p.0, expr_kept h chosen p.1, expr_kept h other p.2)

  pub exprs_kept : {c d : ℕ} → c ≤ d → (xs : PlainExprs) → ExprsNames c xs → ExprsNames d xs
  exprs_kept h PNoExpr p = tt
  exprs_kept h (PExpr x xs) p = (expr_kept h x p.0, exprs_kept h xs p.1)

  pub link_kept : {c d : ℕ} → c ≤ d → (l : PlainLink) → LinkNames c l → LinkNames d l
  link_kept h (PLink op at right) p = expr_kept h right p

  pub links_kept : {c d : ℕ} → c ≤ d → (ls : PlainLinks) → LinksNames c ls → LinksNames d ls
  links_kept h PNoLink p = tt
  links_kept h (PMoreLinks l ls) p = (link_kept h l p.0, links_kept h ls p.1)

pub record TypeFits (deep : ℕ) (i : Input) (t : PlainWritten) (m : Input) : Type 0 where
  pub read : Reads i m
  pub names : TypeNames (length m.names) t
  pub flat : nesting t ≤ deep

pub record ExprFits (deep : ℕ) (i : Input) (x : PlainExpr) (m : Input) : Type 0 where
  pub read : Reads i m
  pub names : ExprNames (length m.names) x
  pub size : 1 + expr_size x + 2 * tokens_left m ≤ 2 * tokens_left i
  pub depth : expr_depth x ≤ deep

-- expressions that will be parts of a tree of this depth
pub record ExprsFit (deep : ℕ) (i : Input) (xs : List PlainExpr) (m : Input) : Type 0 where
  pub read : Reads i m
  pub names : ExprsNames (length m.names) (exprs_of xs)
  pub size : length xs + exprs_size (exprs_of xs) + 2 * tokens_left m ≤ 2 * tokens_left i
  pub depth : 1 + exprs_depth (exprs_of xs) ≤ deep

pub record LinksFit (deep : ℕ) (i : Input) (ls : List PlainLink) (m : Input) : Type 0 where
  pub read : Reads i m
  pub names : LinksNames (length m.names) (links_of ls)
  pub size : length ls + links_size (links_of ls) + 2 * tokens_left m ≤ 2 * tokens_left i
  pub depth : 1 + links_depth (links_of ls) ≤ deep

pub no_exprs : (deep : ℕ) → 1 ≤ deep → (i : Input) → ExprsFit deep i [] i
unfolding ExprsNames exprs_size exprs_depth
no_exprs deep h i = record { read = stays i; names = tt; size = omega arith; depth = omega arith }

pub no_links : (deep : ℕ) → 1 ≤ deep → (i : Input) → LinksFit deep i [] i
unfolding LinksNames links_size links_depth
no_links deep h i = record { read = stays i; names = tt; size = omega arith; depth = omega arith }

-- a part and more of its kind
pub joined_or_fits : {d e : ℕ} {i m n : Input} (at : Place) (x : PlainExpr) (xs : List PlainExpr) → 1 + d ≤ e → ExprFits d i x m → ExprsFit e m xs n → ExprFits e i (joined_or at x xs) n
unfolding ExprNames ExprsNames expr_size exprs_size expr_depth exprs_depth
joined_or_fits at x [] h s t = record { read = reads_on s.read t.read; names = expr_kept t.read.more x s.names; size = omega arith; depth = omega arith }
joined_or_fits at x (y ∷ ys) h s t = record { read = reads_on s.read t.read; names = (expr_kept t.read.more x s.names, t.names); size = omega arith; depth = above _ _ _ (omega arith) (omega arith) }

pub joined_and_fits : {d e : ℕ} {i m n : Input} (at : Place) (x : PlainExpr) (xs : List PlainExpr) → 1 + d ≤ e → ExprFits d i x m → ExprsFit e m xs n → ExprFits e i (joined_and at x xs) n
unfolding ExprNames ExprsNames expr_size exprs_size expr_depth exprs_depth
joined_and_fits at x [] h s t = record { read = reads_on s.read t.read; names = expr_kept t.read.more x s.names; size = omega arith; depth = omega arith }
joined_and_fits at x (y ∷ ys) h s t = record { read = reads_on s.read t.read; names = (expr_kept t.read.more x s.names, t.names); size = omega arith; depth = above _ _ _ (omega arith) (omega arith) }

pub chained_fits : {d e : ℕ} {i m n : Input} (at : Place) (x : PlainExpr) (ls : List PlainLink) → 1 + d ≤ e → ExprFits d i x m → LinksFit e m ls n → ExprFits e i (chained at x ls) n
unfolding ExprNames LinksNames expr_size links_size expr_depth links_depth
chained_fits at x [] h s t = record { read = reads_on s.read t.read; names = expr_kept t.read.more x s.names; size = omega arith; depth = omega arith }
chained_fits at x (l ∷ ls) h s t = record { read = reads_on s.read t.read; names = (expr_kept t.read.more x s.names, t.names); size = omega arith; depth = above _ _ _ (omega arith) (omega arith) }

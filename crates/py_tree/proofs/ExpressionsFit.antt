-- Expressions that are read fit what was there to read.
use Rattle.std.proofs.Common.{◌≤◌, ◌+◌, ◌*◌, ◌-◌, ℕ, List, length, refl, arith}
use Rattle.py_tree.specs.declared.names.Place.{Place}
use Rattle.py_tree.specs.declared.terminal.Terminal.{Terminal}
use Rattle.py_tree.specs.declared.terminal.Terminal.TheVariants as k
use Rattle.py_tree.specs.declared.starts.AtomStart.TheVariants as atom
use Rattle.py_tree.specs.PlainExpressions.{PlainExpr, PlainLink, exprs_of}
use Rattle.py_tree.specs.Reading.{Input, found, next, named, here}
use Rattle.py_tree.specs.ExpressionGrammar.{IsWhole, IsOr, IsOrs, IsAnd, IsAnds, IsNot, IsCompare, IsSum, IsSums, IsTerm, IsTerms, IsUnary, IsPostfix, IsTails, IsEnclosed, IsArgs, IsMore, IsAtom, IsGroup, IsNamed, whole_plain, whole_cond, or_is, ors_end, ors_more, and_is, ands_end, ands_more, not_is, not_as, compare_plain, compare_by, compare_is_none, compare_is_not_none, sum_is, sums_end, sums_more, term_is, terms_end, terms_more, unary_minus, unary_plus, unary_as, postfix_is, tails_end, tails_dot, tails_call, tails_index, enclosed_is, args_none, args_is, more_end, more_comma, more_is, atom_name, atom_int, atom_str, atom_true, atom_false, atom_nil, atom_group, atom_list, group_is, named_call, named_self, named_var}
use Rattle.py_tree.specs.Bounded.{expr_size, exprs_size, link_size, links_size, expr_depth, exprs_depth, link_depth, links_depth, ExprNames, ExprsNames, LinkNames, LinksNames}
use Rattle.py_tree.proofs.Taken.{tokens_left, Reads, Takes, reads_on, stays, passed, passed_name, passed_text, name_stands, text_stands, taken, taken_name, taken_comparison, taken_addition, taken_multiplication, taken_atom}
use Rattle.py_tree.proofs.ExpressionBounds.{atom_depth, leaf_depth, deeper, above, above_by, expr_kept, exprs_kept, ExprFits, ExprsFit, LinksFit, no_exprs, no_links, joined_or_fits, joined_and_fits, chained_fits}

-- expressions within brackets
pub record EnclosedFit (deep : ℕ) (i : Input) (xs : List PlainExpr) (m : Input) : Type 0 where
  pub read : Reads i m
  pub names : ExprsNames (length m.names) (exprs_of xs)
  pub size : 2 + exprs_size (exprs_of xs) + 2 * tokens_left m ≤ 2 * tokens_left i
  pub depth : 1 + exprs_depth (exprs_of xs) ≤ deep

-- what an expression becomes by its dots, indices and calls
pub record TailsFit (deep : ℕ) (x : PlainExpr) (i : Input) (y : PlainExpr) (m : Input) : Type 0 where
  pub read : Reads i m
  pub names : ExprNames (length m.names) y
  pub size : expr_size y + 2 * tokens_left m ≤ expr_size x + 2 * tokens_left i
  pub depth : expr_depth y ≤ deep

mutual
  unfolding ExprNames ExprsNames LinkNames LinksNames expr_size exprs_size link_size links_size expr_depth exprs_depth link_depth links_depth

  pub whole_fits : {n : ℕ} {i : Input} {x : PlainExpr} {m : Input} → IsWhole n i (found x m) → ExprFits (6 + (atom_depth n + n)) i x m
  whole_fits (whole_plain h0 _) = let s0 = or_fits h0 in record { read = s0.read; names = s0.names; size = omega arith; depth = omega arith }
  whole_fits (whole_cond {n = n} {x = x} {m1 = m1} {y = y} {m2 = m2} h0 h1 h2 h3 h4 h5) = let s0 = or_fits h0 in let t1 = taken k.If m1 h1 in let s2 = or_fits h2 in let t3 = taken k.Else m2 h3 in let d4 = deeper n h4 in let s5 = whole_fits h5 in let r3 = reads_on (passed m2) s5.read in let r2 = reads_on s2.read r3 in let r1 = reads_on (passed m1) r2 in let r0 = reads_on s0.read r1 in record { read = r0; names = (expr_kept r3.more y s2.names, expr_kept r1.more x s0.names, s5.names); size = omega arith; depth = above _ _ _ (omega arith) (above _ _ _ (omega arith) (omega arith)) }

  pub or_fits : {n : ℕ} {i : Input} {x : PlainExpr} {m : Input} → IsOr n i (found x m) → ExprFits (5 + (atom_depth n + n)) i x m
  or_fits (or_is {i = i} {x = x} {xs = xs} h0 h1) = let s0 = and_fits h0 in let s1 = ors_fit h1 in let r0 = reads_on s0.read s1.read in joined_or_fits (here i) x xs (omega arith) s0 s1

  pub ors_fit : {n : ℕ} {i : Input} {xs : List PlainExpr} {m : Input} → IsOrs n i (found xs m) → ExprsFit (5 + (atom_depth n + n)) i xs m
  ors_fit (ors_end {n = n} {i = i} _) = let l = leaf_depth n in no_exprs _ (omega arith) i
  ors_fit (ors_more {i = i} {x = x} h0 h1 h2) = let t0 = taken k.Or i h0 in let s1 = and_fits h1 in let s2 = ors_fit h2 in let r1 = reads_on s1.read s2.read in let r0 = reads_on (passed i) r1 in record { read = r0; names = (expr_kept s2.read.more x s1.names, s2.names); size = omega arith; depth = above _ _ _ (omega arith) (omega arith) }

  pub and_fits : {n : ℕ} {i : Input} {x : PlainExpr} {m : Input} → IsAnd n i (found x m) → ExprFits (4 + (atom_depth n + n)) i x m
  and_fits (and_is {i = i} {x = x} {xs = xs} h0 h1) = let s0 = not_fits h0 in let s1 = ands_fit h1 in let r0 = reads_on s0.read s1.read in joined_and_fits (here i) x xs (omega arith) s0 s1

  pub ands_fit : {n : ℕ} {i : Input} {xs : List PlainExpr} {m : Input} → IsAnds n i (found xs m) → ExprsFit (4 + (atom_depth n + n)) i xs m
  ands_fit (ands_end {n = n} {i = i} _) = let l = leaf_depth n in no_exprs _ (omega arith) i
  ands_fit (ands_more {i = i} {x = x} h0 h1 h2) = let t0 = taken k.And i h0 in let s1 = not_fits h1 in let s2 = ands_fit h2 in let r1 = reads_on s1.read s2.read in let r0 = reads_on (passed i) r1 in record { read = r0; names = (expr_kept s2.read.more x s1.names, s2.names); size = omega arith; depth = above _ _ _ (omega arith) (omega arith) }

  pub not_fits : {n : ℕ} {i : Input} {x : PlainExpr} {m : Input} → IsNot n i (found x m) → ExprFits (3 + (atom_depth n + n)) i x m
  not_fits (not_is {n = n} {i = i} h0 h1 h2) = let t0 = taken k.Not i h0 in let d1 = deeper n h1 in let s2 = not_fits h2 in let r0 = reads_on (passed i) s2.read in record { read = r0; names = s2.names; size = omega arith; depth = omega arith }
  not_fits (not_as _ h1) = compare_fits h1

  pub compare_fits : {n : ℕ} {i : Input} {x : PlainExpr} {m : Input} → IsCompare n i (found x m) → ExprFits (3 + (atom_depth n + n)) i x m
  compare_fits (compare_plain h0 _ _) = let s0 = sum_fits h0 in record { read = s0.read; names = s0.names; size = omega arith; depth = omega arith }
  compare_fits (compare_by {x = x} {m1 = m1} {c = c} h0 h1 h2) = let s0 = sum_fits h0 in let t1 = taken_comparison m1 c h1 in let s2 = sum_fits h2 in let r1 = reads_on (passed m1) s2.read in let r0 = reads_on s0.read r1 in record { read = r0; names = (expr_kept r1.more x s0.names, s2.names); size = omega arith; depth = above _ _ _ (omega arith) (omega arith) }
  compare_fits (compare_is_none {x = x} {m1 = m1} h0 _ h2 _ h4) = let s0 = sum_fits h0 in let t2 = taken k.Is m1 h2 in let t4 = taken k.None (next m1) h4 in let r2 = passed (next m1) in let r1 = reads_on (passed m1) r2 in let r0 = reads_on s0.read r1 in record { read = r0; names = expr_kept r1.more x s0.names; size = omega arith; depth = omega arith }
  compare_fits (compare_is_not_none {x = x} {m1 = m1} h0 _ h2 h3 h4) = let s0 = sum_fits h0 in let t2 = taken k.Is m1 h2 in let t3 = taken k.Not (next m1) h3 in let t4 = taken k.None (next (next m1)) h4 in let r3 = passed (next (next m1)) in let r2 = reads_on (passed (next m1)) r3 in let r1 = reads_on (passed m1) r2 in let r0 = reads_on s0.read r1 in record { read = r0; names = expr_kept r1.more x s0.names; size = omega arith; depth = omega arith }

  pub sum_fits : {n : ℕ} {i : Input} {x : PlainExpr} {m : Input} → IsSum n i (found x m) → ExprFits (2 + (atom_depth n + n)) i x m
  sum_fits (sum_is {i = i} {x = x} {ls = ls} h0 h1) = let s0 = term_fits h0 in let s1 = sums_fit h1 in let r0 = reads_on s0.read s1.read in chained_fits (here i) x ls (omega arith) s0 s1

  pub sums_fit : {n : ℕ} {i : Input} {ls : List PlainLink} {m : Input} → IsSums n i (found ls m) → LinksFit (2 + (atom_depth n + n)) i ls m
  sums_fit (sums_end {n = n} {i = i} _) = let l = leaf_depth n in no_links _ (omega arith) i
  sums_fit (sums_more {i = i} {op = op} {x = x} h0 h1 h2) = let t0 = taken_addition i op h0 in let s1 = term_fits h1 in let s2 = sums_fit h2 in let r1 = reads_on s1.read s2.read in let r0 = reads_on (passed i) r1 in record { read = r0; names = (expr_kept s2.read.more x s1.names, s2.names); size = omega arith; depth = above _ _ _ (omega arith) (omega arith) }

  pub term_fits : {n : ℕ} {i : Input} {x : PlainExpr} {m : Input} → IsTerm n i (found x m) → ExprFits (1 + (atom_depth n + n)) i x m
  term_fits (term_is {i = i} {x = x} {ls = ls} h0 h1) = let s0 = unary_fits h0 in let s1 = terms_fit h1 in let r0 = reads_on s0.read s1.read in chained_fits (here i) x ls (omega arith) s0 s1

  pub terms_fit : {n : ℕ} {i : Input} {ls : List PlainLink} {m : Input} → IsTerms n i (found ls m) → LinksFit (1 + (atom_depth n + n)) i ls m
  terms_fit (terms_end {n = n} {i = i} _) = let l = leaf_depth n in no_links _ (omega arith) i
  terms_fit (terms_more {i = i} {op = op} {x = x} h0 h1 h2) = let t0 = taken_multiplication i op h0 in let s1 = unary_fits h1 in let s2 = terms_fit h2 in let r1 = reads_on s1.read s2.read in let r0 = reads_on (passed i) r1 in record { read = r0; names = (expr_kept s2.read.more x s1.names, s2.names); size = omega arith; depth = above _ _ _ (omega arith) (omega arith) }

  pub unary_fits : {n : ℕ} {i : Input} {x : PlainExpr} {m : Input} → IsUnary n i (found x m) → ExprFits (atom_depth n + n) i x m
  unary_fits (unary_minus {n = n} {i = i} h0 h1 h2) = let t0 = taken k.Minus i h0 in let d1 = deeper n h1 in let s2 = unary_fits h2 in let r0 = reads_on (passed i) s2.read in record { read = r0; names = s2.names; size = omega arith; depth = omega arith }
  unary_fits (unary_plus {n = n} {i = i} _ h1 h2 h3) = let t1 = taken k.Plus i h1 in let d2 = deeper n h2 in let s3 = unary_fits h3 in let r0 = reads_on (passed i) s3.read in record { read = r0; names = s3.names; size = omega arith; depth = omega arith }
  unary_fits (unary_as _ _ h2) = postfix_fits h2

  pub postfix_fits : {n : ℕ} {i : Input} {x : PlainExpr} {m : Input} → IsPostfix n i (found x m) → ExprFits (atom_depth n + n) i x m
  postfix_fits (postfix_is {n = n} h0 h1) = let s0 = atom_fits h0 in let s1 = tails_fit h1 (atom_depth n + n) s0.names (omega arith) (omega arith) in record { read = reads_on s0.read s1.read; names = s1.names; size = omega arith; depth = s1.depth }

  pub tails_fit : {n : ℕ} {at : Place} {x : PlainExpr} {i : Input} {y : PlainExpr} {m : Input} → IsTails n at x i (found y m) → (d : ℕ) → ExprNames (length i.names) x → expr_depth x + n ≤ d → atom_depth n + n ≤ d → TailsFit d x i y m
  tails_fit (tails_end {i = i} _ _) d p deep room = record { read = stays i; names = p; size = omega arith; depth = omega arith }
  tails_fit (tails_dot {n = n} {x = x} {i = i} h0 h1 h2 _ h4) d p deep room = let t0 = taken k.Dot i h0 in let d1 = deeper n h1 in let t2 = taken_name (next i) h2 in let r1 = passed_name (next i) t2 in let r0 = reads_on (passed i) r1 in let l = leaf_depth (n - 1) in let s4 = tails_fit h4 d (expr_kept r0.more x p, name_stands (next i)) (omega arith) (omega arith) in record { read = reads_on r0 s4.read; names = s4.names; size = omega arith; depth = s4.depth }
  tails_fit (tails_call {n = n} {x = x} {i = i} h0 h1 h2 h3 h4 h5) d p deep room =
      let t0 = taken k.Dot i h0 in
      let d1 = deeper n h1 in
      let t2 = taken_name (next i) h2 in
      let t3 = taken k.Open (named (next i)) h3 in
      let s4 = enclosed_fit h4 in
      let r1 = reads_on (passed_name (next i) t2) s4.read in
      let r0 = reads_on (passed i) r1 in
      let l = leaf_depth (n - 1) in
      let s5 =
      tails_fit h5 d (expr_kept r0.more x p, omega (arith, name_stands (next i), s4.read.more), s4.names) (above_by _ _ _ _ (omega arith) (omega arith))
      (omega arith) in
      record { read = reads_on r0 s5.read; names = s5.names; size = omega arith; depth = s5.depth }
  tails_fit (tails_index {n = n} {x = x} {i = i} {y = y} {m1 = m1} _ h1 h2 h3 h4 h5) d p deep room = let t1 = taken k.OpenBracket i h1 in let d2 = deeper n h2 in let s3 = whole_fits h3 in let t4 = taken k.CloseBracket m1 h4 in let r2 = passed m1 in let r1 = reads_on s3.read r2 in let r0 = reads_on (passed i) r1 in let l = leaf_depth (n - 1) in let s5 = tails_fit h5 d (expr_kept r0.more x p, expr_kept r2.more y s3.names) (above_by _ _ _ _ (omega arith) (omega arith)) (omega arith) in record { read = reads_on r0 s5.read; names = s5.names; size = omega arith; depth = s5.depth }

  pub enclosed_fit : {n : ℕ} {c : Terminal} {i : Input} {xs : List PlainExpr} {m : Input} → IsEnclosed n c i (found xs m) → EnclosedFit (atom_depth n) i xs m
  enclosed_fit (enclosed_is {n = n} {c = c} {i = i} {xs = xs} {m1 = m1} h0 h1 h2) = let d0 = deeper n h0 in let s1 = args_fit h1 in let t2 = taken c m1 h2 in let r2 = passed m1 in let r1 = reads_on s1.read r2 in let p0 = passed i in let r0 = reads_on p0 r1 in record { read = r0; names = exprs_kept r2.more (exprs_of xs) s1.names; size = omega arith; depth = omega arith }

  pub args_fit : {n : ℕ} {i : Input} {xs : List PlainExpr} {m : Input} → IsArgs n i (found xs m) → ExprsFit (7 + (atom_depth n + n)) i xs m
  args_fit (args_none {n = n} {i = i} _) = let l = leaf_depth n in no_exprs _ (omega arith) i
  args_fit (args_is {x = x} _ h1 h2) = let s1 = whole_fits h1 in let s2 = more_fit h2 in let r0 = reads_on s1.read s2.read in record { read = r0; names = (expr_kept s2.read.more x s1.names, s2.names); size = omega arith; depth = above _ _ _ (omega arith) (omega arith) }

  pub more_fit : {n : ℕ} {i : Input} {xs : List PlainExpr} {m : Input} → IsMore n i (found xs m) → ExprsFit (7 + (atom_depth n + n)) i xs m
  more_fit (more_end {n = n} {i = i} _) = let l = leaf_depth n in no_exprs _ (omega arith) i
  more_fit (more_comma {n = n} {i = i} h0 _) = let t0 = taken k.Comma i h0 in let r0 = passed i in let l = leaf_depth n in record { read = r0; names = tt; size = omega arith; depth = omega arith }
  more_fit (more_is {i = i} {x = x} h0 _ h2 h3) = let t0 = taken k.Comma i h0 in let s2 = whole_fits h2 in let s3 = more_fit h3 in let r1 = reads_on s2.read s3.read in let r0 = reads_on (passed i) r1 in record { read = r0; names = (expr_kept s3.read.more x s2.names, s3.names); size = omega arith; depth = above _ _ _ (omega arith) (omega arith) }

  pub atom_fits : {n : ℕ} {i : Input} {x : PlainExpr} {m : Input} → IsAtom n i (found x m) → ExprFits (atom_depth n) i x m
  atom_fits (atom_name {i = i} h0 h1) = let t0 = taken_atom i atom.Name h0 refl in let s1 = named_fits h1 t0 in record { read = s1.read; names = s1.names; size = omega arith; depth = omega arith }
  atom_fits (atom_int {n = n} {i = i} h0) = let t0 = taken_atom i atom.Int h0 refl in let r0 = passed i in let l = leaf_depth n in record { read = r0; names = tt; size = omega arith; depth = omega arith }
  atom_fits (atom_str {n = n} {i = i} h0) = let t0 = taken_atom i atom.Str h0 refl in let r0 = passed_text i t0 in let l = leaf_depth n in record { read = r0; names = text_stands i; size = omega arith; depth = omega arith }
  atom_fits (atom_true {n = n} {i = i} h0) = let t0 = taken_atom i atom.True h0 refl in let r0 = passed i in let l = leaf_depth n in record { read = r0; names = tt; size = omega arith; depth = omega arith }
  atom_fits (atom_false {n = n} {i = i} h0) = let t0 = taken_atom i atom.False h0 refl in let r0 = passed i in let l = leaf_depth n in record { read = r0; names = tt; size = omega arith; depth = omega arith }
  atom_fits (atom_nil {n = n} {i = i} h0) = let t0 = taken_atom i atom.Nil h0 refl in let r0 = passed i in let l = leaf_depth n in record { read = r0; names = tt; size = omega arith; depth = omega arith }
  atom_fits (atom_group {i = i} h0 h1) = let t0 = taken_atom i atom.Group h0 refl in let s1 = group_fits h1 in record { read = s1.read; names = s1.names; size = omega arith; depth = omega arith }
  atom_fits (atom_list {i = i} h0 h1) = let t0 = taken_atom i atom.List h0 refl in let s1 = enclosed_fit h1 in record { read = s1.read; names = s1.names; size = omega arith; depth = omega arith }

  pub group_fits : {n : ℕ} {i : Input} {x : PlainExpr} {m : Input} → IsGroup n i (found x m) → ExprFits (atom_depth n) i x m
  group_fits (group_is {n = n} {i = i} {x = x} {m1 = m1} h0 h1 h2) = let d0 = deeper n h0 in let s1 = whole_fits h1 in let t2 = taken k.Close m1 h2 in let r2 = passed m1 in let r1 = reads_on s1.read r2 in let p0 = passed i in let r0 = reads_on p0 r1 in record { read = r0; names = expr_kept r2.more x s1.names; size = omega arith; depth = omega arith }

  pub named_fits : {n : ℕ} {i : Input} {x : PlainExpr} {m : Input} → IsNamed n i (found x m) → Takes i → ExprFits (atom_depth n) i x m
  named_fits (named_call {i = i} h0 h1) start = let t0 = taken k.Open (next i) h0 in let s1 = enclosed_fit h1 in let r0 = reads_on (passed_name i start) s1.read in record { read = r0; names = (omega (arith, name_stands i, s1.read.more), s1.names); size = omega arith; depth = omega arith }
  named_fits (named_self {n = n} {i = i} _ h1) start = let t1 = taken k.SelfWord i h1 in let r0 = passed i in let l = leaf_depth n in record { read = r0; names = tt; size = omega arith; depth = omega arith }
  named_fits (named_var {n = n} {i = i} _ _) start = let r0 = passed_name i start in let l = leaf_depth n in record { read = r0; names = name_stands i; size = omega arith; depth = omega arith }

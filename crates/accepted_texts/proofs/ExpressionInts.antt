-- The ints of an expression are those that were read.
use Rattle.std.proofs.Common.{ℕ, ℤ, pos, List, [], ◌∷◌}
use Rattle.py_tree.specs.declared.names.Place.{Place}
use Rattle.py_tree.specs.declared.terminal.Terminal.{Terminal}
use Rattle.py_tree.specs.PlainExpressions.{PlainExpr, PlainLink, exprs_of, links_of}
use Rattle.py_tree.specs.Reading.{Input, found, next, here}
use Rattle.py_tree.specs.ExpressionGrammar.{joined_or, joined_and, chained, IsWhole, IsOr, IsOrs, IsAnd, IsAnds, IsNot, IsCompare, IsSum, IsSums, IsTerm, IsTerms, IsUnary, IsPostfix, IsTails, IsEnclosed, IsArgs, IsMore, IsAtom, IsGroup, IsNamed, whole_plain, whole_cond, or_is, ors_end, ors_more, and_is, ands_end, ands_more, not_is, not_as, compare_plain, compare_by, compare_is_none, compare_is_not_none, sum_is, sums_end, sums_more, term_is, terms_end, terms_more, unary_minus, unary_plus, unary_as, postfix_is, tails_end, tails_dot, tails_call, tails_index, enclosed_is, args_none, args_is, more_end, more_comma, more_is, atom_name, atom_int, atom_str, atom_true, atom_false, atom_nil, atom_group, atom_list, group_is, named_call, named_self, named_var}
use Rattle.program_meaning.specs.WrittenInts.{ExprInts, ExprsInts, LinksInts}
use Rattle.accepted_texts.proofs.LeftInts.{LeftInts, passed, passed_name, passed_text, int_here}

module _ (P : ℤ → Type 0) where
  or_joined : (at : Place) (x : PlainExpr) (xs : List PlainExpr) → ExprInts P x → ExprsInts P (exprs_of xs) → ExprInts P (joined_or at x xs)
  unfolding ExprInts
  or_joined at x [] first others = first
  or_joined at x (y ∷ ys) first others = (first, others)

  and_joined : (at : Place) (x : PlainExpr) (xs : List PlainExpr) → ExprInts P x → ExprsInts P (exprs_of xs) → ExprInts P (joined_and at x xs)
  unfolding ExprInts
  and_joined at x [] first others = first
  and_joined at x (y ∷ ys) first others = (first, others)

  links_chained : (at : Place) (x : PlainExpr) (ls : List PlainLink) → ExprInts P x → LinksInts P (links_of ls) → ExprInts P (chained at x ls)
  unfolding ExprInts
  links_chained at x [] first others = first
  links_chained at x (l ∷ ls) first others = (first, others)

module _ (P : ℤ → Type 0) (nought : P (pos 0)) where
  mutual
    unfolding ExprInts

    pub whole_ints : {n : ℕ} {i : Input} {x : PlainExpr} {m : Input} → IsWhole n i (found x m) → LeftInts P i → ExprInts P x × LeftInts P m
    whole_ints (whole_plain h0 _) s = or_ints h0 s
    whole_ints (whole_cond {m1 = m1} {m2 = m2} h0 _ h2 _ _ h5) s =
        let x = or_ints h0 s in
        let y = or_ints h2 (passed P m1 x.1) in
        let z = whole_ints h5 (passed P m2 y.1) in
        ((y.0, x.0, z.0), z.1)

    pub or_ints : {n : ℕ} {i : Input} {x : PlainExpr} {m : Input} → IsOr n i (found x m) → LeftInts P i → ExprInts P x × LeftInts P m
    or_ints (or_is {i = i} {x = x} {xs = xs} h0 h1) s =
        let first = and_ints h0 s in
        let others = ors_ints h1 first.1 in
        (or_joined P (here i) x xs first.0 others.0, others.1)

    pub ors_ints : {n : ℕ} {i : Input} {xs : List PlainExpr} {m : Input} → IsOrs n i (found xs m) → LeftInts P i → ExprsInts P (exprs_of xs) × LeftInts P m
    ors_ints (ors_end _) s = (tt, s)
    ors_ints (ors_more {i = i} _ h1 h2) s =
        let first = and_ints h1 (passed P i s) in
        let others = ors_ints h2 first.1 in
        ((first.0, others.0), others.1)

    pub and_ints : {n : ℕ} {i : Input} {x : PlainExpr} {m : Input} → IsAnd n i (found x m) → LeftInts P i → ExprInts P x × LeftInts P m
    and_ints (and_is {i = i} {x = x} {xs = xs} h0 h1) s =
        let first = not_ints h0 s in
        let others = ands_ints h1 first.1 in
        (and_joined P (here i) x xs first.0 others.0, others.1)

    pub ands_ints : {n : ℕ} {i : Input} {xs : List PlainExpr} {m : Input} → IsAnds n i (found xs m) → LeftInts P i → ExprsInts P (exprs_of xs) × LeftInts P m
    ands_ints (ands_end _) s = (tt, s)
    ands_ints (ands_more {i = i} _ h1 h2) s =
        let first = not_ints h1 (passed P i s) in
        let others = ands_ints h2 first.1 in
        ((first.0, others.0), others.1)

    pub not_ints : {n : ℕ} {i : Input} {x : PlainExpr} {m : Input} → IsNot n i (found x m) → LeftInts P i → ExprInts P x × LeftInts P m
    not_ints (not_is {i = i} _ _ h2) s = not_ints h2 (passed P i s)
    not_ints (not_as _ h1) s = compare_ints h1 s

    pub compare_ints : {n : ℕ} {i : Input} {x : PlainExpr} {m : Input} → IsCompare n i (found x m) → LeftInts P i → ExprInts P x × LeftInts P m
    compare_ints (compare_plain h0 _ _) s = sum_ints h0 s
    compare_ints (compare_by {m1 = m1} h0 _ h2) s =
        let left = sum_ints h0 s in
        let right = sum_ints h2 (passed P m1 left.1) in
        ((left.0, right.0), right.1)
    compare_ints (compare_is_none {m1 = m1} h0 _ _ _ _) s =
        let x = sum_ints h0 s in
        (x.0, passed P (next m1) (passed P m1 x.1))
    compare_ints (compare_is_not_none {m1 = m1} h0 _ _ _ _) s =
        let x = sum_ints h0 s in
        (x.0, passed P (next (next m1)) (passed P (next m1) (passed P m1 x.1)))

    pub sum_ints : {n : ℕ} {i : Input} {x : PlainExpr} {m : Input} → IsSum n i (found x m) → LeftInts P i → ExprInts P x × LeftInts P m
    sum_ints (sum_is {i = i} {x = x} {ls = ls} h0 h1) s =
        let first = term_ints h0 s in
        let others = sums_ints h1 first.1 in
        (links_chained P (here i) x ls first.0 others.0, others.1)

    pub sums_ints : {n : ℕ} {i : Input} {ls : List PlainLink} {m : Input} → IsSums n i (found ls m) → LeftInts P i → LinksInts P (links_of ls) × LeftInts P m
    sums_ints (sums_end _) s = (tt, s)
    sums_ints (sums_more {i = i} _ h1 h2) s =
        let first = term_ints h1 (passed P i s) in
        let others = sums_ints h2 first.1 in
        ((first.0, others.0), others.1)

    pub term_ints : {n : ℕ} {i : Input} {x : PlainExpr} {m : Input} → IsTerm n i (found x m) → LeftInts P i → ExprInts P x × LeftInts P m
    term_ints (term_is {i = i} {x = x} {ls = ls} h0 h1) s =
        let first = unary_ints h0 s in
        let others = terms_ints h1 first.1 in
        (links_chained P (here i) x ls first.0 others.0, others.1)

    pub terms_ints : {n : ℕ} {i : Input} {ls : List PlainLink} {m : Input} → IsTerms n i (found ls m) → LeftInts P i → LinksInts P (links_of ls) × LeftInts P m
    terms_ints (terms_end _) s = (tt, s)
    terms_ints (terms_more {i = i} _ h1 h2) s =
        let first = unary_ints h1 (passed P i s) in
        let others = terms_ints h2 first.1 in
        ((first.0, others.0), others.1)

    pub unary_ints : {n : ℕ} {i : Input} {x : PlainExpr} {m : Input} → IsUnary n i (found x m) → LeftInts P i → ExprInts P x × LeftInts P m
    unary_ints (unary_minus {i = i} _ _ h2) s = unary_ints h2 (passed P i s)
    unary_ints (unary_plus {i = i} _ _ _ h3) s = unary_ints h3 (passed P i s)
    unary_ints (unary_as _ _ h2) s = postfix_ints h2 s

    pub postfix_ints : {n : ℕ} {i : Input} {x : PlainExpr} {m : Input} → IsPostfix n i (found x m) → LeftInts P i → ExprInts P x × LeftInts P m
    postfix_ints (postfix_is h0 h1) s = let on = atom_ints h0 s in tails_ints h1 on.0 on.1

    pub tails_ints : {n : ℕ} {at : Place} {x : PlainExpr} {i : Input} {y : PlainExpr} {m : Input} → IsTails n at x i (found y m) → ExprInts P x → LeftInts P i → ExprInts P y × LeftInts P m
    tails_ints (tails_end _ _) on s = (on, s)
    tails_ints (tails_dot {i = i} _ _ _ _ h4) on s = tails_ints h4 on (passed_name P (next i) (passed P i s))
    tails_ints (tails_call {i = i} _ _ _ _ h4 h5) on s =
        let args = enclosed_ints h4 (passed_name P (next i) (passed P i s)) in
        tails_ints h5 (on, args.0) args.1
    tails_ints (tails_index {i = i} {m1 = m1} _ _ _ h3 _ h5) on s =
        let index = whole_ints h3 (passed P i s) in
        tails_ints h5 (on, index.0) (passed P m1 index.1)

    pub enclosed_ints : {n : ℕ} {c : Terminal} {i : Input} {xs : List PlainExpr} {m : Input} → IsEnclosed n c i (found xs m) → LeftInts P i → ExprsInts P (exprs_of xs) × LeftInts P m
    enclosed_ints (enclosed_is {i = i} {m1 = m1} _ h1 _) s = let args = args_ints h1 (passed P i s) in (args.0, passed P m1 args.1)

    pub args_ints : {n : ℕ} {i : Input} {xs : List PlainExpr} {m : Input} → IsArgs n i (found xs m) → LeftInts P i → ExprsInts P (exprs_of xs) × LeftInts P m
    args_ints (args_none _) s = (tt, s)
    args_ints (args_is _ h1 h2) s =
        let first = whole_ints h1 s in
        let others = more_ints h2 first.1 in
        ((first.0, others.0), others.1)

    pub more_ints : {n : ℕ} {i : Input} {xs : List PlainExpr} {m : Input} → IsMore n i (found xs m) → LeftInts P i → ExprsInts P (exprs_of xs) × LeftInts P m
    more_ints (more_end _) s = (tt, s)
    more_ints (more_comma {i = i} _ _) s = (tt, passed P i s)
    more_ints (more_is {i = i} _ _ h2 h3) s =
        let first = whole_ints h2 (passed P i s) in
        let others = more_ints h3 first.1 in
        ((first.0, others.0), others.1)

    pub atom_ints : {n : ℕ} {i : Input} {x : PlainExpr} {m : Input} → IsAtom n i (found x m) → LeftInts P i → ExprInts P x × LeftInts P m
    atom_ints (atom_name _ h1) s = named_ints h1 s
    atom_ints (atom_int {i = i} _) s = (int_here P i nought s, passed P i s)
    atom_ints (atom_str {i = i} _) s = (tt, passed_text P i s)
    atom_ints (atom_true {i = i} _) s = (tt, passed P i s)
    atom_ints (atom_false {i = i} _) s = (tt, passed P i s)
    atom_ints (atom_nil {i = i} _) s = (tt, passed P i s)
    atom_ints (atom_group _ h1) s = group_ints h1 s
    atom_ints (atom_list _ h1) s = enclosed_ints h1 s

    pub group_ints : {n : ℕ} {i : Input} {x : PlainExpr} {m : Input} → IsGroup n i (found x m) → LeftInts P i → ExprInts P x × LeftInts P m
    group_ints (group_is {i = i} {m1 = m1} _ h1 _) s = let x = whole_ints h1 (passed P i s) in (x.0, passed P m1 x.1)

    pub named_ints : {n : ℕ} {i : Input} {x : PlainExpr} {m : Input} → IsNamed n i (found x m) → LeftInts P i → ExprInts P x × LeftInts P m
    named_ints (named_call {i = i} _ h1) s = enclosed_ints h1 (passed_name P i s)
    named_ints (named_self {i = i} _ _) s = (tt, passed P i s)
    named_ints (named_var {i = i} _ _) s = (tt, passed_name P i s)

-- Reading an expression has one outcome at most.
use Rattle.std.proofs.Common.{◌≡◌, ℕ, ◌-◌, List, arith, refl, ap}
use Rattle.py_tree.specs.declared.names.Place.{Place}
use Rattle.py_tree.specs.declared.terminal.Terminal.{Terminal}
use Rattle.py_tree.specs.PlainExpressions.{PlainExpr, PAttr, PCall, PIndex, PlainLink, exprs_of}
use Rattle.py_tree.specs.Reading.{Input, Outcome, next, here, named, name_number}
use Rattle.py_tree.specs.ExpressionGrammar.{IsWhole, IsOr, IsOrs, IsAnd, IsAnds, IsNot, IsCompare, IsSum, IsSums, IsTerm, IsTerms, IsUnary, IsPostfix, IsTails, IsEnclosed, IsArgs, IsMore, IsAtom, IsGroup, IsNamed, whole_plain_stops_x, whole_plain, whole_cond_stops_y, whole_cond_needs_else, whole_cond_deep, whole_cond_stops_z, whole_cond, or_is_stops_x, or_is_stops_xs, or_is, ors_end, ors_more_stops_x, ors_more_stops_xs, ors_more, and_is_stops_x, and_is_stops_xs, and_is, ands_end, ands_more_stops_x, ands_more_stops_xs, ands_more, not_is_deep, not_is_stops_x, not_is, not_as, compare_plain_stops_x, compare_plain, compare_by_stops_y, compare_by, compare_is_none_needs_none, compare_is_none, compare_is_not_none_needs_none, compare_is_not_none, sum_is_stops_x, sum_is_stops_ls, sum_is, sums_end, sums_more_stops_x, sums_more_stops_ls, sums_more, term_is_stops_x, term_is_stops_ls, term_is, terms_end, terms_more_stops_x, terms_more_stops_ls, terms_more, unary_minus_deep, unary_minus_stops_x, unary_minus, unary_plus_deep, unary_plus_stops_x, unary_plus, unary_as, postfix_is_stops_x, postfix_is, tails_end, tails_dot_deep, tails_dot_needs_name, tails_dot, tails_call_stops_xs, tails_call, tails_index_deep, tails_index_stops_y, tails_index_needs_closebracket, tails_index, enclosed_is_deep, enclosed_is_stops_xs, enclosed_is_needs_close, enclosed_is, args_none, args_is_stops_x, args_is_stops_xs, args_is, more_end, more_comma, more_is_stops_x, more_is_stops_xs, more_is, atom_name, atom_int, atom_str, atom_true, atom_false, atom_nil, atom_group, atom_list_stops_xs, atom_list, atom_other, group_is_deep, group_is_stops_x, group_is_needs_close, group_is, named_call_stops_xs, named_call, named_self, named_var}
use Rattle.py_tree.proofs.OneOutcome.{same_rest, same_part}

same_attribute : {at at' : Place} {x x' : PlainExpr} {i i' : Input} → at ≡ at' → x ≡ x' → i ≡ i' → (PAttr at x (name_number (next i)) (here (next i))) ≡ (PAttr at' x' (name_number (next i')) (here (next i')))
same_attribute eat ex ei = cc

same_call : {at at' : Place} {x x' : PlainExpr} {i i' : Input} {xs xs' : List PlainExpr} → at ≡ at' → x ≡ x' → i ≡ i' → xs ≡ xs' → (PCall at x (name_number (next i)) (here (next i)) (exprs_of xs)) ≡ (PCall at' x' (name_number (next i')) (here (next i')) (exprs_of xs'))
same_call eat ex ei exs = cc

same_index : {at at' : Place} {x x' : PlainExpr} {y y' : PlainExpr} → at ≡ at' → x ≡ x' → y ≡ y' → (PIndex at x y) ≡ (PIndex at' x' y')
same_index eat ex ey = cc

mutual
  pub whole_one : {n n' : ℕ} {i i' : Input} {o o' : Outcome PlainExpr} → IsWhole n i o → n ≡ n' → i ≡ i' → IsWhole n' i' o' → o ≡ o'
  whole_one (whole_plain_stops_x h0) en ei (whole_plain_stops_x h0') = let s1 = or_one h0 en ei h0' in cc
  whole_one (whole_plain_stops_x h0) en ei (whole_plain h0' h1') = let s1 = or_one h0 en ei h0' in cc
  whole_one (whole_plain_stops_x h0) en ei (whole_cond_stops_y h0' h1' h2') = let s1 = or_one h0 en ei h0' in cc
  whole_one (whole_plain_stops_x h0) en ei (whole_cond_needs_else h0' h1' h2' h3') = let s1 = or_one h0 en ei h0' in cc
  whole_one (whole_plain_stops_x h0) en ei (whole_cond_deep h0' h1' h2' h3' h4') = let s1 = or_one h0 en ei h0' in cc
  whole_one (whole_plain_stops_x h0) en ei (whole_cond_stops_z h0' h1' h2' h3' h4' h5') = let s1 = or_one h0 en ei h0' in cc
  whole_one (whole_plain_stops_x h0) en ei (whole_cond h0' h1' h2' h3' h4' h5') = let s1 = or_one h0 en ei h0' in cc
  whole_one (whole_plain h0 h1) en ei (whole_plain_stops_x h0') = let s1 = or_one h0 en ei h0' in cc
  whole_one (whole_plain h0 h1) en ei (whole_plain h0' h1') = let s1 = or_one h0 en ei h0' in cc
  whole_one (whole_plain h0 h1) en ei (whole_cond_stops_y h0' h1' h2') = let s1 = or_one h0 en ei h0' in cc
  whole_one (whole_plain h0 h1) en ei (whole_cond_needs_else h0' h1' h2' h3') = let s1 = or_one h0 en ei h0' in cc
  whole_one (whole_plain h0 h1) en ei (whole_cond_deep h0' h1' h2' h3' h4') = let s1 = or_one h0 en ei h0' in cc
  whole_one (whole_plain h0 h1) en ei (whole_cond_stops_z h0' h1' h2' h3' h4' h5') = let s1 = or_one h0 en ei h0' in cc
  whole_one (whole_plain h0 h1) en ei (whole_cond h0' h1' h2' h3' h4' h5') = let s1 = or_one h0 en ei h0' in cc
  whole_one (whole_cond_stops_y h0 h1 h2) en ei (whole_plain_stops_x h0') = let s1 = or_one h0 en ei h0' in cc
  whole_one (whole_cond_stops_y h0 h1 h2) en ei (whole_plain h0' h1') = let s1 = or_one h0 en ei h0' in cc
  whole_one (whole_cond_stops_y h0 h1 h2) en ei (whole_cond_stops_y h0' h1' h2') = let s1 = or_one h0 en ei h0' in let s2 = or_one h2 en (ap (λ z. next z) (same_rest s1)) h2' in cc
  whole_one (whole_cond_stops_y h0 h1 h2) en ei (whole_cond_needs_else h0' h1' h2' h3') = let s1 = or_one h0 en ei h0' in let s2 = or_one h2 en (ap (λ z. next z) (same_rest s1)) h2' in cc
  whole_one (whole_cond_stops_y h0 h1 h2) en ei (whole_cond_deep h0' h1' h2' h3' h4') = let s1 = or_one h0 en ei h0' in let s2 = or_one h2 en (ap (λ z. next z) (same_rest s1)) h2' in cc
  whole_one (whole_cond_stops_y h0 h1 h2) en ei (whole_cond_stops_z h0' h1' h2' h3' h4' h5') = let s1 = or_one h0 en ei h0' in let s2 = or_one h2 en (ap (λ z. next z) (same_rest s1)) h2' in cc
  whole_one (whole_cond_stops_y h0 h1 h2) en ei (whole_cond h0' h1' h2' h3' h4' h5') = let s1 = or_one h0 en ei h0' in let s2 = or_one h2 en (ap (λ z. next z) (same_rest s1)) h2' in cc
  whole_one (whole_cond_needs_else h0 h1 h2 h3) en ei (whole_plain_stops_x h0') = let s1 = or_one h0 en ei h0' in cc
  whole_one (whole_cond_needs_else h0 h1 h2 h3) en ei (whole_plain h0' h1') = let s1 = or_one h0 en ei h0' in cc
  whole_one (whole_cond_needs_else h0 h1 h2 h3) en ei (whole_cond_stops_y h0' h1' h2') = let s1 = or_one h0 en ei h0' in let s2 = or_one h2 en (ap (λ z. next z) (same_rest s1)) h2' in cc
  whole_one (whole_cond_needs_else h0 h1 h2 h3) en ei (whole_cond_needs_else h0' h1' h2' h3') = let s1 = or_one h0 en ei h0' in let s2 = or_one h2 en (ap (λ z. next z) (same_rest s1)) h2' in cc
  whole_one (whole_cond_needs_else h0 h1 h2 h3) en ei (whole_cond_deep h0' h1' h2' h3' h4') = let s1 = or_one h0 en ei h0' in let s2 = or_one h2 en (ap (λ z. next z) (same_rest s1)) h2' in cc
  whole_one (whole_cond_needs_else h0 h1 h2 h3) en ei (whole_cond_stops_z h0' h1' h2' h3' h4' h5') = let s1 = or_one h0 en ei h0' in let s2 = or_one h2 en (ap (λ z. next z) (same_rest s1)) h2' in cc
  whole_one (whole_cond_needs_else h0 h1 h2 h3) en ei (whole_cond h0' h1' h2' h3' h4' h5') = let s1 = or_one h0 en ei h0' in let s2 = or_one h2 en (ap (λ z. next z) (same_rest s1)) h2' in cc
  whole_one (whole_cond_deep h0 h1 h2 h3 h4) en ei (whole_plain_stops_x h0') = let s1 = or_one h0 en ei h0' in cc
  whole_one (whole_cond_deep h0 h1 h2 h3 h4) en ei (whole_plain h0' h1') = let s1 = or_one h0 en ei h0' in cc
  whole_one (whole_cond_deep h0 h1 h2 h3 h4) en ei (whole_cond_stops_y h0' h1' h2') = let s1 = or_one h0 en ei h0' in let s2 = or_one h2 en (ap (λ z. next z) (same_rest s1)) h2' in cc
  whole_one (whole_cond_deep h0 h1 h2 h3 h4) en ei (whole_cond_needs_else h0' h1' h2' h3') = let s1 = or_one h0 en ei h0' in let s2 = or_one h2 en (ap (λ z. next z) (same_rest s1)) h2' in cc
  whole_one (whole_cond_deep h0 h1 h2 h3 h4) en ei (whole_cond_deep h0' h1' h2' h3' h4') = let s1 = or_one h0 en ei h0' in let s2 = or_one h2 en (ap (λ z. next z) (same_rest s1)) h2' in cc
  whole_one (whole_cond_deep h0 h1 h2 h3 h4) en ei (whole_cond_stops_z h0' h1' h2' h3' h4' h5') = let s1 = or_one h0 en ei h0' in let s2 = or_one h2 en (ap (λ z. next z) (same_rest s1)) h2' in absurd (omega arith)
  whole_one (whole_cond_deep h0 h1 h2 h3 h4) en ei (whole_cond h0' h1' h2' h3' h4' h5') = let s1 = or_one h0 en ei h0' in let s2 = or_one h2 en (ap (λ z. next z) (same_rest s1)) h2' in absurd (omega arith)
  whole_one (whole_cond_stops_z h0 h1 h2 h3 h4 h5) en ei (whole_plain_stops_x h0') = let s1 = or_one h0 en ei h0' in cc
  whole_one (whole_cond_stops_z h0 h1 h2 h3 h4 h5) en ei (whole_plain h0' h1') = let s1 = or_one h0 en ei h0' in cc
  whole_one (whole_cond_stops_z h0 h1 h2 h3 h4 h5) en ei (whole_cond_stops_y h0' h1' h2') = let s1 = or_one h0 en ei h0' in let s2 = or_one h2 en (ap (λ z. next z) (same_rest s1)) h2' in cc
  whole_one (whole_cond_stops_z h0 h1 h2 h3 h4 h5) en ei (whole_cond_needs_else h0' h1' h2' h3') = let s1 = or_one h0 en ei h0' in let s2 = or_one h2 en (ap (λ z. next z) (same_rest s1)) h2' in cc
  whole_one (whole_cond_stops_z h0 h1 h2 h3 h4 h5) en ei (whole_cond_deep h0' h1' h2' h3' h4') = let s1 = or_one h0 en ei h0' in let s2 = or_one h2 en (ap (λ z. next z) (same_rest s1)) h2' in absurd (omega arith)
  whole_one (whole_cond_stops_z h0 h1 h2 h3 h4 h5) en ei (whole_cond_stops_z h0' h1' h2' h3' h4' h5') = let s1 = or_one h0 en ei h0' in let s2 = or_one h2 en (ap (λ z. next z) (same_rest s1)) h2' in let s3 = whole_one h5 (ap (λ z. z - 1) en) (ap (λ z. next z) (same_rest s2)) h5' in cc
  whole_one (whole_cond_stops_z h0 h1 h2 h3 h4 h5) en ei (whole_cond h0' h1' h2' h3' h4' h5') = let s1 = or_one h0 en ei h0' in let s2 = or_one h2 en (ap (λ z. next z) (same_rest s1)) h2' in let s3 = whole_one h5 (ap (λ z. z - 1) en) (ap (λ z. next z) (same_rest s2)) h5' in cc
  whole_one (whole_cond h0 h1 h2 h3 h4 h5) en ei (whole_plain_stops_x h0') = let s1 = or_one h0 en ei h0' in cc
  whole_one (whole_cond h0 h1 h2 h3 h4 h5) en ei (whole_plain h0' h1') = let s1 = or_one h0 en ei h0' in cc
  whole_one (whole_cond h0 h1 h2 h3 h4 h5) en ei (whole_cond_stops_y h0' h1' h2') = let s1 = or_one h0 en ei h0' in let s2 = or_one h2 en (ap (λ z. next z) (same_rest s1)) h2' in cc
  whole_one (whole_cond h0 h1 h2 h3 h4 h5) en ei (whole_cond_needs_else h0' h1' h2' h3') = let s1 = or_one h0 en ei h0' in let s2 = or_one h2 en (ap (λ z. next z) (same_rest s1)) h2' in cc
  whole_one (whole_cond h0 h1 h2 h3 h4 h5) en ei (whole_cond_deep h0' h1' h2' h3' h4') = let s1 = or_one h0 en ei h0' in let s2 = or_one h2 en (ap (λ z. next z) (same_rest s1)) h2' in absurd (omega arith)
  whole_one (whole_cond h0 h1 h2 h3 h4 h5) en ei (whole_cond_stops_z h0' h1' h2' h3' h4' h5') = let s1 = or_one h0 en ei h0' in let s2 = or_one h2 en (ap (λ z. next z) (same_rest s1)) h2' in let s3 = whole_one h5 (ap (λ z. z - 1) en) (ap (λ z. next z) (same_rest s2)) h5' in cc
  whole_one (whole_cond h0 h1 h2 h3 h4 h5) en ei (whole_cond h0' h1' h2' h3' h4' h5') = let s1 = or_one h0 en ei h0' in let s2 = or_one h2 en (ap (λ z. next z) (same_rest s1)) h2' in let s3 = whole_one h5 (ap (λ z. z - 1) en) (ap (λ z. next z) (same_rest s2)) h5' in cc

  pub or_one : {n n' : ℕ} {i i' : Input} {o o' : Outcome PlainExpr} → IsOr n i o → n ≡ n' → i ≡ i' → IsOr n' i' o' → o ≡ o'
  or_one (or_is_stops_x h0) en ei (or_is_stops_x h0') = let s1 = and_one h0 en ei h0' in cc
  or_one (or_is_stops_x h0) en ei (or_is_stops_xs h0' h1') = let s1 = and_one h0 en ei h0' in cc
  or_one (or_is_stops_x h0) en ei (or_is h0' h1') = let s1 = and_one h0 en ei h0' in cc
  or_one (or_is_stops_xs h0 h1) en ei (or_is_stops_x h0') = let s1 = and_one h0 en ei h0' in cc
  or_one (or_is_stops_xs h0 h1) en ei (or_is_stops_xs h0' h1') = let s1 = and_one h0 en ei h0' in let s2 = ors_one h1 en (same_rest s1) h1' in cc
  or_one (or_is_stops_xs h0 h1) en ei (or_is h0' h1') = let s1 = and_one h0 en ei h0' in let s2 = ors_one h1 en (same_rest s1) h1' in cc
  or_one (or_is h0 h1) en ei (or_is_stops_x h0') = let s1 = and_one h0 en ei h0' in cc
  or_one (or_is h0 h1) en ei (or_is_stops_xs h0' h1') = let s1 = and_one h0 en ei h0' in let s2 = ors_one h1 en (same_rest s1) h1' in cc
  or_one (or_is h0 h1) en ei (or_is h0' h1') = let s1 = and_one h0 en ei h0' in let s2 = ors_one h1 en (same_rest s1) h1' in cc

  pub ors_one : {n n' : ℕ} {i i' : Input} {o o' : Outcome (List PlainExpr)} → IsOrs n i o → n ≡ n' → i ≡ i' → IsOrs n' i' o' → o ≡ o'
  ors_one (ors_end h0) en ei (ors_end h0') = cc
  ors_one (ors_end h0) en ei (ors_more_stops_x h0' h1') = cc
  ors_one (ors_end h0) en ei (ors_more_stops_xs h0' h1' h2') = cc
  ors_one (ors_end h0) en ei (ors_more h0' h1' h2') = cc
  ors_one (ors_more_stops_x h0 h1) en ei (ors_end h0') = cc
  ors_one (ors_more_stops_x h0 h1) en ei (ors_more_stops_x h0' h1') = let s1 = and_one h1 en (ap (λ z. next z) ei) h1' in cc
  ors_one (ors_more_stops_x h0 h1) en ei (ors_more_stops_xs h0' h1' h2') = let s1 = and_one h1 en (ap (λ z. next z) ei) h1' in cc
  ors_one (ors_more_stops_x h0 h1) en ei (ors_more h0' h1' h2') = let s1 = and_one h1 en (ap (λ z. next z) ei) h1' in cc
  ors_one (ors_more_stops_xs h0 h1 h2) en ei (ors_end h0') = cc
  ors_one (ors_more_stops_xs h0 h1 h2) en ei (ors_more_stops_x h0' h1') = let s1 = and_one h1 en (ap (λ z. next z) ei) h1' in cc
  ors_one (ors_more_stops_xs h0 h1 h2) en ei (ors_more_stops_xs h0' h1' h2') = let s1 = and_one h1 en (ap (λ z. next z) ei) h1' in let s2 = ors_one h2 en (same_rest s1) h2' in cc
  ors_one (ors_more_stops_xs h0 h1 h2) en ei (ors_more h0' h1' h2') = let s1 = and_one h1 en (ap (λ z. next z) ei) h1' in let s2 = ors_one h2 en (same_rest s1) h2' in cc
  ors_one (ors_more h0 h1 h2) en ei (ors_end h0') = cc
  ors_one (ors_more h0 h1 h2) en ei (ors_more_stops_x h0' h1') = let s1 = and_one h1 en (ap (λ z. next z) ei) h1' in cc
  ors_one (ors_more h0 h1 h2) en ei (ors_more_stops_xs h0' h1' h2') = let s1 = and_one h1 en (ap (λ z. next z) ei) h1' in let s2 = ors_one h2 en (same_rest s1) h2' in cc
  ors_one (ors_more h0 h1 h2) en ei (ors_more h0' h1' h2') = let s1 = and_one h1 en (ap (λ z. next z) ei) h1' in let s2 = ors_one h2 en (same_rest s1) h2' in cc

  pub and_one : {n n' : ℕ} {i i' : Input} {o o' : Outcome PlainExpr} → IsAnd n i o → n ≡ n' → i ≡ i' → IsAnd n' i' o' → o ≡ o'
  and_one (and_is_stops_x h0) en ei (and_is_stops_x h0') = let s1 = not_one h0 en ei h0' in cc
  and_one (and_is_stops_x h0) en ei (and_is_stops_xs h0' h1') = let s1 = not_one h0 en ei h0' in cc
  and_one (and_is_stops_x h0) en ei (and_is h0' h1') = let s1 = not_one h0 en ei h0' in cc
  and_one (and_is_stops_xs h0 h1) en ei (and_is_stops_x h0') = let s1 = not_one h0 en ei h0' in cc
  and_one (and_is_stops_xs h0 h1) en ei (and_is_stops_xs h0' h1') = let s1 = not_one h0 en ei h0' in let s2 = ands_one h1 en (same_rest s1) h1' in cc
  and_one (and_is_stops_xs h0 h1) en ei (and_is h0' h1') = let s1 = not_one h0 en ei h0' in let s2 = ands_one h1 en (same_rest s1) h1' in cc
  and_one (and_is h0 h1) en ei (and_is_stops_x h0') = let s1 = not_one h0 en ei h0' in cc
  and_one (and_is h0 h1) en ei (and_is_stops_xs h0' h1') = let s1 = not_one h0 en ei h0' in let s2 = ands_one h1 en (same_rest s1) h1' in cc
  and_one (and_is h0 h1) en ei (and_is h0' h1') = let s1 = not_one h0 en ei h0' in let s2 = ands_one h1 en (same_rest s1) h1' in cc

  pub ands_one : {n n' : ℕ} {i i' : Input} {o o' : Outcome (List PlainExpr)} → IsAnds n i o → n ≡ n' → i ≡ i' → IsAnds n' i' o' → o ≡ o'
  ands_one (ands_end h0) en ei (ands_end h0') = cc
  ands_one (ands_end h0) en ei (ands_more_stops_x h0' h1') = cc
  ands_one (ands_end h0) en ei (ands_more_stops_xs h0' h1' h2') = cc
  ands_one (ands_end h0) en ei (ands_more h0' h1' h2') = cc
  ands_one (ands_more_stops_x h0 h1) en ei (ands_end h0') = cc
  ands_one (ands_more_stops_x h0 h1) en ei (ands_more_stops_x h0' h1') = let s1 = not_one h1 en (ap (λ z. next z) ei) h1' in cc
  ands_one (ands_more_stops_x h0 h1) en ei (ands_more_stops_xs h0' h1' h2') = let s1 = not_one h1 en (ap (λ z. next z) ei) h1' in cc
  ands_one (ands_more_stops_x h0 h1) en ei (ands_more h0' h1' h2') = let s1 = not_one h1 en (ap (λ z. next z) ei) h1' in cc
  ands_one (ands_more_stops_xs h0 h1 h2) en ei (ands_end h0') = cc
  ands_one (ands_more_stops_xs h0 h1 h2) en ei (ands_more_stops_x h0' h1') = let s1 = not_one h1 en (ap (λ z. next z) ei) h1' in cc
  ands_one (ands_more_stops_xs h0 h1 h2) en ei (ands_more_stops_xs h0' h1' h2') = let s1 = not_one h1 en (ap (λ z. next z) ei) h1' in let s2 = ands_one h2 en (same_rest s1) h2' in cc
  ands_one (ands_more_stops_xs h0 h1 h2) en ei (ands_more h0' h1' h2') = let s1 = not_one h1 en (ap (λ z. next z) ei) h1' in let s2 = ands_one h2 en (same_rest s1) h2' in cc
  ands_one (ands_more h0 h1 h2) en ei (ands_end h0') = cc
  ands_one (ands_more h0 h1 h2) en ei (ands_more_stops_x h0' h1') = let s1 = not_one h1 en (ap (λ z. next z) ei) h1' in cc
  ands_one (ands_more h0 h1 h2) en ei (ands_more_stops_xs h0' h1' h2') = let s1 = not_one h1 en (ap (λ z. next z) ei) h1' in let s2 = ands_one h2 en (same_rest s1) h2' in cc
  ands_one (ands_more h0 h1 h2) en ei (ands_more h0' h1' h2') = let s1 = not_one h1 en (ap (λ z. next z) ei) h1' in let s2 = ands_one h2 en (same_rest s1) h2' in cc

  pub not_one : {n n' : ℕ} {i i' : Input} {o o' : Outcome PlainExpr} → IsNot n i o → n ≡ n' → i ≡ i' → IsNot n' i' o' → o ≡ o'
  not_one (not_is_deep h0 h1) en ei (not_is_deep h0' h1') = cc
  not_one (not_is_deep h0 h1) en ei (not_is_stops_x h0' h1' h2') = absurd (omega arith)
  not_one (not_is_deep h0 h1) en ei (not_is h0' h1' h2') = absurd (omega arith)
  not_one (not_is_deep h0 h1) en ei (not_as h0' h1') = cc
  not_one (not_is_stops_x h0 h1 h2) en ei (not_is_deep h0' h1') = absurd (omega arith)
  not_one (not_is_stops_x h0 h1 h2) en ei (not_is_stops_x h0' h1' h2') = let s1 = not_one h2 (ap (λ z. z - 1) en) (ap (λ z. next z) ei) h2' in cc
  not_one (not_is_stops_x h0 h1 h2) en ei (not_is h0' h1' h2') = let s1 = not_one h2 (ap (λ z. z - 1) en) (ap (λ z. next z) ei) h2' in cc
  not_one (not_is_stops_x h0 h1 h2) en ei (not_as h0' h1') = cc
  not_one (not_is h0 h1 h2) en ei (not_is_deep h0' h1') = absurd (omega arith)
  not_one (not_is h0 h1 h2) en ei (not_is_stops_x h0' h1' h2') = let s1 = not_one h2 (ap (λ z. z - 1) en) (ap (λ z. next z) ei) h2' in cc
  not_one (not_is h0 h1 h2) en ei (not_is h0' h1' h2') = let s1 = not_one h2 (ap (λ z. z - 1) en) (ap (λ z. next z) ei) h2' in cc
  not_one (not_is h0 h1 h2) en ei (not_as h0' h1') = cc
  not_one (not_as h0 h1) en ei (not_is_deep h0' h1') = cc
  not_one (not_as h0 h1) en ei (not_is_stops_x h0' h1' h2') = cc
  not_one (not_as h0 h1) en ei (not_is h0' h1' h2') = cc
  not_one (not_as h0 h1) en ei (not_as h0' h1') = let s1 = compare_one h1 en ei h1' in cc

  pub compare_one : {n n' : ℕ} {i i' : Input} {o o' : Outcome PlainExpr} → IsCompare n i o → n ≡ n' → i ≡ i' → IsCompare n' i' o' → o ≡ o'
  compare_one (compare_plain_stops_x h0) en ei (compare_plain_stops_x h0') = let s1 = sum_one h0 en ei h0' in cc
  compare_one (compare_plain_stops_x h0) en ei (compare_plain h0' h1' h2') = let s1 = sum_one h0 en ei h0' in cc
  compare_one (compare_plain_stops_x h0) en ei (compare_by_stops_y h0' h1' h2') = let s1 = sum_one h0 en ei h0' in cc
  compare_one (compare_plain_stops_x h0) en ei (compare_by h0' h1' h2') = let s1 = sum_one h0 en ei h0' in cc
  compare_one (compare_plain_stops_x h0) en ei (compare_is_none_needs_none h0' h1' h2' h3' h4') = let s1 = sum_one h0 en ei h0' in cc
  compare_one (compare_plain_stops_x h0) en ei (compare_is_none h0' h1' h2' h3' h4') = let s1 = sum_one h0 en ei h0' in cc
  compare_one (compare_plain_stops_x h0) en ei (compare_is_not_none_needs_none h0' h1' h2' h3' h4') = let s1 = sum_one h0 en ei h0' in cc
  compare_one (compare_plain_stops_x h0) en ei (compare_is_not_none h0' h1' h2' h3' h4') = let s1 = sum_one h0 en ei h0' in cc
  compare_one (compare_plain h0 h1 h2) en ei (compare_plain_stops_x h0') = let s1 = sum_one h0 en ei h0' in cc
  compare_one (compare_plain h0 h1 h2) en ei (compare_plain h0' h1' h2') = let s1 = sum_one h0 en ei h0' in cc
  compare_one (compare_plain h0 h1 h2) en ei (compare_by_stops_y h0' h1' h2') = let s1 = sum_one h0 en ei h0' in cc
  compare_one (compare_plain h0 h1 h2) en ei (compare_by h0' h1' h2') = let s1 = sum_one h0 en ei h0' in cc
  compare_one (compare_plain h0 h1 h2) en ei (compare_is_none_needs_none h0' h1' h2' h3' h4') = let s1 = sum_one h0 en ei h0' in cc
  compare_one (compare_plain h0 h1 h2) en ei (compare_is_none h0' h1' h2' h3' h4') = let s1 = sum_one h0 en ei h0' in cc
  compare_one (compare_plain h0 h1 h2) en ei (compare_is_not_none_needs_none h0' h1' h2' h3' h4') = let s1 = sum_one h0 en ei h0' in cc
  compare_one (compare_plain h0 h1 h2) en ei (compare_is_not_none h0' h1' h2' h3' h4') = let s1 = sum_one h0 en ei h0' in cc
  compare_one (compare_by_stops_y h0 h1 h2) en ei (compare_plain_stops_x h0') = let s1 = sum_one h0 en ei h0' in cc
  compare_one (compare_by_stops_y h0 h1 h2) en ei (compare_plain h0' h1' h2') = let s1 = sum_one h0 en ei h0' in cc
  compare_one (compare_by_stops_y h0 h1 h2) en ei (compare_by_stops_y h0' h1' h2') = let s1 = sum_one h0 en ei h0' in let s2 = sum_one h2 en (ap (λ z. next z) (same_rest s1)) h2' in cc
  compare_one (compare_by_stops_y h0 h1 h2) en ei (compare_by h0' h1' h2') = let s1 = sum_one h0 en ei h0' in let s2 = sum_one h2 en (ap (λ z. next z) (same_rest s1)) h2' in cc
  compare_one (compare_by_stops_y h0 h1 h2) en ei (compare_is_none_needs_none h0' h1' h2' h3' h4') = let s1 = sum_one h0 en ei h0' in cc
  compare_one (compare_by_stops_y h0 h1 h2) en ei (compare_is_none h0' h1' h2' h3' h4') = let s1 = sum_one h0 en ei h0' in cc
  compare_one (compare_by_stops_y h0 h1 h2) en ei (compare_is_not_none_needs_none h0' h1' h2' h3' h4') = let s1 = sum_one h0 en ei h0' in cc
  compare_one (compare_by_stops_y h0 h1 h2) en ei (compare_is_not_none h0' h1' h2' h3' h4') = let s1 = sum_one h0 en ei h0' in cc
  compare_one (compare_by h0 h1 h2) en ei (compare_plain_stops_x h0') = let s1 = sum_one h0 en ei h0' in cc
  compare_one (compare_by h0 h1 h2) en ei (compare_plain h0' h1' h2') = let s1 = sum_one h0 en ei h0' in cc
  compare_one (compare_by h0 h1 h2) en ei (compare_by_stops_y h0' h1' h2') = let s1 = sum_one h0 en ei h0' in let s2 = sum_one h2 en (ap (λ z. next z) (same_rest s1)) h2' in cc
  compare_one (compare_by h0 h1 h2) en ei (compare_by h0' h1' h2') = let s1 = sum_one h0 en ei h0' in let s2 = sum_one h2 en (ap (λ z. next z) (same_rest s1)) h2' in cc
  compare_one (compare_by h0 h1 h2) en ei (compare_is_none_needs_none h0' h1' h2' h3' h4') = let s1 = sum_one h0 en ei h0' in cc
  compare_one (compare_by h0 h1 h2) en ei (compare_is_none h0' h1' h2' h3' h4') = let s1 = sum_one h0 en ei h0' in cc
  compare_one (compare_by h0 h1 h2) en ei (compare_is_not_none_needs_none h0' h1' h2' h3' h4') = let s1 = sum_one h0 en ei h0' in cc
  compare_one (compare_by h0 h1 h2) en ei (compare_is_not_none h0' h1' h2' h3' h4') = let s1 = sum_one h0 en ei h0' in cc
  compare_one (compare_is_none_needs_none h0 h1 h2 h3 h4) en ei (compare_plain_stops_x h0') = let s1 = sum_one h0 en ei h0' in cc
  compare_one (compare_is_none_needs_none h0 h1 h2 h3 h4) en ei (compare_plain h0' h1' h2') = let s1 = sum_one h0 en ei h0' in cc
  compare_one (compare_is_none_needs_none h0 h1 h2 h3 h4) en ei (compare_by_stops_y h0' h1' h2') = let s1 = sum_one h0 en ei h0' in cc
  compare_one (compare_is_none_needs_none h0 h1 h2 h3 h4) en ei (compare_by h0' h1' h2') = let s1 = sum_one h0 en ei h0' in cc
  compare_one (compare_is_none_needs_none h0 h1 h2 h3 h4) en ei (compare_is_none_needs_none h0' h1' h2' h3' h4') = let s1 = sum_one h0 en ei h0' in cc
  compare_one (compare_is_none_needs_none h0 h1 h2 h3 h4) en ei (compare_is_none h0' h1' h2' h3' h4') = let s1 = sum_one h0 en ei h0' in cc
  compare_one (compare_is_none_needs_none h0 h1 h2 h3 h4) en ei (compare_is_not_none_needs_none h0' h1' h2' h3' h4') = let s1 = sum_one h0 en ei h0' in cc
  compare_one (compare_is_none_needs_none h0 h1 h2 h3 h4) en ei (compare_is_not_none h0' h1' h2' h3' h4') = let s1 = sum_one h0 en ei h0' in cc
  compare_one (compare_is_none h0 h1 h2 h3 h4) en ei (compare_plain_stops_x h0') = let s1 = sum_one h0 en ei h0' in cc
  compare_one (compare_is_none h0 h1 h2 h3 h4) en ei (compare_plain h0' h1' h2') = let s1 = sum_one h0 en ei h0' in cc
  compare_one (compare_is_none h0 h1 h2 h3 h4) en ei (compare_by_stops_y h0' h1' h2') = let s1 = sum_one h0 en ei h0' in cc
  compare_one (compare_is_none h0 h1 h2 h3 h4) en ei (compare_by h0' h1' h2') = let s1 = sum_one h0 en ei h0' in cc
  compare_one (compare_is_none h0 h1 h2 h3 h4) en ei (compare_is_none_needs_none h0' h1' h2' h3' h4') = let s1 = sum_one h0 en ei h0' in cc
  compare_one (compare_is_none h0 h1 h2 h3 h4) en ei (compare_is_none h0' h1' h2' h3' h4') = let s1 = sum_one h0 en ei h0' in cc
  compare_one (compare_is_none h0 h1 h2 h3 h4) en ei (compare_is_not_none_needs_none h0' h1' h2' h3' h4') = let s1 = sum_one h0 en ei h0' in cc
  compare_one (compare_is_none h0 h1 h2 h3 h4) en ei (compare_is_not_none h0' h1' h2' h3' h4') = let s1 = sum_one h0 en ei h0' in cc
  compare_one (compare_is_not_none_needs_none h0 h1 h2 h3 h4) en ei (compare_plain_stops_x h0') = let s1 = sum_one h0 en ei h0' in cc
  compare_one (compare_is_not_none_needs_none h0 h1 h2 h3 h4) en ei (compare_plain h0' h1' h2') = let s1 = sum_one h0 en ei h0' in cc
  compare_one (compare_is_not_none_needs_none h0 h1 h2 h3 h4) en ei (compare_by_stops_y h0' h1' h2') = let s1 = sum_one h0 en ei h0' in cc
  compare_one (compare_is_not_none_needs_none h0 h1 h2 h3 h4) en ei (compare_by h0' h1' h2') = let s1 = sum_one h0 en ei h0' in cc
  compare_one (compare_is_not_none_needs_none h0 h1 h2 h3 h4) en ei (compare_is_none_needs_none h0' h1' h2' h3' h4') = let s1 = sum_one h0 en ei h0' in cc
  compare_one (compare_is_not_none_needs_none h0 h1 h2 h3 h4) en ei (compare_is_none h0' h1' h2' h3' h4') = let s1 = sum_one h0 en ei h0' in cc
  compare_one (compare_is_not_none_needs_none h0 h1 h2 h3 h4) en ei (compare_is_not_none_needs_none h0' h1' h2' h3' h4') = let s1 = sum_one h0 en ei h0' in cc
  compare_one (compare_is_not_none_needs_none h0 h1 h2 h3 h4) en ei (compare_is_not_none h0' h1' h2' h3' h4') = let s1 = sum_one h0 en ei h0' in cc
  compare_one (compare_is_not_none h0 h1 h2 h3 h4) en ei (compare_plain_stops_x h0') = let s1 = sum_one h0 en ei h0' in cc
  compare_one (compare_is_not_none h0 h1 h2 h3 h4) en ei (compare_plain h0' h1' h2') = let s1 = sum_one h0 en ei h0' in cc
  compare_one (compare_is_not_none h0 h1 h2 h3 h4) en ei (compare_by_stops_y h0' h1' h2') = let s1 = sum_one h0 en ei h0' in cc
  compare_one (compare_is_not_none h0 h1 h2 h3 h4) en ei (compare_by h0' h1' h2') = let s1 = sum_one h0 en ei h0' in cc
  compare_one (compare_is_not_none h0 h1 h2 h3 h4) en ei (compare_is_none_needs_none h0' h1' h2' h3' h4') = let s1 = sum_one h0 en ei h0' in cc
  compare_one (compare_is_not_none h0 h1 h2 h3 h4) en ei (compare_is_none h0' h1' h2' h3' h4') = let s1 = sum_one h0 en ei h0' in cc
  compare_one (compare_is_not_none h0 h1 h2 h3 h4) en ei (compare_is_not_none_needs_none h0' h1' h2' h3' h4') = let s1 = sum_one h0 en ei h0' in cc
  compare_one (compare_is_not_none h0 h1 h2 h3 h4) en ei (compare_is_not_none h0' h1' h2' h3' h4') = let s1 = sum_one h0 en ei h0' in cc

  pub sum_one : {n n' : ℕ} {i i' : Input} {o o' : Outcome PlainExpr} → IsSum n i o → n ≡ n' → i ≡ i' → IsSum n' i' o' → o ≡ o'
  sum_one (sum_is_stops_x h0) en ei (sum_is_stops_x h0') = let s1 = term_one h0 en ei h0' in cc
  sum_one (sum_is_stops_x h0) en ei (sum_is_stops_ls h0' h1') = let s1 = term_one h0 en ei h0' in cc
  sum_one (sum_is_stops_x h0) en ei (sum_is h0' h1') = let s1 = term_one h0 en ei h0' in cc
  sum_one (sum_is_stops_ls h0 h1) en ei (sum_is_stops_x h0') = let s1 = term_one h0 en ei h0' in cc
  sum_one (sum_is_stops_ls h0 h1) en ei (sum_is_stops_ls h0' h1') = let s1 = term_one h0 en ei h0' in let s2 = sums_one h1 en (same_rest s1) h1' in cc
  sum_one (sum_is_stops_ls h0 h1) en ei (sum_is h0' h1') = let s1 = term_one h0 en ei h0' in let s2 = sums_one h1 en (same_rest s1) h1' in cc
  sum_one (sum_is h0 h1) en ei (sum_is_stops_x h0') = let s1 = term_one h0 en ei h0' in cc
  sum_one (sum_is h0 h1) en ei (sum_is_stops_ls h0' h1') = let s1 = term_one h0 en ei h0' in let s2 = sums_one h1 en (same_rest s1) h1' in cc
  sum_one (sum_is h0 h1) en ei (sum_is h0' h1') = let s1 = term_one h0 en ei h0' in let s2 = sums_one h1 en (same_rest s1) h1' in cc

  pub sums_one : {n n' : ℕ} {i i' : Input} {o o' : Outcome (List PlainLink)} → IsSums n i o → n ≡ n' → i ≡ i' → IsSums n' i' o' → o ≡ o'
  sums_one (sums_end h0) en ei (sums_end h0') = cc
  sums_one (sums_end h0) en ei (sums_more_stops_x h0' h1') = cc
  sums_one (sums_end h0) en ei (sums_more_stops_ls h0' h1' h2') = cc
  sums_one (sums_end h0) en ei (sums_more h0' h1' h2') = cc
  sums_one (sums_more_stops_x h0 h1) en ei (sums_end h0') = cc
  sums_one (sums_more_stops_x h0 h1) en ei (sums_more_stops_x h0' h1') = let s1 = term_one h1 en (ap (λ z. next z) ei) h1' in cc
  sums_one (sums_more_stops_x h0 h1) en ei (sums_more_stops_ls h0' h1' h2') = let s1 = term_one h1 en (ap (λ z. next z) ei) h1' in cc
  sums_one (sums_more_stops_x h0 h1) en ei (sums_more h0' h1' h2') = let s1 = term_one h1 en (ap (λ z. next z) ei) h1' in cc
  sums_one (sums_more_stops_ls h0 h1 h2) en ei (sums_end h0') = cc
  sums_one (sums_more_stops_ls h0 h1 h2) en ei (sums_more_stops_x h0' h1') = let s1 = term_one h1 en (ap (λ z. next z) ei) h1' in cc
  sums_one (sums_more_stops_ls h0 h1 h2) en ei (sums_more_stops_ls h0' h1' h2') = let s1 = term_one h1 en (ap (λ z. next z) ei) h1' in let s2 = sums_one h2 en (same_rest s1) h2' in cc
  sums_one (sums_more_stops_ls h0 h1 h2) en ei (sums_more h0' h1' h2') = let s1 = term_one h1 en (ap (λ z. next z) ei) h1' in let s2 = sums_one h2 en (same_rest s1) h2' in cc
  sums_one (sums_more h0 h1 h2) en ei (sums_end h0') = cc
  sums_one (sums_more h0 h1 h2) en ei (sums_more_stops_x h0' h1') = let s1 = term_one h1 en (ap (λ z. next z) ei) h1' in cc
  sums_one (sums_more h0 h1 h2) en ei (sums_more_stops_ls h0' h1' h2') = let s1 = term_one h1 en (ap (λ z. next z) ei) h1' in let s2 = sums_one h2 en (same_rest s1) h2' in cc
  sums_one (sums_more h0 h1 h2) en ei (sums_more h0' h1' h2') = let s1 = term_one h1 en (ap (λ z. next z) ei) h1' in let s2 = sums_one h2 en (same_rest s1) h2' in cc

  pub term_one : {n n' : ℕ} {i i' : Input} {o o' : Outcome PlainExpr} → IsTerm n i o → n ≡ n' → i ≡ i' → IsTerm n' i' o' → o ≡ o'
  term_one (term_is_stops_x h0) en ei (term_is_stops_x h0') = let s1 = unary_one h0 en ei h0' in cc
  term_one (term_is_stops_x h0) en ei (term_is_stops_ls h0' h1') = let s1 = unary_one h0 en ei h0' in cc
  term_one (term_is_stops_x h0) en ei (term_is h0' h1') = let s1 = unary_one h0 en ei h0' in cc
  term_one (term_is_stops_ls h0 h1) en ei (term_is_stops_x h0') = let s1 = unary_one h0 en ei h0' in cc
  term_one (term_is_stops_ls h0 h1) en ei (term_is_stops_ls h0' h1') = let s1 = unary_one h0 en ei h0' in let s2 = terms_one h1 en (same_rest s1) h1' in cc
  term_one (term_is_stops_ls h0 h1) en ei (term_is h0' h1') = let s1 = unary_one h0 en ei h0' in let s2 = terms_one h1 en (same_rest s1) h1' in cc
  term_one (term_is h0 h1) en ei (term_is_stops_x h0') = let s1 = unary_one h0 en ei h0' in cc
  term_one (term_is h0 h1) en ei (term_is_stops_ls h0' h1') = let s1 = unary_one h0 en ei h0' in let s2 = terms_one h1 en (same_rest s1) h1' in cc
  term_one (term_is h0 h1) en ei (term_is h0' h1') = let s1 = unary_one h0 en ei h0' in let s2 = terms_one h1 en (same_rest s1) h1' in cc

  pub terms_one : {n n' : ℕ} {i i' : Input} {o o' : Outcome (List PlainLink)} → IsTerms n i o → n ≡ n' → i ≡ i' → IsTerms n' i' o' → o ≡ o'
  terms_one (terms_end h0) en ei (terms_end h0') = cc
  terms_one (terms_end h0) en ei (terms_more_stops_x h0' h1') = cc
  terms_one (terms_end h0) en ei (terms_more_stops_ls h0' h1' h2') = cc
  terms_one (terms_end h0) en ei (terms_more h0' h1' h2') = cc
  terms_one (terms_more_stops_x h0 h1) en ei (terms_end h0') = cc
  terms_one (terms_more_stops_x h0 h1) en ei (terms_more_stops_x h0' h1') = let s1 = unary_one h1 en (ap (λ z. next z) ei) h1' in cc
  terms_one (terms_more_stops_x h0 h1) en ei (terms_more_stops_ls h0' h1' h2') = let s1 = unary_one h1 en (ap (λ z. next z) ei) h1' in cc
  terms_one (terms_more_stops_x h0 h1) en ei (terms_more h0' h1' h2') = let s1 = unary_one h1 en (ap (λ z. next z) ei) h1' in cc
  terms_one (terms_more_stops_ls h0 h1 h2) en ei (terms_end h0') = cc
  terms_one (terms_more_stops_ls h0 h1 h2) en ei (terms_more_stops_x h0' h1') = let s1 = unary_one h1 en (ap (λ z. next z) ei) h1' in cc
  terms_one (terms_more_stops_ls h0 h1 h2) en ei (terms_more_stops_ls h0' h1' h2') = let s1 = unary_one h1 en (ap (λ z. next z) ei) h1' in let s2 = terms_one h2 en (same_rest s1) h2' in cc
  terms_one (terms_more_stops_ls h0 h1 h2) en ei (terms_more h0' h1' h2') = let s1 = unary_one h1 en (ap (λ z. next z) ei) h1' in let s2 = terms_one h2 en (same_rest s1) h2' in cc
  terms_one (terms_more h0 h1 h2) en ei (terms_end h0') = cc
  terms_one (terms_more h0 h1 h2) en ei (terms_more_stops_x h0' h1') = let s1 = unary_one h1 en (ap (λ z. next z) ei) h1' in cc
  terms_one (terms_more h0 h1 h2) en ei (terms_more_stops_ls h0' h1' h2') = let s1 = unary_one h1 en (ap (λ z. next z) ei) h1' in let s2 = terms_one h2 en (same_rest s1) h2' in cc
  terms_one (terms_more h0 h1 h2) en ei (terms_more h0' h1' h2') = let s1 = unary_one h1 en (ap (λ z. next z) ei) h1' in let s2 = terms_one h2 en (same_rest s1) h2' in cc

  pub unary_one : {n n' : ℕ} {i i' : Input} {o o' : Outcome PlainExpr} → IsUnary n i o → n ≡ n' → i ≡ i' → IsUnary n' i' o' → o ≡ o'
  unary_one (unary_minus_deep h0 h1) en ei (unary_minus_deep h0' h1') = cc
  unary_one (unary_minus_deep h0 h1) en ei (unary_minus_stops_x h0' h1' h2') = absurd (omega arith)
  unary_one (unary_minus_deep h0 h1) en ei (unary_minus h0' h1' h2') = absurd (omega arith)
  unary_one (unary_minus_deep h0 h1) en ei (unary_plus_deep h0' h1' h2') = cc
  unary_one (unary_minus_deep h0 h1) en ei (unary_plus_stops_x h0' h1' h2' h3') = cc
  unary_one (unary_minus_deep h0 h1) en ei (unary_plus h0' h1' h2' h3') = cc
  unary_one (unary_minus_deep h0 h1) en ei (unary_as h0' h1' h2') = cc
  unary_one (unary_minus_stops_x h0 h1 h2) en ei (unary_minus_deep h0' h1') = absurd (omega arith)
  unary_one (unary_minus_stops_x h0 h1 h2) en ei (unary_minus_stops_x h0' h1' h2') = let s1 = unary_one h2 (ap (λ z. z - 1) en) (ap (λ z. next z) ei) h2' in cc
  unary_one (unary_minus_stops_x h0 h1 h2) en ei (unary_minus h0' h1' h2') = let s1 = unary_one h2 (ap (λ z. z - 1) en) (ap (λ z. next z) ei) h2' in cc
  unary_one (unary_minus_stops_x h0 h1 h2) en ei (unary_plus_deep h0' h1' h2') = cc
  unary_one (unary_minus_stops_x h0 h1 h2) en ei (unary_plus_stops_x h0' h1' h2' h3') = cc
  unary_one (unary_minus_stops_x h0 h1 h2) en ei (unary_plus h0' h1' h2' h3') = cc
  unary_one (unary_minus_stops_x h0 h1 h2) en ei (unary_as h0' h1' h2') = cc
  unary_one (unary_minus h0 h1 h2) en ei (unary_minus_deep h0' h1') = absurd (omega arith)
  unary_one (unary_minus h0 h1 h2) en ei (unary_minus_stops_x h0' h1' h2') = let s1 = unary_one h2 (ap (λ z. z - 1) en) (ap (λ z. next z) ei) h2' in cc
  unary_one (unary_minus h0 h1 h2) en ei (unary_minus h0' h1' h2') = let s1 = unary_one h2 (ap (λ z. z - 1) en) (ap (λ z. next z) ei) h2' in cc
  unary_one (unary_minus h0 h1 h2) en ei (unary_plus_deep h0' h1' h2') = cc
  unary_one (unary_minus h0 h1 h2) en ei (unary_plus_stops_x h0' h1' h2' h3') = cc
  unary_one (unary_minus h0 h1 h2) en ei (unary_plus h0' h1' h2' h3') = cc
  unary_one (unary_minus h0 h1 h2) en ei (unary_as h0' h1' h2') = cc
  unary_one (unary_plus_deep h0 h1 h2) en ei (unary_minus_deep h0' h1') = cc
  unary_one (unary_plus_deep h0 h1 h2) en ei (unary_minus_stops_x h0' h1' h2') = cc
  unary_one (unary_plus_deep h0 h1 h2) en ei (unary_minus h0' h1' h2') = cc
  unary_one (unary_plus_deep h0 h1 h2) en ei (unary_plus_deep h0' h1' h2') = cc
  unary_one (unary_plus_deep h0 h1 h2) en ei (unary_plus_stops_x h0' h1' h2' h3') = absurd (omega arith)
  unary_one (unary_plus_deep h0 h1 h2) en ei (unary_plus h0' h1' h2' h3') = absurd (omega arith)
  unary_one (unary_plus_deep h0 h1 h2) en ei (unary_as h0' h1' h2') = cc
  unary_one (unary_plus_stops_x h0 h1 h2 h3) en ei (unary_minus_deep h0' h1') = cc
  unary_one (unary_plus_stops_x h0 h1 h2 h3) en ei (unary_minus_stops_x h0' h1' h2') = cc
  unary_one (unary_plus_stops_x h0 h1 h2 h3) en ei (unary_minus h0' h1' h2') = cc
  unary_one (unary_plus_stops_x h0 h1 h2 h3) en ei (unary_plus_deep h0' h1' h2') = absurd (omega arith)
  unary_one (unary_plus_stops_x h0 h1 h2 h3) en ei (unary_plus_stops_x h0' h1' h2' h3') = let s1 = unary_one h3 (ap (λ z. z - 1) en) (ap (λ z. next z) ei) h3' in cc
  unary_one (unary_plus_stops_x h0 h1 h2 h3) en ei (unary_plus h0' h1' h2' h3') = let s1 = unary_one h3 (ap (λ z. z - 1) en) (ap (λ z. next z) ei) h3' in cc
  unary_one (unary_plus_stops_x h0 h1 h2 h3) en ei (unary_as h0' h1' h2') = cc
  unary_one (unary_plus h0 h1 h2 h3) en ei (unary_minus_deep h0' h1') = cc
  unary_one (unary_plus h0 h1 h2 h3) en ei (unary_minus_stops_x h0' h1' h2') = cc
  unary_one (unary_plus h0 h1 h2 h3) en ei (unary_minus h0' h1' h2') = cc
  unary_one (unary_plus h0 h1 h2 h3) en ei (unary_plus_deep h0' h1' h2') = absurd (omega arith)
  unary_one (unary_plus h0 h1 h2 h3) en ei (unary_plus_stops_x h0' h1' h2' h3') = let s1 = unary_one h3 (ap (λ z. z - 1) en) (ap (λ z. next z) ei) h3' in cc
  unary_one (unary_plus h0 h1 h2 h3) en ei (unary_plus h0' h1' h2' h3') = let s1 = unary_one h3 (ap (λ z. z - 1) en) (ap (λ z. next z) ei) h3' in cc
  unary_one (unary_plus h0 h1 h2 h3) en ei (unary_as h0' h1' h2') = cc
  unary_one (unary_as h0 h1 h2) en ei (unary_minus_deep h0' h1') = cc
  unary_one (unary_as h0 h1 h2) en ei (unary_minus_stops_x h0' h1' h2') = cc
  unary_one (unary_as h0 h1 h2) en ei (unary_minus h0' h1' h2') = cc
  unary_one (unary_as h0 h1 h2) en ei (unary_plus_deep h0' h1' h2') = cc
  unary_one (unary_as h0 h1 h2) en ei (unary_plus_stops_x h0' h1' h2' h3') = cc
  unary_one (unary_as h0 h1 h2) en ei (unary_plus h0' h1' h2' h3') = cc
  unary_one (unary_as h0 h1 h2) en ei (unary_as h0' h1' h2') = let s1 = postfix_one h2 en ei h2' in cc

  pub postfix_one : {n n' : ℕ} {i i' : Input} {o o' : Outcome PlainExpr} → IsPostfix n i o → n ≡ n' → i ≡ i' → IsPostfix n' i' o' → o ≡ o'
  postfix_one (postfix_is_stops_x h0) en ei (postfix_is_stops_x h0') = let s1 = atom_one h0 en ei h0' in cc
  postfix_one (postfix_is_stops_x h0) en ei (postfix_is h0' h1') = let s1 = atom_one h0 en ei h0' in cc
  postfix_one (postfix_is h0 h1) en ei (postfix_is_stops_x h0') = let s1 = atom_one h0 en ei h0' in cc
  postfix_one (postfix_is h0 h1) en ei (postfix_is h0' h1') = let s1 = atom_one h0 en ei h0' in let s2 = tails_one h1 en (ap (λ z. here z) ei) (same_part s1) (same_rest s1) h1' in cc

  pub tails_one : {n n' : ℕ} {at at' : Place} {x x' : PlainExpr} {i i' : Input} {o o' : Outcome PlainExpr} → IsTails n at x i o → n ≡ n' → at ≡ at' → x ≡ x' → i ≡ i' → IsTails n' at' x' i' o' → o ≡ o'
  tails_one (tails_end h0 h1) en eat ex ei (tails_end h0' h1') = cc
  tails_one (tails_end h0 h1) en eat ex ei (tails_dot_deep h0' h1') = cc
  tails_one (tails_end h0 h1) en eat ex ei (tails_dot_needs_name h0' h1' h2') = cc
  tails_one (tails_end h0 h1) en eat ex ei (tails_dot h0' h1' h2' h3' h4') = cc
  tails_one (tails_end h0 h1) en eat ex ei (tails_call_stops_xs h0' h1' h2' h3' h4') = cc
  tails_one (tails_end h0 h1) en eat ex ei (tails_call h0' h1' h2' h3' h4' h5') = cc
  tails_one (tails_end h0 h1) en eat ex ei (tails_index_deep h0' h1' h2') = cc
  tails_one (tails_end h0 h1) en eat ex ei (tails_index_stops_y h0' h1' h2' h3') = cc
  tails_one (tails_end h0 h1) en eat ex ei (tails_index_needs_closebracket h0' h1' h2' h3' h4') = cc
  tails_one (tails_end h0 h1) en eat ex ei (tails_index h0' h1' h2' h3' h4' h5') = cc
  tails_one (tails_dot_deep h0 h1) en eat ex ei (tails_end h0' h1') = cc
  tails_one (tails_dot_deep h0 h1) en eat ex ei (tails_dot_deep h0' h1') = cc
  tails_one (tails_dot_deep h0 h1) en eat ex ei (tails_dot_needs_name h0' h1' h2') = absurd (omega arith)
  tails_one (tails_dot_deep h0 h1) en eat ex ei (tails_dot h0' h1' h2' h3' h4') = absurd (omega arith)
  tails_one (tails_dot_deep h0 h1) en eat ex ei (tails_call_stops_xs h0' h1' h2' h3' h4') = absurd (omega arith)
  tails_one (tails_dot_deep h0 h1) en eat ex ei (tails_call h0' h1' h2' h3' h4' h5') = absurd (omega arith)
  tails_one (tails_dot_deep h0 h1) en eat ex ei (tails_index_deep h0' h1' h2') = cc
  tails_one (tails_dot_deep h0 h1) en eat ex ei (tails_index_stops_y h0' h1' h2' h3') = cc
  tails_one (tails_dot_deep h0 h1) en eat ex ei (tails_index_needs_closebracket h0' h1' h2' h3' h4') = cc
  tails_one (tails_dot_deep h0 h1) en eat ex ei (tails_index h0' h1' h2' h3' h4' h5') = cc
  tails_one (tails_dot_needs_name h0 h1 h2) en eat ex ei (tails_end h0' h1') = cc
  tails_one (tails_dot_needs_name h0 h1 h2) en eat ex ei (tails_dot_deep h0' h1') = absurd (omega arith)
  tails_one (tails_dot_needs_name h0 h1 h2) en eat ex ei (tails_dot_needs_name h0' h1' h2') = cc
  tails_one (tails_dot_needs_name h0 h1 h2) en eat ex ei (tails_dot h0' h1' h2' h3' h4') = cc
  tails_one (tails_dot_needs_name h0 h1 h2) en eat ex ei (tails_call_stops_xs h0' h1' h2' h3' h4') = cc
  tails_one (tails_dot_needs_name h0 h1 h2) en eat ex ei (tails_call h0' h1' h2' h3' h4' h5') = cc
  tails_one (tails_dot_needs_name h0 h1 h2) en eat ex ei (tails_index_deep h0' h1' h2') = cc
  tails_one (tails_dot_needs_name h0 h1 h2) en eat ex ei (tails_index_stops_y h0' h1' h2' h3') = cc
  tails_one (tails_dot_needs_name h0 h1 h2) en eat ex ei (tails_index_needs_closebracket h0' h1' h2' h3' h4') = cc
  tails_one (tails_dot_needs_name h0 h1 h2) en eat ex ei (tails_index h0' h1' h2' h3' h4' h5') = cc
  tails_one (tails_dot h0 h1 h2 h3 h4) en eat ex ei (tails_end h0' h1') = cc
  tails_one (tails_dot h0 h1 h2 h3 h4) en eat ex ei (tails_dot_deep h0' h1') = absurd (omega arith)
  tails_one (tails_dot h0 h1 h2 h3 h4) en eat ex ei (tails_dot_needs_name h0' h1' h2') = cc
  tails_one (tails_dot h0 h1 h2 h3 h4) en eat ex ei (tails_dot h0' h1' h2' h3' h4') = let s1 = tails_one h4 (ap (λ z. z - 1) en) eat (same_attribute eat ex ei) (ap (λ z. named (next z)) ei) h4' in cc
  tails_one (tails_dot h0 h1 h2 h3 h4) en eat ex ei (tails_call_stops_xs h0' h1' h2' h3' h4') = cc
  tails_one (tails_dot h0 h1 h2 h3 h4) en eat ex ei (tails_call h0' h1' h2' h3' h4' h5') = cc
  tails_one (tails_dot h0 h1 h2 h3 h4) en eat ex ei (tails_index_deep h0' h1' h2') = cc
  tails_one (tails_dot h0 h1 h2 h3 h4) en eat ex ei (tails_index_stops_y h0' h1' h2' h3') = cc
  tails_one (tails_dot h0 h1 h2 h3 h4) en eat ex ei (tails_index_needs_closebracket h0' h1' h2' h3' h4') = cc
  tails_one (tails_dot h0 h1 h2 h3 h4) en eat ex ei (tails_index h0' h1' h2' h3' h4' h5') = cc
  tails_one (tails_call_stops_xs h0 h1 h2 h3 h4) en eat ex ei (tails_end h0' h1') = cc
  tails_one (tails_call_stops_xs h0 h1 h2 h3 h4) en eat ex ei (tails_dot_deep h0' h1') = absurd (omega arith)
  tails_one (tails_call_stops_xs h0 h1 h2 h3 h4) en eat ex ei (tails_dot_needs_name h0' h1' h2') = cc
  tails_one (tails_call_stops_xs h0 h1 h2 h3 h4) en eat ex ei (tails_dot h0' h1' h2' h3' h4') = cc
  tails_one (tails_call_stops_xs h0 h1 h2 h3 h4) en eat ex ei (tails_call_stops_xs h0' h1' h2' h3' h4') = let s1 = enclosed_one h4 (ap (λ z. z - 1) en) refl (ap (λ z. named (next z)) ei) h4' in cc
  tails_one (tails_call_stops_xs h0 h1 h2 h3 h4) en eat ex ei (tails_call h0' h1' h2' h3' h4' h5') = let s1 = enclosed_one h4 (ap (λ z. z - 1) en) refl (ap (λ z. named (next z)) ei) h4' in cc
  tails_one (tails_call_stops_xs h0 h1 h2 h3 h4) en eat ex ei (tails_index_deep h0' h1' h2') = cc
  tails_one (tails_call_stops_xs h0 h1 h2 h3 h4) en eat ex ei (tails_index_stops_y h0' h1' h2' h3') = cc
  tails_one (tails_call_stops_xs h0 h1 h2 h3 h4) en eat ex ei (tails_index_needs_closebracket h0' h1' h2' h3' h4') = cc
  tails_one (tails_call_stops_xs h0 h1 h2 h3 h4) en eat ex ei (tails_index h0' h1' h2' h3' h4' h5') = cc
  tails_one (tails_call h0 h1 h2 h3 h4 h5) en eat ex ei (tails_end h0' h1') = cc
  tails_one (tails_call h0 h1 h2 h3 h4 h5) en eat ex ei (tails_dot_deep h0' h1') = absurd (omega arith)
  tails_one (tails_call h0 h1 h2 h3 h4 h5) en eat ex ei (tails_dot_needs_name h0' h1' h2') = cc
  tails_one (tails_call h0 h1 h2 h3 h4 h5) en eat ex ei (tails_dot h0' h1' h2' h3' h4') = cc
  tails_one (tails_call h0 h1 h2 h3 h4 h5) en eat ex ei (tails_call_stops_xs h0' h1' h2' h3' h4') = let s1 = enclosed_one h4 (ap (λ z. z - 1) en) refl (ap (λ z. named (next z)) ei) h4' in cc
  tails_one (tails_call h0 h1 h2 h3 h4 h5) en eat ex ei (tails_call h0' h1' h2' h3' h4' h5') = let s1 = enclosed_one h4 (ap (λ z. z - 1) en) refl (ap (λ z. named (next z)) ei) h4' in let s2 = tails_one h5 (ap (λ z. z - 1) en) eat (same_call eat ex ei (same_part s1)) (same_rest s1) h5' in cc
  tails_one (tails_call h0 h1 h2 h3 h4 h5) en eat ex ei (tails_index_deep h0' h1' h2') = cc
  tails_one (tails_call h0 h1 h2 h3 h4 h5) en eat ex ei (tails_index_stops_y h0' h1' h2' h3') = cc
  tails_one (tails_call h0 h1 h2 h3 h4 h5) en eat ex ei (tails_index_needs_closebracket h0' h1' h2' h3' h4') = cc
  tails_one (tails_call h0 h1 h2 h3 h4 h5) en eat ex ei (tails_index h0' h1' h2' h3' h4' h5') = cc
  tails_one (tails_index_deep h0 h1 h2) en eat ex ei (tails_end h0' h1') = cc
  tails_one (tails_index_deep h0 h1 h2) en eat ex ei (tails_dot_deep h0' h1') = cc
  tails_one (tails_index_deep h0 h1 h2) en eat ex ei (tails_dot_needs_name h0' h1' h2') = cc
  tails_one (tails_index_deep h0 h1 h2) en eat ex ei (tails_dot h0' h1' h2' h3' h4') = cc
  tails_one (tails_index_deep h0 h1 h2) en eat ex ei (tails_call_stops_xs h0' h1' h2' h3' h4') = cc
  tails_one (tails_index_deep h0 h1 h2) en eat ex ei (tails_call h0' h1' h2' h3' h4' h5') = cc
  tails_one (tails_index_deep h0 h1 h2) en eat ex ei (tails_index_deep h0' h1' h2') = cc
  tails_one (tails_index_deep h0 h1 h2) en eat ex ei (tails_index_stops_y h0' h1' h2' h3') = absurd (omega arith)
  tails_one (tails_index_deep h0 h1 h2) en eat ex ei (tails_index_needs_closebracket h0' h1' h2' h3' h4') = absurd (omega arith)
  tails_one (tails_index_deep h0 h1 h2) en eat ex ei (tails_index h0' h1' h2' h3' h4' h5') = absurd (omega arith)
  tails_one (tails_index_stops_y h0 h1 h2 h3) en eat ex ei (tails_end h0' h1') = cc
  tails_one (tails_index_stops_y h0 h1 h2 h3) en eat ex ei (tails_dot_deep h0' h1') = cc
  tails_one (tails_index_stops_y h0 h1 h2 h3) en eat ex ei (tails_dot_needs_name h0' h1' h2') = cc
  tails_one (tails_index_stops_y h0 h1 h2 h3) en eat ex ei (tails_dot h0' h1' h2' h3' h4') = cc
  tails_one (tails_index_stops_y h0 h1 h2 h3) en eat ex ei (tails_call_stops_xs h0' h1' h2' h3' h4') = cc
  tails_one (tails_index_stops_y h0 h1 h2 h3) en eat ex ei (tails_call h0' h1' h2' h3' h4' h5') = cc
  tails_one (tails_index_stops_y h0 h1 h2 h3) en eat ex ei (tails_index_deep h0' h1' h2') = absurd (omega arith)
  tails_one (tails_index_stops_y h0 h1 h2 h3) en eat ex ei (tails_index_stops_y h0' h1' h2' h3') = let s1 = whole_one h3 (ap (λ z. z - 1) en) (ap (λ z. next z) ei) h3' in cc
  tails_one (tails_index_stops_y h0 h1 h2 h3) en eat ex ei (tails_index_needs_closebracket h0' h1' h2' h3' h4') = let s1 = whole_one h3 (ap (λ z. z - 1) en) (ap (λ z. next z) ei) h3' in cc
  tails_one (tails_index_stops_y h0 h1 h2 h3) en eat ex ei (tails_index h0' h1' h2' h3' h4' h5') = let s1 = whole_one h3 (ap (λ z. z - 1) en) (ap (λ z. next z) ei) h3' in cc
  tails_one (tails_index_needs_closebracket h0 h1 h2 h3 h4) en eat ex ei (tails_end h0' h1') = cc
  tails_one (tails_index_needs_closebracket h0 h1 h2 h3 h4) en eat ex ei (tails_dot_deep h0' h1') = cc
  tails_one (tails_index_needs_closebracket h0 h1 h2 h3 h4) en eat ex ei (tails_dot_needs_name h0' h1' h2') = cc
  tails_one (tails_index_needs_closebracket h0 h1 h2 h3 h4) en eat ex ei (tails_dot h0' h1' h2' h3' h4') = cc
  tails_one (tails_index_needs_closebracket h0 h1 h2 h3 h4) en eat ex ei (tails_call_stops_xs h0' h1' h2' h3' h4') = cc
  tails_one (tails_index_needs_closebracket h0 h1 h2 h3 h4) en eat ex ei (tails_call h0' h1' h2' h3' h4' h5') = cc
  tails_one (tails_index_needs_closebracket h0 h1 h2 h3 h4) en eat ex ei (tails_index_deep h0' h1' h2') = absurd (omega arith)
  tails_one (tails_index_needs_closebracket h0 h1 h2 h3 h4) en eat ex ei (tails_index_stops_y h0' h1' h2' h3') = let s1 = whole_one h3 (ap (λ z. z - 1) en) (ap (λ z. next z) ei) h3' in cc
  tails_one (tails_index_needs_closebracket h0 h1 h2 h3 h4) en eat ex ei (tails_index_needs_closebracket h0' h1' h2' h3' h4') = let s1 = whole_one h3 (ap (λ z. z - 1) en) (ap (λ z. next z) ei) h3' in cc
  tails_one (tails_index_needs_closebracket h0 h1 h2 h3 h4) en eat ex ei (tails_index h0' h1' h2' h3' h4' h5') = let s1 = whole_one h3 (ap (λ z. z - 1) en) (ap (λ z. next z) ei) h3' in cc
  tails_one (tails_index h0 h1 h2 h3 h4 h5) en eat ex ei (tails_end h0' h1') = cc
  tails_one (tails_index h0 h1 h2 h3 h4 h5) en eat ex ei (tails_dot_deep h0' h1') = cc
  tails_one (tails_index h0 h1 h2 h3 h4 h5) en eat ex ei (tails_dot_needs_name h0' h1' h2') = cc
  tails_one (tails_index h0 h1 h2 h3 h4 h5) en eat ex ei (tails_dot h0' h1' h2' h3' h4') = cc
  tails_one (tails_index h0 h1 h2 h3 h4 h5) en eat ex ei (tails_call_stops_xs h0' h1' h2' h3' h4') = cc
  tails_one (tails_index h0 h1 h2 h3 h4 h5) en eat ex ei (tails_call h0' h1' h2' h3' h4' h5') = cc
  tails_one (tails_index h0 h1 h2 h3 h4 h5) en eat ex ei (tails_index_deep h0' h1' h2') = absurd (omega arith)
  tails_one (tails_index h0 h1 h2 h3 h4 h5) en eat ex ei (tails_index_stops_y h0' h1' h2' h3') = let s1 = whole_one h3 (ap (λ z. z - 1) en) (ap (λ z. next z) ei) h3' in cc
  tails_one (tails_index h0 h1 h2 h3 h4 h5) en eat ex ei (tails_index_needs_closebracket h0' h1' h2' h3' h4') = let s1 = whole_one h3 (ap (λ z. z - 1) en) (ap (λ z. next z) ei) h3' in cc
  tails_one (tails_index h0 h1 h2 h3 h4 h5) en eat ex ei (tails_index h0' h1' h2' h3' h4' h5') = let s1 = whole_one h3 (ap (λ z. z - 1) en) (ap (λ z. next z) ei) h3' in let s2 = tails_one h5 (ap (λ z. z - 1) en) eat (same_index eat ex (same_part s1)) (ap (λ z. next z) (same_rest s1)) h5' in cc

  pub enclosed_one : {n n' : ℕ} {c c' : Terminal} {i i' : Input} {o o' : Outcome (List PlainExpr)} → IsEnclosed n c i o → n ≡ n' → c ≡ c' → i ≡ i' → IsEnclosed n' c' i' o' → o ≡ o'
  enclosed_one (enclosed_is_deep h0) en ec ei (enclosed_is_deep h0') = cc
  enclosed_one (enclosed_is_deep h0) en ec ei (enclosed_is_stops_xs h0' h1') = absurd (omega arith)
  enclosed_one (enclosed_is_deep h0) en ec ei (enclosed_is_needs_close h0' h1' h2') = absurd (omega arith)
  enclosed_one (enclosed_is_deep h0) en ec ei (enclosed_is h0' h1' h2') = absurd (omega arith)
  enclosed_one (enclosed_is_stops_xs h0 h1) en ec ei (enclosed_is_deep h0') = absurd (omega arith)
  enclosed_one (enclosed_is_stops_xs h0 h1) en ec ei (enclosed_is_stops_xs h0' h1') = let s1 = args_one h1 (ap (λ z. z - 1) en) (ap (λ z. next z) ei) h1' in cc
  enclosed_one (enclosed_is_stops_xs h0 h1) en ec ei (enclosed_is_needs_close h0' h1' h2') = let s1 = args_one h1 (ap (λ z. z - 1) en) (ap (λ z. next z) ei) h1' in cc
  enclosed_one (enclosed_is_stops_xs h0 h1) en ec ei (enclosed_is h0' h1' h2') = let s1 = args_one h1 (ap (λ z. z - 1) en) (ap (λ z. next z) ei) h1' in cc
  enclosed_one (enclosed_is_needs_close h0 h1 h2) en ec ei (enclosed_is_deep h0') = absurd (omega arith)
  enclosed_one (enclosed_is_needs_close h0 h1 h2) en ec ei (enclosed_is_stops_xs h0' h1') = let s1 = args_one h1 (ap (λ z. z - 1) en) (ap (λ z. next z) ei) h1' in cc
  enclosed_one (enclosed_is_needs_close h0 h1 h2) en ec ei (enclosed_is_needs_close h0' h1' h2') = let s1 = args_one h1 (ap (λ z. z - 1) en) (ap (λ z. next z) ei) h1' in cc
  enclosed_one (enclosed_is_needs_close h0 h1 h2) en ec ei (enclosed_is h0' h1' h2') = let s1 = args_one h1 (ap (λ z. z - 1) en) (ap (λ z. next z) ei) h1' in cc
  enclosed_one (enclosed_is h0 h1 h2) en ec ei (enclosed_is_deep h0') = absurd (omega arith)
  enclosed_one (enclosed_is h0 h1 h2) en ec ei (enclosed_is_stops_xs h0' h1') = let s1 = args_one h1 (ap (λ z. z - 1) en) (ap (λ z. next z) ei) h1' in cc
  enclosed_one (enclosed_is h0 h1 h2) en ec ei (enclosed_is_needs_close h0' h1' h2') = let s1 = args_one h1 (ap (λ z. z - 1) en) (ap (λ z. next z) ei) h1' in cc
  enclosed_one (enclosed_is h0 h1 h2) en ec ei (enclosed_is h0' h1' h2') = let s1 = args_one h1 (ap (λ z. z - 1) en) (ap (λ z. next z) ei) h1' in cc

  pub args_one : {n n' : ℕ} {i i' : Input} {o o' : Outcome (List PlainExpr)} → IsArgs n i o → n ≡ n' → i ≡ i' → IsArgs n' i' o' → o ≡ o'
  args_one (args_none h0) en ei (args_none h0') = cc
  args_one (args_none h0) en ei (args_is_stops_x h0' h1') = cc
  args_one (args_none h0) en ei (args_is_stops_xs h0' h1' h2') = cc
  args_one (args_none h0) en ei (args_is h0' h1' h2') = cc
  args_one (args_is_stops_x h0 h1) en ei (args_none h0') = cc
  args_one (args_is_stops_x h0 h1) en ei (args_is_stops_x h0' h1') = let s1 = whole_one h1 en ei h1' in cc
  args_one (args_is_stops_x h0 h1) en ei (args_is_stops_xs h0' h1' h2') = let s1 = whole_one h1 en ei h1' in cc
  args_one (args_is_stops_x h0 h1) en ei (args_is h0' h1' h2') = let s1 = whole_one h1 en ei h1' in cc
  args_one (args_is_stops_xs h0 h1 h2) en ei (args_none h0') = cc
  args_one (args_is_stops_xs h0 h1 h2) en ei (args_is_stops_x h0' h1') = let s1 = whole_one h1 en ei h1' in cc
  args_one (args_is_stops_xs h0 h1 h2) en ei (args_is_stops_xs h0' h1' h2') = let s1 = whole_one h1 en ei h1' in let s2 = more_one h2 en (same_rest s1) h2' in cc
  args_one (args_is_stops_xs h0 h1 h2) en ei (args_is h0' h1' h2') = let s1 = whole_one h1 en ei h1' in let s2 = more_one h2 en (same_rest s1) h2' in cc
  args_one (args_is h0 h1 h2) en ei (args_none h0') = cc
  args_one (args_is h0 h1 h2) en ei (args_is_stops_x h0' h1') = let s1 = whole_one h1 en ei h1' in cc
  args_one (args_is h0 h1 h2) en ei (args_is_stops_xs h0' h1' h2') = let s1 = whole_one h1 en ei h1' in let s2 = more_one h2 en (same_rest s1) h2' in cc
  args_one (args_is h0 h1 h2) en ei (args_is h0' h1' h2') = let s1 = whole_one h1 en ei h1' in let s2 = more_one h2 en (same_rest s1) h2' in cc

  pub more_one : {n n' : ℕ} {i i' : Input} {o o' : Outcome (List PlainExpr)} → IsMore n i o → n ≡ n' → i ≡ i' → IsMore n' i' o' → o ≡ o'
  more_one (more_end h0) en ei (more_end h0') = cc
  more_one (more_end h0) en ei (more_comma h0' h1') = cc
  more_one (more_end h0) en ei (more_is_stops_x h0' h1' h2') = cc
  more_one (more_end h0) en ei (more_is_stops_xs h0' h1' h2' h3') = cc
  more_one (more_end h0) en ei (more_is h0' h1' h2' h3') = cc
  more_one (more_comma h0 h1) en ei (more_end h0') = cc
  more_one (more_comma h0 h1) en ei (more_comma h0' h1') = cc
  more_one (more_comma h0 h1) en ei (more_is_stops_x h0' h1' h2') = cc
  more_one (more_comma h0 h1) en ei (more_is_stops_xs h0' h1' h2' h3') = cc
  more_one (more_comma h0 h1) en ei (more_is h0' h1' h2' h3') = cc
  more_one (more_is_stops_x h0 h1 h2) en ei (more_end h0') = cc
  more_one (more_is_stops_x h0 h1 h2) en ei (more_comma h0' h1') = cc
  more_one (more_is_stops_x h0 h1 h2) en ei (more_is_stops_x h0' h1' h2') = let s1 = whole_one h2 en (ap (λ z. next z) ei) h2' in cc
  more_one (more_is_stops_x h0 h1 h2) en ei (more_is_stops_xs h0' h1' h2' h3') = let s1 = whole_one h2 en (ap (λ z. next z) ei) h2' in cc
  more_one (more_is_stops_x h0 h1 h2) en ei (more_is h0' h1' h2' h3') = let s1 = whole_one h2 en (ap (λ z. next z) ei) h2' in cc
  more_one (more_is_stops_xs h0 h1 h2 h3) en ei (more_end h0') = cc
  more_one (more_is_stops_xs h0 h1 h2 h3) en ei (more_comma h0' h1') = cc
  more_one (more_is_stops_xs h0 h1 h2 h3) en ei (more_is_stops_x h0' h1' h2') = let s1 = whole_one h2 en (ap (λ z. next z) ei) h2' in cc
  more_one (more_is_stops_xs h0 h1 h2 h3) en ei (more_is_stops_xs h0' h1' h2' h3') = let s1 = whole_one h2 en (ap (λ z. next z) ei) h2' in let s2 = more_one h3 en (same_rest s1) h3' in cc
  more_one (more_is_stops_xs h0 h1 h2 h3) en ei (more_is h0' h1' h2' h3') = let s1 = whole_one h2 en (ap (λ z. next z) ei) h2' in let s2 = more_one h3 en (same_rest s1) h3' in cc
  more_one (more_is h0 h1 h2 h3) en ei (more_end h0') = cc
  more_one (more_is h0 h1 h2 h3) en ei (more_comma h0' h1') = cc
  more_one (more_is h0 h1 h2 h3) en ei (more_is_stops_x h0' h1' h2') = let s1 = whole_one h2 en (ap (λ z. next z) ei) h2' in cc
  more_one (more_is h0 h1 h2 h3) en ei (more_is_stops_xs h0' h1' h2' h3') = let s1 = whole_one h2 en (ap (λ z. next z) ei) h2' in let s2 = more_one h3 en (same_rest s1) h3' in cc
  more_one (more_is h0 h1 h2 h3) en ei (more_is h0' h1' h2' h3') = let s1 = whole_one h2 en (ap (λ z. next z) ei) h2' in let s2 = more_one h3 en (same_rest s1) h3' in cc

  pub atom_one : {n n' : ℕ} {i i' : Input} {o o' : Outcome PlainExpr} → IsAtom n i o → n ≡ n' → i ≡ i' → IsAtom n' i' o' → o ≡ o'
  atom_one (atom_name h0 h1) en ei (atom_name h0' h1') = let s1 = named_one h1 en ei h1' in cc
  atom_one (atom_name h0 h1) en ei (atom_int h0') = cc
  atom_one (atom_name h0 h1) en ei (atom_str h0') = cc
  atom_one (atom_name h0 h1) en ei (atom_true h0') = cc
  atom_one (atom_name h0 h1) en ei (atom_false h0') = cc
  atom_one (atom_name h0 h1) en ei (atom_nil h0') = cc
  atom_one (atom_name h0 h1) en ei (atom_group h0' h1') = cc
  atom_one (atom_name h0 h1) en ei (atom_list_stops_xs h0' h1') = cc
  atom_one (atom_name h0 h1) en ei (atom_list h0' h1') = cc
  atom_one (atom_name h0 h1) en ei (atom_other h0') = cc
  atom_one (atom_int h0) en ei (atom_name h0' h1') = cc
  atom_one (atom_int h0) en ei (atom_int h0') = cc
  atom_one (atom_int h0) en ei (atom_str h0') = cc
  atom_one (atom_int h0) en ei (atom_true h0') = cc
  atom_one (atom_int h0) en ei (atom_false h0') = cc
  atom_one (atom_int h0) en ei (atom_nil h0') = cc
  atom_one (atom_int h0) en ei (atom_group h0' h1') = cc
  atom_one (atom_int h0) en ei (atom_list_stops_xs h0' h1') = cc
  atom_one (atom_int h0) en ei (atom_list h0' h1') = cc
  atom_one (atom_int h0) en ei (atom_other h0') = cc
  atom_one (atom_str h0) en ei (atom_name h0' h1') = cc
  atom_one (atom_str h0) en ei (atom_int h0') = cc
  atom_one (atom_str h0) en ei (atom_str h0') = cc
  atom_one (atom_str h0) en ei (atom_true h0') = cc
  atom_one (atom_str h0) en ei (atom_false h0') = cc
  atom_one (atom_str h0) en ei (atom_nil h0') = cc
  atom_one (atom_str h0) en ei (atom_group h0' h1') = cc
  atom_one (atom_str h0) en ei (atom_list_stops_xs h0' h1') = cc
  atom_one (atom_str h0) en ei (atom_list h0' h1') = cc
  atom_one (atom_str h0) en ei (atom_other h0') = cc
  atom_one (atom_true h0) en ei (atom_name h0' h1') = cc
  atom_one (atom_true h0) en ei (atom_int h0') = cc
  atom_one (atom_true h0) en ei (atom_str h0') = cc
  atom_one (atom_true h0) en ei (atom_true h0') = cc
  atom_one (atom_true h0) en ei (atom_false h0') = cc
  atom_one (atom_true h0) en ei (atom_nil h0') = cc
  atom_one (atom_true h0) en ei (atom_group h0' h1') = cc
  atom_one (atom_true h0) en ei (atom_list_stops_xs h0' h1') = cc
  atom_one (atom_true h0) en ei (atom_list h0' h1') = cc
  atom_one (atom_true h0) en ei (atom_other h0') = cc
  atom_one (atom_false h0) en ei (atom_name h0' h1') = cc
  atom_one (atom_false h0) en ei (atom_int h0') = cc
  atom_one (atom_false h0) en ei (atom_str h0') = cc
  atom_one (atom_false h0) en ei (atom_true h0') = cc
  atom_one (atom_false h0) en ei (atom_false h0') = cc
  atom_one (atom_false h0) en ei (atom_nil h0') = cc
  atom_one (atom_false h0) en ei (atom_group h0' h1') = cc
  atom_one (atom_false h0) en ei (atom_list_stops_xs h0' h1') = cc
  atom_one (atom_false h0) en ei (atom_list h0' h1') = cc
  atom_one (atom_false h0) en ei (atom_other h0') = cc
  atom_one (atom_nil h0) en ei (atom_name h0' h1') = cc
  atom_one (atom_nil h0) en ei (atom_int h0') = cc
  atom_one (atom_nil h0) en ei (atom_str h0') = cc
  atom_one (atom_nil h0) en ei (atom_true h0') = cc
  atom_one (atom_nil h0) en ei (atom_false h0') = cc
  atom_one (atom_nil h0) en ei (atom_nil h0') = cc
  atom_one (atom_nil h0) en ei (atom_group h0' h1') = cc
  atom_one (atom_nil h0) en ei (atom_list_stops_xs h0' h1') = cc
  atom_one (atom_nil h0) en ei (atom_list h0' h1') = cc
  atom_one (atom_nil h0) en ei (atom_other h0') = cc
  atom_one (atom_group h0 h1) en ei (atom_name h0' h1') = cc
  atom_one (atom_group h0 h1) en ei (atom_int h0') = cc
  atom_one (atom_group h0 h1) en ei (atom_str h0') = cc
  atom_one (atom_group h0 h1) en ei (atom_true h0') = cc
  atom_one (atom_group h0 h1) en ei (atom_false h0') = cc
  atom_one (atom_group h0 h1) en ei (atom_nil h0') = cc
  atom_one (atom_group h0 h1) en ei (atom_group h0' h1') = let s1 = group_one h1 en ei h1' in cc
  atom_one (atom_group h0 h1) en ei (atom_list_stops_xs h0' h1') = cc
  atom_one (atom_group h0 h1) en ei (atom_list h0' h1') = cc
  atom_one (atom_group h0 h1) en ei (atom_other h0') = cc
  atom_one (atom_list_stops_xs h0 h1) en ei (atom_name h0' h1') = cc
  atom_one (atom_list_stops_xs h0 h1) en ei (atom_int h0') = cc
  atom_one (atom_list_stops_xs h0 h1) en ei (atom_str h0') = cc
  atom_one (atom_list_stops_xs h0 h1) en ei (atom_true h0') = cc
  atom_one (atom_list_stops_xs h0 h1) en ei (atom_false h0') = cc
  atom_one (atom_list_stops_xs h0 h1) en ei (atom_nil h0') = cc
  atom_one (atom_list_stops_xs h0 h1) en ei (atom_group h0' h1') = cc
  atom_one (atom_list_stops_xs h0 h1) en ei (atom_list_stops_xs h0' h1') = let s1 = enclosed_one h1 en refl ei h1' in cc
  atom_one (atom_list_stops_xs h0 h1) en ei (atom_list h0' h1') = let s1 = enclosed_one h1 en refl ei h1' in cc
  atom_one (atom_list_stops_xs h0 h1) en ei (atom_other h0') = cc
  atom_one (atom_list h0 h1) en ei (atom_name h0' h1') = cc
  atom_one (atom_list h0 h1) en ei (atom_int h0') = cc
  atom_one (atom_list h0 h1) en ei (atom_str h0') = cc
  atom_one (atom_list h0 h1) en ei (atom_true h0') = cc
  atom_one (atom_list h0 h1) en ei (atom_false h0') = cc
  atom_one (atom_list h0 h1) en ei (atom_nil h0') = cc
  atom_one (atom_list h0 h1) en ei (atom_group h0' h1') = cc
  atom_one (atom_list h0 h1) en ei (atom_list_stops_xs h0' h1') = let s1 = enclosed_one h1 en refl ei h1' in cc
  atom_one (atom_list h0 h1) en ei (atom_list h0' h1') = let s1 = enclosed_one h1 en refl ei h1' in cc
  atom_one (atom_list h0 h1) en ei (atom_other h0') = cc
  atom_one (atom_other h0) en ei (atom_name h0' h1') = cc
  atom_one (atom_other h0) en ei (atom_int h0') = cc
  atom_one (atom_other h0) en ei (atom_str h0') = cc
  atom_one (atom_other h0) en ei (atom_true h0') = cc
  atom_one (atom_other h0) en ei (atom_false h0') = cc
  atom_one (atom_other h0) en ei (atom_nil h0') = cc
  atom_one (atom_other h0) en ei (atom_group h0' h1') = cc
  atom_one (atom_other h0) en ei (atom_list_stops_xs h0' h1') = cc
  atom_one (atom_other h0) en ei (atom_list h0' h1') = cc
  atom_one (atom_other h0) en ei (atom_other h0') = cc

  pub group_one : {n n' : ℕ} {i i' : Input} {o o' : Outcome PlainExpr} → IsGroup n i o → n ≡ n' → i ≡ i' → IsGroup n' i' o' → o ≡ o'
  group_one (group_is_deep h0) en ei (group_is_deep h0') = cc
  group_one (group_is_deep h0) en ei (group_is_stops_x h0' h1') = absurd (omega arith)
  group_one (group_is_deep h0) en ei (group_is_needs_close h0' h1' h2') = absurd (omega arith)
  group_one (group_is_deep h0) en ei (group_is h0' h1' h2') = absurd (omega arith)
  group_one (group_is_stops_x h0 h1) en ei (group_is_deep h0') = absurd (omega arith)
  group_one (group_is_stops_x h0 h1) en ei (group_is_stops_x h0' h1') = let s1 = whole_one h1 (ap (λ z. z - 1) en) (ap (λ z. next z) ei) h1' in cc
  group_one (group_is_stops_x h0 h1) en ei (group_is_needs_close h0' h1' h2') = let s1 = whole_one h1 (ap (λ z. z - 1) en) (ap (λ z. next z) ei) h1' in cc
  group_one (group_is_stops_x h0 h1) en ei (group_is h0' h1' h2') = let s1 = whole_one h1 (ap (λ z. z - 1) en) (ap (λ z. next z) ei) h1' in cc
  group_one (group_is_needs_close h0 h1 h2) en ei (group_is_deep h0') = absurd (omega arith)
  group_one (group_is_needs_close h0 h1 h2) en ei (group_is_stops_x h0' h1') = let s1 = whole_one h1 (ap (λ z. z - 1) en) (ap (λ z. next z) ei) h1' in cc
  group_one (group_is_needs_close h0 h1 h2) en ei (group_is_needs_close h0' h1' h2') = let s1 = whole_one h1 (ap (λ z. z - 1) en) (ap (λ z. next z) ei) h1' in cc
  group_one (group_is_needs_close h0 h1 h2) en ei (group_is h0' h1' h2') = let s1 = whole_one h1 (ap (λ z. z - 1) en) (ap (λ z. next z) ei) h1' in cc
  group_one (group_is h0 h1 h2) en ei (group_is_deep h0') = absurd (omega arith)
  group_one (group_is h0 h1 h2) en ei (group_is_stops_x h0' h1') = let s1 = whole_one h1 (ap (λ z. z - 1) en) (ap (λ z. next z) ei) h1' in cc
  group_one (group_is h0 h1 h2) en ei (group_is_needs_close h0' h1' h2') = let s1 = whole_one h1 (ap (λ z. z - 1) en) (ap (λ z. next z) ei) h1' in cc
  group_one (group_is h0 h1 h2) en ei (group_is h0' h1' h2') = let s1 = whole_one h1 (ap (λ z. z - 1) en) (ap (λ z. next z) ei) h1' in cc

  pub named_one : {n n' : ℕ} {i i' : Input} {o o' : Outcome PlainExpr} → IsNamed n i o → n ≡ n' → i ≡ i' → IsNamed n' i' o' → o ≡ o'
  named_one (named_call_stops_xs h0 h1) en ei (named_call_stops_xs h0' h1') = let s1 = enclosed_one h1 en refl (ap (λ z. named z) ei) h1' in cc
  named_one (named_call_stops_xs h0 h1) en ei (named_call h0' h1') = let s1 = enclosed_one h1 en refl (ap (λ z. named z) ei) h1' in cc
  named_one (named_call_stops_xs h0 h1) en ei (named_self h0' h1') = cc
  named_one (named_call_stops_xs h0 h1) en ei (named_var h0' h1') = cc
  named_one (named_call h0 h1) en ei (named_call_stops_xs h0' h1') = let s1 = enclosed_one h1 en refl (ap (λ z. named z) ei) h1' in cc
  named_one (named_call h0 h1) en ei (named_call h0' h1') = let s1 = enclosed_one h1 en refl (ap (λ z. named z) ei) h1' in cc
  named_one (named_call h0 h1) en ei (named_self h0' h1') = cc
  named_one (named_call h0 h1) en ei (named_var h0' h1') = cc
  named_one (named_self h0 h1) en ei (named_call_stops_xs h0' h1') = cc
  named_one (named_self h0 h1) en ei (named_call h0' h1') = cc
  named_one (named_self h0 h1) en ei (named_self h0' h1') = cc
  named_one (named_self h0 h1) en ei (named_var h0' h1') = cc
  named_one (named_var h0 h1) en ei (named_call_stops_xs h0' h1') = cc
  named_one (named_var h0 h1) en ei (named_call h0' h1') = cc
  named_one (named_var h0 h1) en ei (named_self h0' h1') = cc
  named_one (named_var h0 h1) en ei (named_var h0' h1') = cc

-- The grammar of expressions (Python Language Reference, expressions): reading a part, with so many levels left, finds a tree
-- and what is left behind it, or stops at the token that is refused. Each line of the grammar is a family of rules, a rule for
-- each way in which it ends. A rule whose name ends in `stops_x` ends where its part x does, in `needs_t` where another token
-- stands than t, and in `deep` where no level is left for the token that opens one. `other` refuses a token that begins no
-- alternative, `missing` and `shifted` a line that isn't there or has another column.
use Rattle.std.specs.Prelude.{◌≡◌, ℕ, ◌-◌, ◌<◌, true, false, List, [], ◌∷◌}
use Rattle.std.specs.declared.option.Option.TheVariants.{Some, None}
use Rattle.py_tree.specs.declared.names.Place.{Place}
use Rattle.py_tree.specs.declared.expr.BinOp.{BinOp}
use Rattle.py_tree.specs.declared.expr.Cmp.{Cmp}
use Rattle.py_tree.specs.declared.fault.SyntaxFault.{SyntaxFault}
use Rattle.py_tree.specs.declared.terminal.Terminal.{Terminal}
use Rattle.py_tree.specs.declared.terminal.Terminal.TheVariants as k
use Rattle.py_tree.specs.declared.starts.AtomStart.TheVariants as atom
use Rattle.py_tree.specs.PlainExpressions.{PlainExpr, PInt, PBool, PStr, PNil, PVar, PSelf, PAttr, PCall, PApply, PIndex, PList, PNeg, PPos, PNot, PChain, PAnd, POr, PCompare, PIsNone, PCond, PlainLink, PLink, exprs_of, links_of}
use Rattle.py_tree.specs.Reading.{Input, Outcome, found, stops, next, here, sees, sees_name, int_value, named, name_number, texted, text_number, refused, too_deep, comparison, addition, multiplication, begins_expr, atom_start}

-- one part is itself, and more are an `or`
abbrev pub joined_or : Place → PlainExpr → List PlainExpr → PlainExpr
joined_or at x [] = x
joined_or at x (y ∷ ys) = POr at (exprs_of (x ∷ y ∷ ys))

abbrev pub joined_and : Place → PlainExpr → List PlainExpr → PlainExpr
joined_and at x [] = x
joined_and at x (y ∷ ys) = PAnd at (exprs_of (x ∷ y ∷ ys))

abbrev pub chained : Place → PlainExpr → List PlainLink → PlainExpr
chained at x [] = x
chained at x (l ∷ ls) = PChain at x (links_of (l ∷ ls))

mutual
  -- expr : or ['if' or 'else' expr]
  pub data IsWhole : ℕ → Input → Outcome PlainExpr → Type 0 where
    whole_plain_stops_x : {n : ℕ} {i : Input} {f : SyntaxFault} → IsOr n i (stops f) → IsWhole n i (stops f)
    whole_plain : {n : ℕ} {i : Input} {x : PlainExpr} {m1 : Input} → IsOr n i (found x m1) → sees k.If m1 ≡ false → IsWhole n i (found x m1)
    whole_cond_stops_y : {n : ℕ} {i : Input} {x : PlainExpr} {m1 : Input} {f : SyntaxFault} → IsOr n i (found x m1) → sees k.If m1 ≡ true → IsOr n (next m1) (stops f) → IsWhole n i (stops f)
    whole_cond_needs_else : {n : ℕ} {i : Input} {x : PlainExpr} {m1 : Input} {y : PlainExpr} {m2 : Input} → IsOr n i (found x m1) → sees k.If m1 ≡ true → IsOr n (next m1) (found y m2) → sees k.Else m2 ≡ false → IsWhole n i (stops (refused m2))
    whole_cond_deep : {n : ℕ} {i : Input} {x : PlainExpr} {m1 : Input} {y : PlainExpr} {m2 : Input} → IsOr n i (found x m1) → sees k.If m1 ≡ true → IsOr n (next m1) (found y m2) → sees k.Else m2 ≡ true → n ≡ 0 → IsWhole n i (stops (too_deep m2))
    whole_cond_stops_z : {n : ℕ} {i : Input} {x : PlainExpr} {m1 : Input} {y : PlainExpr} {m2 : Input} {f : SyntaxFault} → IsOr n i (found x m1) → sees k.If m1 ≡ true → IsOr n (next m1) (found y m2) → sees k.Else m2 ≡ true → 0 < n → IsWhole (n - 1) (next m2) (stops f) → IsWhole n i (stops f)
    whole_cond : {n : ℕ} {i : Input} {x : PlainExpr} {m1 : Input} {y : PlainExpr} {m2 : Input} {z : PlainExpr} {m3 : Input} → IsOr n i (found x m1) → sees k.If m1 ≡ true → IsOr n (next m1) (found y m2) → sees k.Else m2 ≡ true → 0 < n → IsWhole (n - 1) (next m2) (found z m3) → IsWhole n i (found (PCond (here i) y x z) m3)

  -- or : and { 'or' and }
  pub data IsOr : ℕ → Input → Outcome PlainExpr → Type 0 where
    or_is_stops_x : {n : ℕ} {i : Input} {f : SyntaxFault} → IsAnd n i (stops f) → IsOr n i (stops f)
    or_is_stops_xs : {n : ℕ} {i : Input} {x : PlainExpr} {m1 : Input} {f : SyntaxFault} → IsAnd n i (found x m1) → IsOrs n m1 (stops f) → IsOr n i (stops f)
    or_is : {n : ℕ} {i : Input} {x : PlainExpr} {m1 : Input} {xs : List PlainExpr} {m2 : Input} → IsAnd n i (found x m1) → IsOrs n m1 (found xs m2) → IsOr n i (found (joined_or (here i) x xs) m2)

  pub data IsOrs : ℕ → Input → Outcome (List PlainExpr) → Type 0 where
    ors_end : {n : ℕ} {i : Input} → sees k.Or i ≡ false → IsOrs n i (found [] i)
    ors_more_stops_x : {n : ℕ} {i : Input} {f : SyntaxFault} → sees k.Or i ≡ true → IsAnd n (next i) (stops f) → IsOrs n i (stops f)
    ors_more_stops_xs : {n : ℕ} {i : Input} {x : PlainExpr} {m1 : Input} {f : SyntaxFault} → sees k.Or i ≡ true → IsAnd n (next i) (found x m1) → IsOrs n m1 (stops f) → IsOrs n i (stops f)
    ors_more : {n : ℕ} {i : Input} {x : PlainExpr} {m1 : Input} {xs : List PlainExpr} {m2 : Input} → sees k.Or i ≡ true → IsAnd n (next i) (found x m1) → IsOrs n m1 (found xs m2) → IsOrs n i (found (x ∷ xs) m2)

  -- and : not { 'and' not }
  pub data IsAnd : ℕ → Input → Outcome PlainExpr → Type 0 where
    and_is_stops_x : {n : ℕ} {i : Input} {f : SyntaxFault} → IsNot n i (stops f) → IsAnd n i (stops f)
    and_is_stops_xs : {n : ℕ} {i : Input} {x : PlainExpr} {m1 : Input} {f : SyntaxFault} → IsNot n i (found x m1) → IsAnds n m1 (stops f) → IsAnd n i (stops f)
    and_is : {n : ℕ} {i : Input} {x : PlainExpr} {m1 : Input} {xs : List PlainExpr} {m2 : Input} → IsNot n i (found x m1) → IsAnds n m1 (found xs m2) → IsAnd n i (found (joined_and (here i) x xs) m2)

  pub data IsAnds : ℕ → Input → Outcome (List PlainExpr) → Type 0 where
    ands_end : {n : ℕ} {i : Input} → sees k.And i ≡ false → IsAnds n i (found [] i)
    ands_more_stops_x : {n : ℕ} {i : Input} {f : SyntaxFault} → sees k.And i ≡ true → IsNot n (next i) (stops f) → IsAnds n i (stops f)
    ands_more_stops_xs : {n : ℕ} {i : Input} {x : PlainExpr} {m1 : Input} {f : SyntaxFault} → sees k.And i ≡ true → IsNot n (next i) (found x m1) → IsAnds n m1 (stops f) → IsAnds n i (stops f)
    ands_more : {n : ℕ} {i : Input} {x : PlainExpr} {m1 : Input} {xs : List PlainExpr} {m2 : Input} → sees k.And i ≡ true → IsNot n (next i) (found x m1) → IsAnds n m1 (found xs m2) → IsAnds n i (found (x ∷ xs) m2)

  -- not : 'not' not | compare
  pub data IsNot : ℕ → Input → Outcome PlainExpr → Type 0 where
    not_is_deep : {n : ℕ} {i : Input} → sees k.Not i ≡ true → n ≡ 0 → IsNot n i (stops (too_deep i))
    not_is_stops_x : {n : ℕ} {i : Input} {f : SyntaxFault} → sees k.Not i ≡ true → 0 < n → IsNot (n - 1) (next i) (stops f) → IsNot n i (stops f)
    not_is : {n : ℕ} {i : Input} {x : PlainExpr} {m1 : Input} → sees k.Not i ≡ true → 0 < n → IsNot (n - 1) (next i) (found x m1) → IsNot n i (found (PNot (here i) x) m1)
    not_as : {n : ℕ} {i : Input} {o : Outcome PlainExpr} → sees k.Not i ≡ false → IsCompare n i o → IsNot n i o

  -- compare : sum [ ('==' | '!=' | '<' | '<=' | '>' | '>=') sum | 'is' ['not'] 'None' ]
  pub data IsCompare : ℕ → Input → Outcome PlainExpr → Type 0 where
    compare_plain_stops_x : {n : ℕ} {i : Input} {f : SyntaxFault} → IsSum n i (stops f) → IsCompare n i (stops f)
    compare_plain : {n : ℕ} {i : Input} {x : PlainExpr} {m1 : Input} → IsSum n i (found x m1) → comparison m1 ≡ None → sees k.Is m1 ≡ false → IsCompare n i (found x m1)
    compare_by_stops_y : {n : ℕ} {i : Input} {x : PlainExpr} {m1 : Input} {c : Cmp} {f : SyntaxFault} → IsSum n i (found x m1) → comparison m1 ≡ Some c → IsSum n (next m1) (stops f) → IsCompare n i (stops f)
    compare_by : {n : ℕ} {i : Input} {x : PlainExpr} {m1 : Input} {c : Cmp} {y : PlainExpr} {m2 : Input} → IsSum n i (found x m1) → comparison m1 ≡ Some c → IsSum n (next m1) (found y m2) → IsCompare n i (found (PCompare (here i) c (here m1) x y) m2)
    compare_is_none_needs_none : {n : ℕ} {i : Input} {x : PlainExpr} {m1 : Input} → IsSum n i (found x m1) → comparison m1 ≡ None → sees k.Is m1 ≡ true → sees k.Not (next m1) ≡ false → sees k.None (next m1) ≡ false → IsCompare n i (stops (refused (next m1)))
    compare_is_none : {n : ℕ} {i : Input} {x : PlainExpr} {m1 : Input} → IsSum n i (found x m1) → comparison m1 ≡ None → sees k.Is m1 ≡ true → sees k.Not (next m1) ≡ false → sees k.None (next m1) ≡ true → IsCompare n i (found (PIsNone (here i) x true) (next (next m1)))
    compare_is_not_none_needs_none : {n : ℕ} {i : Input} {x : PlainExpr} {m1 : Input} → IsSum n i (found x m1) → comparison m1 ≡ None → sees k.Is m1 ≡ true → sees k.Not (next m1) ≡ true → sees k.None (next (next m1)) ≡ false → IsCompare n i (stops (refused (next (next m1))))
    compare_is_not_none : {n : ℕ} {i : Input} {x : PlainExpr} {m1 : Input} → IsSum n i (found x m1) → comparison m1 ≡ None → sees k.Is m1 ≡ true → sees k.Not (next m1) ≡ true → sees k.None (next (next m1)) ≡ true → IsCompare n i (found (PIsNone (here i) x false) (next (next (next m1))))

  -- sum : term { ('+' | '-') term }
  pub data IsSum : ℕ → Input → Outcome PlainExpr → Type 0 where
    sum_is_stops_x : {n : ℕ} {i : Input} {f : SyntaxFault} → IsTerm n i (stops f) → IsSum n i (stops f)
    sum_is_stops_ls : {n : ℕ} {i : Input} {x : PlainExpr} {m1 : Input} {f : SyntaxFault} → IsTerm n i (found x m1) → IsSums n m1 (stops f) → IsSum n i (stops f)
    sum_is : {n : ℕ} {i : Input} {x : PlainExpr} {m1 : Input} {ls : List PlainLink} {m2 : Input} → IsTerm n i (found x m1) → IsSums n m1 (found ls m2) → IsSum n i (found (chained (here i) x ls) m2)

  pub data IsSums : ℕ → Input → Outcome (List PlainLink) → Type 0 where
    sums_end : {n : ℕ} {i : Input} → addition i ≡ None → IsSums n i (found [] i)
    sums_more_stops_x : {n : ℕ} {i : Input} {op : BinOp} {f : SyntaxFault} → addition i ≡ Some op → IsTerm n (next i) (stops f) → IsSums n i (stops f)
    sums_more_stops_ls : {n : ℕ} {i : Input} {op : BinOp} {x : PlainExpr} {m1 : Input} {f : SyntaxFault} → addition i ≡ Some op → IsTerm n (next i) (found x m1) → IsSums n m1 (stops f) → IsSums n i (stops f)
    sums_more : {n : ℕ} {i : Input} {op : BinOp} {x : PlainExpr} {m1 : Input} {ls : List PlainLink} {m2 : Input} → addition i ≡ Some op → IsTerm n (next i) (found x m1) → IsSums n m1 (found ls m2) → IsSums n i (found (PLink op (here i) x ∷ ls) m2)

  -- term : unary { ('*' | '//' | '%') unary }
  pub data IsTerm : ℕ → Input → Outcome PlainExpr → Type 0 where
    term_is_stops_x : {n : ℕ} {i : Input} {f : SyntaxFault} → IsUnary n i (stops f) → IsTerm n i (stops f)
    term_is_stops_ls : {n : ℕ} {i : Input} {x : PlainExpr} {m1 : Input} {f : SyntaxFault} → IsUnary n i (found x m1) → IsTerms n m1 (stops f) → IsTerm n i (stops f)
    term_is : {n : ℕ} {i : Input} {x : PlainExpr} {m1 : Input} {ls : List PlainLink} {m2 : Input} → IsUnary n i (found x m1) → IsTerms n m1 (found ls m2) → IsTerm n i (found (chained (here i) x ls) m2)

  pub data IsTerms : ℕ → Input → Outcome (List PlainLink) → Type 0 where
    terms_end : {n : ℕ} {i : Input} → multiplication i ≡ None → IsTerms n i (found [] i)
    terms_more_stops_x : {n : ℕ} {i : Input} {op : BinOp} {f : SyntaxFault} → multiplication i ≡ Some op → IsUnary n (next i) (stops f) → IsTerms n i (stops f)
    terms_more_stops_ls : {n : ℕ} {i : Input} {op : BinOp} {x : PlainExpr} {m1 : Input} {f : SyntaxFault} → multiplication i ≡ Some op → IsUnary n (next i) (found x m1) → IsTerms n m1 (stops f) → IsTerms n i (stops f)
    terms_more : {n : ℕ} {i : Input} {op : BinOp} {x : PlainExpr} {m1 : Input} {ls : List PlainLink} {m2 : Input} → multiplication i ≡ Some op → IsUnary n (next i) (found x m1) → IsTerms n m1 (found ls m2) → IsTerms n i (found (PLink op (here i) x ∷ ls) m2)

  -- unary : ('-' | '+') unary | postfix
  pub data IsUnary : ℕ → Input → Outcome PlainExpr → Type 0 where
    unary_minus_deep : {n : ℕ} {i : Input} → sees k.Minus i ≡ true → n ≡ 0 → IsUnary n i (stops (too_deep i))
    unary_minus_stops_x : {n : ℕ} {i : Input} {f : SyntaxFault} → sees k.Minus i ≡ true → 0 < n → IsUnary (n - 1) (next i) (stops f) → IsUnary n i (stops f)
    unary_minus : {n : ℕ} {i : Input} {x : PlainExpr} {m1 : Input} → sees k.Minus i ≡ true → 0 < n → IsUnary (n - 1) (next i) (found x m1) → IsUnary n i (found (PNeg (here i) x) m1)
    unary_plus_deep : {n : ℕ} {i : Input} → sees k.Minus i ≡ false → sees k.Plus i ≡ true → n ≡ 0 → IsUnary n i (stops (too_deep i))
    unary_plus_stops_x : {n : ℕ} {i : Input} {f : SyntaxFault} → sees k.Minus i ≡ false → sees k.Plus i ≡ true → 0 < n → IsUnary (n - 1) (next i) (stops f) → IsUnary n i (stops f)
    unary_plus : {n : ℕ} {i : Input} {x : PlainExpr} {m1 : Input} → sees k.Minus i ≡ false → sees k.Plus i ≡ true → 0 < n → IsUnary (n - 1) (next i) (found x m1) → IsUnary n i (found (PPos (here i) x) m1)
    unary_as : {n : ℕ} {i : Input} {o : Outcome PlainExpr} → sees k.Minus i ≡ false → sees k.Plus i ≡ false → IsPostfix n i o → IsUnary n i o

  -- postfix : atom { '.' NAME ['(' args ')'] | '[' expr ']' }
  pub data IsPostfix : ℕ → Input → Outcome PlainExpr → Type 0 where
    postfix_is_stops_x : {n : ℕ} {i : Input} {f : SyntaxFault} → IsAtom n i (stops f) → IsPostfix n i (stops f)
    postfix_is : {n : ℕ} {i : Input} {x : PlainExpr} {m1 : Input} {o : Outcome PlainExpr} → IsAtom n i (found x m1) → IsTails n (here i) x m1 o → IsPostfix n i o

  -- a dot and an index each open a level up to the end of the postfix, and a call's bracket one for its arguments
  pub data IsTails : ℕ → Place → PlainExpr → Input → Outcome PlainExpr → Type 0 where
    tails_end : {n : ℕ} {at : Place} {x : PlainExpr} {i : Input} → sees k.Dot i ≡ false → sees k.OpenBracket i ≡ false → IsTails n at x i (found x i)
    tails_dot_deep : {n : ℕ} {at : Place} {x : PlainExpr} {i : Input} → sees k.Dot i ≡ true → n ≡ 0 → IsTails n at x i (stops (too_deep i))
    tails_dot_needs_name : {n : ℕ} {at : Place} {x : PlainExpr} {i : Input} → sees k.Dot i ≡ true → 0 < n → sees_name (next i) ≡ false → IsTails n at x i (stops (refused (next i)))
    tails_dot : {n : ℕ} {at : Place} {x : PlainExpr} {i : Input} {o : Outcome PlainExpr} → sees k.Dot i ≡ true → 0 < n → sees_name (next i) ≡ true → sees k.Open (named (next i)) ≡ false → IsTails (n - 1) at (PAttr at x (name_number (next i)) (here (next i))) (named (next i)) o → IsTails n at x i o
    tails_call_stops_xs : {n : ℕ} {at : Place} {x : PlainExpr} {i : Input} {f : SyntaxFault} → sees k.Dot i ≡ true → 0 < n → sees_name (next i) ≡ true → sees k.Open (named (next i)) ≡ true → IsEnclosed (n - 1) k.Close (named (next i)) (stops f) → IsTails n at x i (stops f)
    tails_call : {n : ℕ} {at : Place} {x : PlainExpr} {i : Input} {xs : List PlainExpr} {m1 : Input} {o : Outcome PlainExpr} → sees k.Dot i ≡ true → 0 < n → sees_name (next i) ≡ true → sees k.Open (named (next i)) ≡ true → IsEnclosed (n - 1) k.Close (named (next i)) (found xs m1) → IsTails (n - 1) at (PCall at x (name_number (next i)) (here (next i)) (exprs_of xs)) m1 o → IsTails n at x i o
    tails_index_deep : {n : ℕ} {at : Place} {x : PlainExpr} {i : Input} → sees k.Dot i ≡ false → sees k.OpenBracket i ≡ true → n ≡ 0 → IsTails n at x i (stops (too_deep i))
    tails_index_stops_y : {n : ℕ} {at : Place} {x : PlainExpr} {i : Input} {f : SyntaxFault} → sees k.Dot i ≡ false → sees k.OpenBracket i ≡ true → 0 < n → IsWhole (n - 1) (next i) (stops f) → IsTails n at x i (stops f)
    tails_index_needs_closebracket : {n : ℕ} {at : Place} {x : PlainExpr} {i : Input} {y : PlainExpr} {m1 : Input} → sees k.Dot i ≡ false → sees k.OpenBracket i ≡ true → 0 < n → IsWhole (n - 1) (next i) (found y m1) → sees k.CloseBracket m1 ≡ false → IsTails n at x i (stops (refused m1))
    tails_index : {n : ℕ} {at : Place} {x : PlainExpr} {i : Input} {y : PlainExpr} {m1 : Input} {o : Outcome PlainExpr} → sees k.Dot i ≡ false → sees k.OpenBracket i ≡ true → 0 < n → IsWhole (n - 1) (next i) (found y m1) → sees k.CloseBracket m1 ≡ true → IsTails (n - 1) at (PIndex at x y) (next m1) o → IsTails n at x i o

  -- args from its opening bracket up to this closing one
  pub data IsEnclosed : ℕ → Terminal → Input → Outcome (List PlainExpr) → Type 0 where
    enclosed_is_deep : {n : ℕ} {c : Terminal} {i : Input} → n ≡ 0 → IsEnclosed n c i (stops (too_deep i))
    enclosed_is_stops_xs : {n : ℕ} {c : Terminal} {i : Input} {f : SyntaxFault} → 0 < n → IsArgs (n - 1) (next i) (stops f) → IsEnclosed n c i (stops f)
    enclosed_is_needs_close : {n : ℕ} {c : Terminal} {i : Input} {xs : List PlainExpr} {m1 : Input} → 0 < n → IsArgs (n - 1) (next i) (found xs m1) → sees c m1 ≡ false → IsEnclosed n c i (stops (refused m1))
    enclosed_is : {n : ℕ} {c : Terminal} {i : Input} {xs : List PlainExpr} {m1 : Input} → 0 < n → IsArgs (n - 1) (next i) (found xs m1) → sees c m1 ≡ true → IsEnclosed n c i (found xs (next m1))

  -- args : [ expr { ',' expr } [','] ]
  pub data IsArgs : ℕ → Input → Outcome (List PlainExpr) → Type 0 where
    args_none : {n : ℕ} {i : Input} → begins_expr i ≡ false → IsArgs n i (found [] i)
    args_is_stops_x : {n : ℕ} {i : Input} {f : SyntaxFault} → begins_expr i ≡ true → IsWhole n i (stops f) → IsArgs n i (stops f)
    args_is_stops_xs : {n : ℕ} {i : Input} {x : PlainExpr} {m1 : Input} {f : SyntaxFault} → begins_expr i ≡ true → IsWhole n i (found x m1) → IsMore n m1 (stops f) → IsArgs n i (stops f)
    args_is : {n : ℕ} {i : Input} {x : PlainExpr} {m1 : Input} {xs : List PlainExpr} {m2 : Input} → begins_expr i ≡ true → IsWhole n i (found x m1) → IsMore n m1 (found xs m2) → IsArgs n i (found (x ∷ xs) m2)

  pub data IsMore : ℕ → Input → Outcome (List PlainExpr) → Type 0 where
    more_end : {n : ℕ} {i : Input} → sees k.Comma i ≡ false → IsMore n i (found [] i)
    more_comma : {n : ℕ} {i : Input} → sees k.Comma i ≡ true → begins_expr (next i) ≡ false → IsMore n i (found [] (next i))
    more_is_stops_x : {n : ℕ} {i : Input} {f : SyntaxFault} → sees k.Comma i ≡ true → begins_expr (next i) ≡ true → IsWhole n (next i) (stops f) → IsMore n i (stops f)
    more_is_stops_xs : {n : ℕ} {i : Input} {x : PlainExpr} {m1 : Input} {f : SyntaxFault} → sees k.Comma i ≡ true → begins_expr (next i) ≡ true → IsWhole n (next i) (found x m1) → IsMore n m1 (stops f) → IsMore n i (stops f)
    more_is : {n : ℕ} {i : Input} {x : PlainExpr} {m1 : Input} {xs : List PlainExpr} {m2 : Input} → sees k.Comma i ≡ true → begins_expr (next i) ≡ true → IsWhole n (next i) (found x m1) → IsMore n m1 (found xs m2) → IsMore n i (found (x ∷ xs) m2)

  -- atom : NAME ['(' args ')'] | INT | STR | 'True' | 'False' | 'None' | '(' expr ')' | '[' args ']'
  pub data IsAtom : ℕ → Input → Outcome PlainExpr → Type 0 where
    atom_name : {n : ℕ} {i : Input} {o : Outcome PlainExpr} → atom_start i ≡ atom.Name → IsNamed n i o → IsAtom n i o
    atom_int : {n : ℕ} {i : Input} → atom_start i ≡ atom.Int → IsAtom n i (found (PInt (here i) (int_value i)) (next i))
    atom_str : {n : ℕ} {i : Input} → atom_start i ≡ atom.Str → IsAtom n i (found (PStr (here i) (text_number i)) (texted i))
    atom_true : {n : ℕ} {i : Input} → atom_start i ≡ atom.True → IsAtom n i (found (PBool (here i) true) (next i))
    atom_false : {n : ℕ} {i : Input} → atom_start i ≡ atom.False → IsAtom n i (found (PBool (here i) false) (next i))
    atom_nil : {n : ℕ} {i : Input} → atom_start i ≡ atom.Nil → IsAtom n i (found (PNil (here i)) (next i))
    atom_group : {n : ℕ} {i : Input} {o : Outcome PlainExpr} → atom_start i ≡ atom.Group → IsGroup n i o → IsAtom n i o
    atom_list_stops_xs : {n : ℕ} {i : Input} {f : SyntaxFault} → atom_start i ≡ atom.List → IsEnclosed n k.CloseBracket i (stops f) → IsAtom n i (stops f)
    atom_list : {n : ℕ} {i : Input} {xs : List PlainExpr} {m1 : Input} → atom_start i ≡ atom.List → IsEnclosed n k.CloseBracket i (found xs m1) → IsAtom n i (found (PList (here i) (exprs_of xs)) m1)
    atom_other : {n : ℕ} {i : Input} → atom_start i ≡ atom.Other → IsAtom n i (stops (refused i))

  -- '(' expr ')'
  pub data IsGroup : ℕ → Input → Outcome PlainExpr → Type 0 where
    group_is_deep : {n : ℕ} {i : Input} → n ≡ 0 → IsGroup n i (stops (too_deep i))
    group_is_stops_x : {n : ℕ} {i : Input} {f : SyntaxFault} → 0 < n → IsWhole (n - 1) (next i) (stops f) → IsGroup n i (stops f)
    group_is_needs_close : {n : ℕ} {i : Input} {x : PlainExpr} {m1 : Input} → 0 < n → IsWhole (n - 1) (next i) (found x m1) → sees k.Close m1 ≡ false → IsGroup n i (stops (refused m1))
    group_is : {n : ℕ} {i : Input} {x : PlainExpr} {m1 : Input} → 0 < n → IsWhole (n - 1) (next i) (found x m1) → sees k.Close m1 ≡ true → IsGroup n i (found x (next m1))

  -- a name, called where a bracket follows
  pub data IsNamed : ℕ → Input → Outcome PlainExpr → Type 0 where
    named_call_stops_xs : {n : ℕ} {i : Input} {f : SyntaxFault} → sees k.Open (next i) ≡ true → IsEnclosed n k.Close (named i) (stops f) → IsNamed n i (stops f)
    named_call : {n : ℕ} {i : Input} {xs : List PlainExpr} {m1 : Input} → sees k.Open (next i) ≡ true → IsEnclosed n k.Close (named i) (found xs m1) → IsNamed n i (found (PApply (here i) (name_number i) (exprs_of xs)) m1)
    named_self : {n : ℕ} {i : Input} → sees k.Open (next i) ≡ false → sees k.SelfWord i ≡ true → IsNamed n i (found (PSelf (here i)) (next i))
    named_var : {n : ℕ} {i : Input} → sees k.Open (next i) ≡ false → sees k.SelfWord i ≡ false → IsNamed n i (found (PVar (here i) (name_number i)) (named i))

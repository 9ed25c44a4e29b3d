-- What is asked of each callee and created class of flat code, part by part; and where it holds in one way at most, so does the whole.
use Rattle.std.proofs.Common.{◌≡◌, List, [], ◌∷◌, ◌++◌, refl}
use Rattle.flat_tree.specs.declared.tree.Callee.{Callee}
use Rattle.flat_tree.specs.declared.tree.Created.{Created}
use Rattle.flat_tree.specs.PlainFlat.{PlainFlatStmt, FMark, FSet, FPut, FGive, FFail, FCode, FBreak, FContinue, FCall, FMake, FIf, FWhile, FTry, PlainFlatStmts, FNoStmt, FStmt, FArm, PlainFlatArms, FNoArm, FMoreArms, FClause, PlainFlatClauses, FNoClause, FMoreClauses, PlainFlatTest, FLeaf, FNot, FAnd, FOr, FOperand, PlainOperands, FNoOperand, FMoreOperands, flat_stmts_of}
use Rattle.method_splitter.specs.Callees.{Each, EachInAll, EachInArms, EachInClauses, EachInTest, EachInOperands}

-- there is one proof at most
abbrev pub One : Type 0 → Type 0
One A = (a b : A) → a ≡ b

both_one : {A B : Type 0} → One A → One B → One (A × B)
both_one f g p q = λ i. (f p.0 q.0 i, g p.1 q.1 i)

all_one : {A B C : Type 0} → One A → One B → One C → One (A × B × C)
all_one f g h p q = λ i. (f p.0 q.0 i, g p.1 q.1 i, h p.2 q.2 i)

module _ (P : Callee → Type 0) (Q : Created → Type 0) where
  pub each_none : EachInAll P Q FNoStmt
  unfolding Each
  each_none = tt

  pub each_one : (x : PlainFlatStmt) → Each P Q x → EachInAll P Q (flat_stmts_of (x ∷ []))
  unfolding Each
  each_one x h = (h, tt)

  pub each_then : (x : PlainFlatStmt) (xs : List PlainFlatStmt) → Each P Q x → EachInAll P Q (flat_stmts_of xs) → EachInAll P Q (flat_stmts_of (x ∷ xs))
  unfolding Each
  each_then x xs h t = (h, t)

  pub each_more : (xs ys : List PlainFlatStmt) → EachInAll P Q (flat_stmts_of xs) → EachInAll P Q (flat_stmts_of ys) → EachInAll P Q (flat_stmts_of (xs ++ ys))
  unfolding Each
  each_more [] ys h t = t
  each_more (x ∷ xs) ys h t = (h.0, each_more xs ys h.1 t)

  module _ (p : (a : Callee) → One (P a)) (q : (a : Created) → One (Q a)) where
    unit_one : One (Unit {0})
    unit_one a b = refl

    mutual
      unfolding Each

      stmt_once : (x : PlainFlatStmt) → One (Each P Q x)
      stmt_once FMark = unit_one
      stmt_once (FSet name e) = unit_one
      stmt_once (FPut name e) = unit_one
      stmt_once (FGive e) = unit_one
      stmt_once (FFail kind e) = unit_one
      stmt_once (FCode x) = unit_one
      stmt_once FBreak = unit_one
      stmt_once FContinue = unit_one
      stmt_once (FCall on callee args into after) = p callee
      stmt_once (FMake class args into after) = q class
      stmt_once (FIf arms other after) = both_one (arms_once arms) (all_once other)
      stmt_once (FWhile head test start body after) = both_one (test_once test) (all_once body)
      stmt_once (FTry start body clauses after) = both_one (all_once body) (clauses_once clauses)

      pub all_once : (xs : PlainFlatStmts) → One (EachInAll P Q xs)
      all_once FNoStmt = unit_one
      all_once (FStmt x xs) = both_one (stmt_once x) (all_once xs)

      arms_once : (arms : PlainFlatArms) → One (EachInArms P Q arms)
      arms_once FNoArm = unit_one
      arms_once (FMoreArms (FArm test start body rest) more) = all_one (test_once test) (all_once body) (arms_once more)

      clauses_once : (clauses : PlainFlatClauses) → One (EachInClauses P Q clauses)
      clauses_once FNoClause = unit_one
      clauses_once (FMoreClauses (FClause kinds start body) more) = both_one (all_once body) (clauses_once more)

      test_once : (t : PlainFlatTest) → One (EachInTest P Q t)
      test_once (FLeaf before e) = all_once before
      test_once (FNot test) = test_once test
      test_once (FAnd operands) = operands_once operands
      test_once (FOr operands) = operands_once operands

      operands_once : (os : PlainOperands) → One (EachInOperands P Q os)
      operands_once FNoOperand = unit_one
      operands_once (FMoreOperands (FOperand test rest) more) = both_one (test_once test) (operands_once more)

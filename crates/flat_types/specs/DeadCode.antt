-- Flat code of which every part can be reached: behind a statement where no way leads on nothing stands, and a loop whose test isn't the
-- literal True has a point behind it.
use Rattle.std.specs.Prelude.{◌≡◌, ⊤, Bool, true, false, is_some}
use Rattle.py_tree.specs.Reachability.{goes_on}
use Rattle.flat_tree.specs.PlainFlat.{PlainFlatStmt, FMark, FSet, FPut, FGive, FFail, FCode, FBreak, FContinue, FCall, FMake, FIf, FWhile, FTry, PlainFlatStmts, FNoStmt, FStmt, FArm, PlainFlatArms, FNoArm, FMoreArms, FClause, PlainFlatClauses, FNoClause, FMoreClauses, PlainFlatTest, FLeaf, FNot, FAnd, FOr, FOperand, PlainOperands, FNoOperand, FMoreOperands}
use Rattle.method_splitter.specs.Split.{always}

-- a way leads on behind a statement
abbrev pub leads_on : PlainFlatStmt → Bool
leads_on FMark = true
leads_on (FSet x e) = true
leads_on (FPut x e) = true
leads_on (FGive e) = false
leads_on (FFail kind e) = false
leads_on (FCode x) = goes_on x
leads_on FBreak = false
leads_on FContinue = false
leads_on (FCall on callee args into after) = true
leads_on (FMake class args into after) = true
leads_on (FIf arms other after) = is_some after
leads_on (FWhile head test start body after) = is_some after
leads_on (FTry start body clauses after) = is_some after

unfoldable mutual
  pub HasNoDead : PlainFlatStmt → Type 0
  HasNoDead FMark = ⊤
  HasNoDead (FSet x e) = ⊤
  HasNoDead (FPut x e) = ⊤
  HasNoDead (FGive e) = ⊤
  HasNoDead (FFail kind e) = ⊤
  HasNoDead (FCode x) = ⊤
  HasNoDead FBreak = ⊤
  HasNoDead FContinue = ⊤
  HasNoDead (FCall on callee args into after) = ⊤
  HasNoDead (FMake class args into after) = ⊤
  HasNoDead (FIf arms other after) = ArmsHaveNoDead arms × HaveNoDead other
  HasNoDead (FWhile head test start body after) = (always test ≡ false → is_some after ≡ true) × TestHasNoDead test × HaveNoDead body
  HasNoDead (FTry start body clauses after) = HaveNoDead body × ClausesHaveNoDead clauses

  pub HaveNoDead : PlainFlatStmts → Type 0
  HaveNoDead FNoStmt = ⊤
  HaveNoDead (FStmt x xs) = (leads_on x ≡ false → xs ≡ FNoStmt) × HasNoDead x × HaveNoDead xs

  pub ArmsHaveNoDead : PlainFlatArms → Type 0
  ArmsHaveNoDead FNoArm = ⊤
  ArmsHaveNoDead (FMoreArms (FArm test start body rest) more) = TestHasNoDead test × HaveNoDead body × ArmsHaveNoDead more

  pub ClausesHaveNoDead : PlainFlatClauses → Type 0
  ClausesHaveNoDead FNoClause = ⊤
  ClausesHaveNoDead (FMoreClauses (FClause kinds start body) more) = HaveNoDead body × ClausesHaveNoDead more

  pub TestHasNoDead : PlainFlatTest → Type 0
  TestHasNoDead (FLeaf before e) = HaveNoDead before
  TestHasNoDead (FNot test) = TestHasNoDead test
  TestHasNoDead (FAnd operands) = OperandsHaveNoDead operands
  TestHasNoDead (FOr operands) = OperandsHaveNoDead operands

  pub OperandsHaveNoDead : PlainOperands → Type 0
  OperandsHaveNoDead FNoOperand = ⊤
  OperandsHaveNoDead (FMoreOperands (FOperand test rest) more) = TestHasNoDead test × OperandsHaveNoDead more

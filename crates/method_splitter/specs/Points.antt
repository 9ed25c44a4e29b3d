-- What is asked of each point of flat code.
use Rattle.std.specs.Prelude.{◌≡◌, Bool, true, ⊤, IfSome}
use Rattle.flat_tree.specs.PlainFlat.{Point, PlainFlatStmt, FMark, FSet, FPut, FGive, FFail, FCode, FBreak, FContinue, FCall, FMake, FIf, FWhile, FTry, PlainFlatStmts, FNoStmt, FStmt, FArm, PlainFlatArms, FNoArm, FMoreArms, FClause, PlainFlatClauses, FNoClause, FMoreClauses, PlainFlatTest, FLeaf, FNot, FAnd, FOr, FOperand, PlainOperands, FNoOperand, FMoreOperands}

module _ (passes : Point → Bool) where
  abbrev pub Passes : Point → Type 0
  Passes p = passes p ≡ true

  unfoldable mutual
    pub PointsPass : PlainFlatStmt → Type 0
    PointsPass FMark = ⊤
    PointsPass (FSet name e) = ⊤
    PointsPass (FPut name e) = ⊤
    PointsPass (FGive e) = ⊤
    PointsPass (FFail kind e) = ⊤
    PointsPass (FCode x) = ⊤
    PointsPass FBreak = ⊤
    PointsPass FContinue = ⊤
    PointsPass (FCall on callee args into after) = Passes after
    PointsPass (FMake class args into after) = Passes after
    PointsPass (FIf arms other after) = PointsPassInArms arms × PointsPassInAll other × IfSome after Passes
    PointsPass (FWhile head test start body after) = Passes head × PointsPassInTest test × Passes start × PointsPassInAll body × IfSome after Passes
    PointsPass (FTry start body clauses after) = Passes start × PointsPassInAll body × PointsPassInClauses clauses × IfSome after Passes

    pub PointsPassInAll : PlainFlatStmts → Type 0
    PointsPassInAll FNoStmt = ⊤
    PointsPassInAll (FStmt x xs) = PointsPass x × PointsPassInAll xs

    pub PointsPassInArms : PlainFlatArms → Type 0
    PointsPassInArms FNoArm = ⊤
    PointsPassInArms (FMoreArms (FArm test start body rest) more) =
        PointsPassInTest test × Passes start × PointsPassInAll body × Passes rest × PointsPassInArms more

    pub PointsPassInClauses : PlainFlatClauses → Type 0
    PointsPassInClauses FNoClause = ⊤
    PointsPassInClauses (FMoreClauses (FClause kinds start body) more) = Passes start × PointsPassInAll body × PointsPassInClauses more

    pub PointsPassInTest : PlainFlatTest → Type 0
    PointsPassInTest (FLeaf before e) = PointsPassInAll before
    PointsPassInTest (FNot test) = PointsPassInTest test
    PointsPassInTest (FAnd operands) = PointsPassInOperands operands
    PointsPassInTest (FOr operands) = PointsPassInOperands operands

    pub PointsPassInOperands : PlainOperands → Type 0
    PointsPassInOperands FNoOperand = ⊤
    PointsPassInOperands (FMoreOperands (FOperand test rest) more) = PointsPassInTest test × Passes rest × PointsPassInOperands more

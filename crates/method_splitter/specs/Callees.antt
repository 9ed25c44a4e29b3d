-- What is asked of each callee of flat code, and of each class of which it creates an entity.
use Rattle.std.specs.Prelude.{◌≡◌, ◌<◌, ⊤, List, true, length, slice_get, is_some}
use Rattle.py_tree.specs.ClassRules.{PlainTable}
use Rattle.py_tree.specs.Flow.{sig_at}
use Rattle.program_meaning.specs.ClassTables.{Source, methods_of}
use Rattle.program_meaning.specs.Evaluation.{class_of}
use Rattle.block_runs.specs.BlockRuns.{name_if_there}
use Rattle.flat_tree.specs.declared.tree.Callee.{Callee}
use Rattle.flat_tree.specs.declared.tree.Created.{Created}
use Rattle.flat_tree.specs.PlainFlat.{PlainFlatStmt, FMark, FSet, FPut, FGive, FFail, FCode, FBreak, FContinue, FCall, FMake, FIf, FWhile, FTry, PlainFlatStmts, FNoStmt, FStmt, FArm, PlainFlatArms, FNoArm, FMoreArms, FClause, PlainFlatClauses, FNoClause, FMoreClauses, PlainFlatTest, FLeaf, FNot, FAnd, FOr, FOperand, PlainOperands, FNoOperand, FMoreOperands}

module _ (P : Callee → Type 0) (Q : Created → Type 0) where
  unfoldable mutual
    pub Each : PlainFlatStmt → Type 0
    Each FMark = ⊤
    Each (FSet name e) = ⊤
    Each (FPut name e) = ⊤
    Each (FGive e) = ⊤
    Each (FFail kind e) = ⊤
    Each (FCode x) = ⊤
    Each FBreak = ⊤
    Each FContinue = ⊤
    Each (FCall on callee args into after) = P callee
    Each (FMake class args into after) = Q class
    Each (FIf arms other after) = EachInArms arms × EachInAll other
    Each (FWhile head test start body after) = EachInTest test × EachInAll body
    Each (FTry start body clauses after) = EachInAll body × EachInClauses clauses

    pub EachInAll : PlainFlatStmts → Type 0
    EachInAll FNoStmt = ⊤
    EachInAll (FStmt x xs) = Each x × EachInAll xs

    pub EachInArms : PlainFlatArms → Type 0
    EachInArms FNoArm = ⊤
    EachInArms (FMoreArms (FArm test start body rest) more) = EachInTest test × EachInAll body × EachInArms more

    pub EachInClauses : PlainFlatClauses → Type 0
    EachInClauses FNoClause = ⊤
    EachInClauses (FMoreClauses (FClause kinds start body) more) = EachInAll body × EachInClauses more

    pub EachInTest : PlainFlatTest → Type 0
    EachInTest (FLeaf before e) = EachInAll before
    EachInTest (FNot test) = EachInTest test
    EachInTest (FAnd operands) = EachInOperands operands
    EachInTest (FOr operands) = EachInOperands operands

    pub EachInOperands : PlainOperands → Type 0
    EachInOperands FNoOperand = ⊤
    EachInOperands (FMoreOperands (FOperand test rest) more) = EachInTest test × EachInOperands more

-- Their numbers are those of their names in a program

-- the method of this number in this class has this name
abbrev pub CalleeIsNamed : Source → Callee → Type 0
CalleeIsNamed src callee = name_if_there (slice_get (methods_of src callee.class) callee.method) ≡ callee.name.0

-- the class of this name has this number
abbrev pub CreatedIsNamed : Source → Created → Type 0
CreatedIsNamed src class = class_of src class.name.0 ≡ class.class

abbrev pub CalleesAreNamed : Source → PlainFlatStmts → Type 0
CalleesAreNamed src = EachInAll (CalleeIsNamed src) (CreatedIsNamed src)

-- Class tables have them

abbrev pub CalleeIsThere : List PlainTable → Callee → Type 0
CalleeIsThere tables callee = is_some (sig_at tables callee.class callee.method) ≡ true

abbrev pub CreatedIsThere : List PlainTable → Created → Type 0
CreatedIsThere tables class = class.class < length tables

abbrev pub CalleesAreThere : List PlainTable → PlainFlatStmts → Type 0
CalleesAreThere tables = EachInAll (CalleeIsThere tables) (CreatedIsThere tables)

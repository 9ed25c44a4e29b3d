-- When flat code keeps the rules on types, where all variables of its method, temporaries too, have their types beforehand.
--
-- Each part is told what is asked where its ways lead: behind it, at a `break`, at a `continue`, where a test holds and where it
-- doesn't. A way that leads to a point has to supply its variables. What is asked behind a point is asked once, of the variables as
-- they are at the start of a block with that point as its parameters, so a way may forget there what it knows, and never adds to it.
-- Where a failure may go on at a clause, the point where the clause begins is supplied all the time.
use Rattle.std.specs.Prelude.{◌≡◌, ◌≤◌, ⊤, ℕ, Bool, true, false, ◌&&◌, List, [], ◌∷◌, slice_get, Some, None}
use Rattle.std.specs.declared.option.Option.{Option}
use Rattle.std.specs.List.{All, list_all}
use Rattle.py_tree.specs.PlainTypes.{TBool, TEntity}
use Rattle.py_tree.specs.PlainExpressions.{PlainExpr, PlainExprs}
use Rattle.py_tree.specs.PlainStatements.{PNoStmt, PStmt}
use Rattle.py_tree.specs.ClassRules.{PlainSig, PlainTable}
use Rattle.py_tree.specs.FlowEnvironment.{PlainLocal, shown, narrowed}
use Rattle.py_tree.specs.Flow.{Context}
use Rattle.call_graph.specs.SuspendingCode.{Leaving}
use Rattle.block_code.specs.PlainVars.{PlainVar}
use Rattle.block_code.specs.PlainBlocks.{PlainItem, IMark, ISet, IPut, IGive, IFail, ICode}
use Rattle.block_code.specs.GraphFits.{Asked, at_start, supplied, HasType, Takes, ArgsFit, ItemFits, AtEachItem, each_once, is_param_of}
use Rattle.flat_tree.specs.declared.tree.Callee.{Callee}
use Rattle.flat_tree.specs.declared.tree.Created.{Created}
use Rattle.flat_tree.specs.PlainFlat.{Point, PlainFlatStmt, FMark, FSet, FPut, FGive, FFail, FCode, FBreak, FContinue, FCall, FMake, FIf, FWhile, FTry, PlainFlatStmts, FNoStmt, FStmt, FArm, PlainFlatArms, FNoArm, FMoreArms, FClause, PlainFlatClauses, FNoClause, FMoreClauses, PlainFlatTest, FLeaf, FNot, FAnd, FOr, FOperand, PlainOperands, FNoOperand, FMoreOperands}
use Rattle.method_splitter.specs.Split.{always}

-- Points

-- a point names variables of the method, each once, with their types or what their Optionals hold
abbrev pub is_point : List PlainVar → Point → Bool
is_point variables point = list_all (is_param_of variables) point && each_once point

-- a way leads to a point
abbrev pub Supplies : Point → Asked
Supplies point locals = supplied locals point ≡ true

-- no way leads here
abbrev pub Nowhere : Asked
Nowhere locals = ⊥

-- a way leads to a point behind a statement, if there is one
abbrev pub Ends : Option Point → Asked
Ends None = Nowhere
Ends (Some point) = Supplies point

-- what is asked behind a point
abbrev pub Behind : List PlainVar → Point → Asked → Type 0
Behind variables point goal = goal (at_start variables point)

abbrev pub BehindEnd : List PlainVar → Option Point → Asked → Type 0
BehindEnd variables None goal = ⊤
BehindEnd variables (Some point) goal = Behind variables point goal

-- a loop, from its head on; the literal True isn't tested, and the body begins at the head
abbrev pub LoopFits : List PlainVar → Bool → (head start : Point) → Option Point → (Asked → Asked → Asked) → Asked → Type 0
LoopFits variables true head start after test body = Behind variables head body
LoopFits variables false head start after test body = Behind variables head (test (Supplies start) (Ends after)) × Behind variables start body

-- Clauses

-- at each point of items each of these points is supplied
abbrev pub Guarded : Context → List Point → List PlainItem → Asked
Guarded c [] is locals = ⊤
Guarded c (p ∷ ps) is locals = AtEachItem (Supplies p) c is locals × Guarded c ps is locals

-- the points where failures go on in the body of a `try`: where its clauses begin, and then those around it
abbrev pub guards : PlainFlatClauses → List Point → List Point
guards FNoClause caught = caught
guards (FMoreClauses (FClause kinds start body) more) caught = start ∷ guards more caught

-- all kinds but that of a run without steps
abbrev pub AreKinds : List ℕ → Type 0
AreKinds kinds = All (λ kind. (1 ≤ kind) × (kind ≤ 11)) kinds

-- Items, calls, creations and tests

module _ (c : Context) (leaves : Leaving) where
  abbrev pub SmallFits : List Point → PlainItem → Asked → Asked
  SmallFits caught i goal locals = ItemFits c leaves i goal locals × Guarded c caught (i ∷ []) locals

  pub record CallFits (receiver : PlainExpr) (callee : Callee) (args : PlainExprs) (into : ℕ) (after : Asked) (locals : List PlainLocal) : Type 0 where
    pub table : PlainTable
    pub has_table : slice_get c.tables callee.class ≡ Some table
    pub sig : PlainSig
    pub has_method : slice_get table.methods callee.method ≡ Some sig
    pub on : HasType c leaves locals receiver (TEntity table.name)
    pub args_fit : ArgsFit c leaves locals args sig.params
    pub takes : Takes locals into sig.result after

  pub record MakeFits (class : Created) (args : PlainExprs) (into : ℕ) (after : Asked) (locals : List PlainLocal) : Type 0 where
    pub table : PlainTable
    pub has_table : slice_get c.tables class.class ≡ Some table
    pub args_fit : ArgsFit c leaves locals args table.init
    pub takes : Takes locals into (TEntity table.name) after

  -- a value that is tested
  abbrev pub LeafFits : PlainExpr → Asked → Asked → Asked
  LeafFits e holds fails locals = HasType c leaves locals e TBool × holds (narrowed (shown true e) locals) × fails (narrowed (shown false e) locals)

  abbrev pub TestedFits : List Point → PlainExpr → Asked → Asked → Asked
  TestedFits caught e holds fails locals = LeafFits e holds fails locals × Guarded c caught [] locals

-- Code

module _ (c : Context) (leaves : Leaving) (variables : List PlainVar) where
  unfoldable mutual
    pub stmt_fits : (caught : List Point) (breaks continues : Asked) → PlainFlatStmt → Asked → Asked
    stmt_fits caught breaks continues FMark goal locals = SmallFits c leaves caught IMark goal locals
    stmt_fits caught breaks continues (FSet x e) goal locals = SmallFits c leaves caught (ISet x e) goal locals
    stmt_fits caught breaks continues (FPut x e) goal locals = SmallFits c leaves caught (IPut x e) goal locals
    stmt_fits caught breaks continues (FGive e) goal locals = SmallFits c leaves caught (IGive e) goal locals
    stmt_fits caught breaks continues (FFail kind e) goal locals = SmallFits c leaves caught (IFail kind e) goal locals
    stmt_fits caught breaks continues (FCode x) goal locals = SmallFits c leaves caught (ICode (PStmt x PNoStmt)) goal locals
    stmt_fits caught breaks continues FBreak goal locals = breaks locals
    stmt_fits caught breaks continues FContinue goal locals = continues locals
    stmt_fits caught breaks continues (FCall on callee args into after) goal locals = CallFits c leaves on callee args into (Supplies after) locals × Behind variables after goal × Guarded c caught [] locals
    stmt_fits caught breaks continues (FMake class args into after) goal locals = MakeFits c leaves class args into (Supplies after) locals × Behind variables after goal × Guarded c caught [] locals
    stmt_fits caught breaks continues (FIf arms other after) goal locals =
        arms_fit caught breaks continues arms (Ends after) (stmts_fit caught breaks continues other (Ends after)) locals × BehindEnd variables after goal
    stmt_fits caught breaks continues (FWhile head test start body after) goal locals =
        Supplies head locals × LoopFits variables (always test) head start after (test_fits caught breaks continues test) (stmts_fit caught (Ends after) (Supplies head) body (Supplies head))
        × BehindEnd variables after goal × Behind variables head (Guarded c caught []) × Behind variables start (Guarded c caught [])
    stmt_fits caught breaks continues (FTry start body clauses after) goal locals =
        Supplies start locals × Behind variables start (stmts_fit (guards clauses caught) breaks continues body (Ends after)) × clauses_fit caught breaks continues clauses (Ends after)
        × BehindEnd variables after goal

    pub stmts_fit : (caught : List Point) (breaks continues : Asked) → PlainFlatStmts → Asked → Asked
    stmts_fit caught breaks continues FNoStmt goal locals = goal locals
    stmts_fit caught breaks continues (FStmt x xs) goal locals = stmt_fits caught breaks continues x (stmts_fit caught breaks continues xs goal) locals

    -- arms, and what follows them where all their tests fail
    pub arms_fit : (caught : List Point) (breaks continues : Asked) → PlainFlatArms → (goal other : Asked) → Asked
    arms_fit caught breaks continues FNoArm goal other locals = other locals
    arms_fit caught breaks continues (FMoreArms (FArm test start body rest) more) goal other locals =
        test_fits caught breaks continues test (Supplies start) (Supplies rest) locals × Behind variables start (stmts_fit caught breaks continues body goal)
        × Behind variables rest (arms_fit caught breaks continues more goal other)

    -- each clause goes on where the `try` does, and its own failures as they do around the `try`
    pub clauses_fit : (caught : List Point) (breaks continues : Asked) → PlainFlatClauses → (goal : Asked) → Type 0
    clauses_fit caught breaks continues FNoClause goal = ⊤
    clauses_fit caught breaks continues (FMoreClauses (FClause kinds start body) more) goal =
        AreKinds kinds × Behind variables start (stmts_fit caught breaks continues body goal) × Behind variables start (Guarded c caught []) × clauses_fit caught breaks continues more goal

    pub test_fits : (caught : List Point) (breaks continues : Asked) → PlainFlatTest → (holds fails : Asked) → Asked
    test_fits caught breaks continues (FLeaf before e) holds fails locals = stmts_fit caught breaks continues before (TestedFits c leaves caught e holds fails) locals
    test_fits caught breaks continues (FNot test) holds fails locals = test_fits caught breaks continues test fails holds locals
    test_fits caught breaks continues (FAnd operands) holds fails locals = each_fits true caught breaks continues operands holds fails locals
    test_fits caught breaks continues (FOr operands) holds fails locals = each_fits false caught breaks continues operands holds fails locals

    -- operands of `and`, each of which is to hold, or of `or`, none of which is to
    pub each_fits : (truth : Bool) (caught : List Point) (breaks continues : Asked) → PlainOperands → (holds fails : Asked) → Asked
    each_fits true caught breaks continues FNoOperand holds fails locals = holds locals
    each_fits false caught breaks continues FNoOperand holds fails locals = fails locals
    each_fits true caught breaks continues (FMoreOperands (FOperand test rest) more) holds fails locals =
        test_fits caught breaks continues test (Supplies rest) fails locals × Behind variables rest (each_fits true caught breaks continues more holds fails)
    each_fits false caught breaks continues (FMoreOperands (FOperand test rest) more) holds fails locals =
        test_fits caught breaks continues test holds (Supplies rest) locals × Behind variables rest (each_fits false caught breaks continues more holds fails)

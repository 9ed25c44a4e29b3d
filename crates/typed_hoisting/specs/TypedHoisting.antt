-- Hoisted expressions that keep the rules on types.
--
-- What runs before an expression keeps the rules wherever all variables of the method have their types beforehand, the temporaries
-- that it makes too, and whatever clauses are around, if wherever as much is known a failure may go on at each of them; and what is
-- left of the expression has the expression's type behind that. Where a test holds, and where it doesn't, at least as much is known
-- as the test shows.
use Rattle.std.specs.Prelude.{◌≡◌, ◌≤◌, ◌+◌, ⊤, ℕ, Bool, true, false, List, [], ◌∷◌, find, Some, None, Ok}
use Rattle.std.specs.declared.option.Option.{Option}
use Rattle.py_tree.specs.PlainTypes.{PlainTy, TBool}
use Rattle.py_tree.specs.PlainExpressions.{PlainExpr}
use Rattle.py_tree.specs.FlowEnvironment.{PlainLocal, shown, narrowed}
use Rattle.py_tree.specs.Flow.{Context, type_at}
use Rattle.py_tree.specs.Bounded.{ExprNames}
use Rattle.py_tree.specs.PlainProgram.{PlainProgram}
use Rattle.call_graph.specs.SuspendingCode.{Leaving, leaving, expr_suspends}
use Rattle.block_code.specs.PlainVars.{PlainVar}
use Rattle.block_code.specs.GraphFits.{Asked, HasType, is_var}
use Rattle.flat_tree.specs.PlainFlat.{Point, PlainFlatStmt, PlainFlatTest, flat_stmts_of}
use Rattle.method_splitter.specs.Points.{PointsPassInAll, PointsPassInTest}
use Rattle.flat_types.specs.FlatTypes.{is_point, Nowhere, Supplies, stmts_fit, test_fits}
use Rattle.hoisting.specs.Stages.{Stage, surely}
use Rattle.hoisting.specs.HoistExpressions.{Hoisted, Tested, Forms, forms}
use Rattle.typed_hoisting.specs.KnownLocals.{HasTy, Alike, Free, Stands, AtLeast}

-- temporaries from one number up to another, one after the other
abbrev pub Numbered : ℕ → List PlainVar → ℕ → Type 0
Numbered first [] next = first ≡ next
Numbered first (v ∷ made) next = (v.name ≡ first) × Numbered (first + 1) made next

-- they are variables of the method
abbrev pub AreAmong : List PlainVar → List PlainVar → Type 0
AreAmong variables [] = ⊤
AreAmong variables (v ∷ made) = (find (is_var v.name) variables ≡ Some v) × AreAmong variables made

-- names that have types are variables of the method, of those types
abbrev pub AreTyped : List PlainVar → List PlainLocal → Type 0
AreTyped variables locals = (x : ℕ) (ty : PlainTy) → HasTy locals x ty → find (is_var x) variables ≡ Some (record { name = x; ty = ty })

-- names keep their types, and what has a type besides is a temporary that was made
pub record Adds (made : List PlainVar) (before after : List PlainLocal) : Type 0 where
  pub keeps : (x : ℕ) (ty : PlainTy) → HasTy before x ty → HasTy after x ty
  pub only : (variables : List PlainVar) → AreAmong variables made → AreTyped variables before → AreTyped variables after

-- the variables of a method, the points where clauses around begin, and what is asked at a `break` and at a `continue`
pub record Around : Type 1 where
  pub variables : List PlainVar
  pub caught : List Point
  pub breaks : Asked
  pub continues : Asked

-- ways lead to each of these points
abbrev pub SuppliesAll : List Point → Asked
SuppliesAll [] locals = ⊤
SuppliesAll (p ∷ ps) locals = Supplies p locals × SuppliesAll ps locals

-- wherever at least as much is known as here, a failure may go on at each clause around
abbrev pub GuardsHold : Around → ℕ → List PlainLocal → Type 0
GuardsHold m next locals = (env : List PlainLocal) → AtLeast m.variables next locals env → SuppliesAll m.caught env

-- each point in code names variables of the method
abbrev pub CodePasses : List PlainVar → List PlainFlatStmt → Type 0
CodePasses variables code = PointsPassInAll (is_point variables) (flat_stmts_of code)

-- what is asked of a test, by what is asked where it holds and where it doesn't; and that each of its points names variables
pub record AskedOfTest : Type 1 where
  pub fits : Around → (holds fails : Asked) → Asked
  pub passes : List PlainVar → Type 0

module _ (c : Context) (leaves : Leaving) where
  abbrev pub code_fits : Around → List PlainFlatStmt → Asked → Asked
  code_fits m code goal locals = stmts_fit c leaves m.variables m.caught m.breaks m.continues (flat_stmts_of code) goal locals

  abbrev pub asked_of : PlainFlatTest → AskedOfTest
  asked_of test = record {
    fits = λ m holds fails locals. test_fits c leaves m.variables m.caught m.breaks m.continues test holds fails locals;
    passes = λ variables. PointsPassInTest (is_point variables) test;
  }

  -- what doesn't suspend, and has this type
  abbrev pub Typed : Option PlainTy → PlainTy → List PlainLocal → PlainExpr → Type 0
  Typed wanted ty locals e = (type_at c locals wanted e ≡ Ok ty) × (expr_suspends leaves e ≡ false)

  -- what is hoisted at a stage keeps the rules, and so does what is left; and points name variables
  pub record Good {R : Type 0} (h : Stage) (a : Hoisted R) (Rest : List PlainLocal → R → Type 0) : Type 1 where
    pub made : List PlainVar
    pub numbered : Numbered h.next made a.stage.next
    pub free : Free a.stage.next a.stage.locals
    pub adds : Adds made h.locals a.stage.locals
    pub alike : Alike h.next h.locals a.stage.locals
    pub rest : (there : List PlainLocal) → Alike a.stage.next a.stage.locals there → Rest there a.rest
    pub before : (m : Around) → AreAmong m.variables made → (env : List PlainLocal) → Stands m.variables h.next h.locals env
        → GuardsHold m h.next h.locals → (goal : Asked) → ((after : List PlainLocal) → Stands m.variables a.stage.next a.stage.locals after → goal after)
        → code_fits m a.before goal env
    pub points : (variables : List PlainVar) → AreAmong variables made → AreTyped variables h.locals → CodePasses variables a.before

  -- a test leads to either side, where at least as much is known as here
  pub record GoodTest (h : Stage) (fit : AskedOfTest) (next : ℕ) (holds fails : List PlainLocal) : Type 1 where
    pub made : List PlainVar
    pub numbered : Numbered h.next made next
    pub sides : (m : Around) → AreAmong m.variables made → (env : List PlainLocal) → Stands m.variables h.next h.locals env
        → GuardsHold m h.next h.locals → (yes no : Asked) → ((after : List PlainLocal) → AtLeast m.variables h.next holds after → yes after)
        → ((after : List PlainLocal) → AtLeast m.variables h.next fails after → no after)
        → fit.fits m yes no env
    pub points : (variables : List PlainVar) → AreAmong variables made → AreTyped variables h.locals → fit.passes variables

  -- of an expression whose names are below the limit, at each stage whose temporaries are not
  pub record GoodForms (limit : ℕ) (e : PlainExpr) (both : Forms) : Type 1 where
    pub value : (wanted : Option PlainTy) (h : Stage) (ty : PlainTy) → limit ≤ h.next → Free h.next h.locals
        → type_at c h.locals wanted e ≡ Ok ty → Good h (both.value wanted h) (Typed wanted ty)
    pub test : (h : Stage) → limit ≤ h.next → Free h.next h.locals → type_at c h.locals None e ≡ Ok TBool
        → GoodTest h (asked_of (both.test h).test) (both.test h).next (narrowed (shown true e) h.locals) (narrowed (shown false e) h.locals)

-- every expression keeps the rules where calls come out of it, whatever is asked behind what runs before; those calls suspend that
-- the marks of the program tell
abbrev pub ExpressionsKeepTheRules : Type 1
ExpressionsKeepTheRules =
    (names : List (List ℕ)) (program : PlainProgram) (marks : List (List Bool)) (class : ℕ) (c : Context) (limit : ℕ) (e : PlainExpr)
    → ExprNames limit e
    → GoodForms c (leaving names program marks class) limit e (forms (leaving names program marks class) c e)

-- Where there is neither a loop nor a clause around, and no more is asked than that

module _ (c : Context) (leaves : Leaving) where
  abbrev pub IsTyped : PlainExpr → PlainTy → Asked
  IsTyped e ty locals = HasType c leaves locals e ty

  -- what runs before keeps the rules, and what is left has this type behind that; and points name variables
  pub record ValueFits (h : Stage) (a : Hoisted PlainExpr) (ty : PlainTy) : Type 0 where
    pub made : List PlainVar
    pub numbered : Numbered h.next made a.stage.next
    pub fits : (variables : List PlainVar) → AreAmong variables made → (env : List PlainLocal) → Stands variables h.next h.locals env
        → stmts_fit c leaves variables [] Nowhere Nowhere (flat_stmts_of a.before) (IsTyped a.rest ty) env
    pub points : (variables : List PlainVar) → AreAmong variables made → AreTyped variables h.locals → CodePasses variables a.before

  -- a test keeps the rules, and leads where this is known; and its points name variables
  pub record TestFits (h : Stage) (t : Tested PlainFlatTest) (holds fails : List PlainLocal) : Type 0 where
    pub made : List PlainVar
    pub numbered : Numbered h.next made t.next
    pub fits : (variables : List PlainVar) → AreAmong variables made → (env : List PlainLocal) → Stands variables h.next h.locals env
        → test_fits c leaves variables [] Nowhere Nowhere t.test (Supplies (surely holds)) (Supplies (surely fails)) env
    pub points : (variables : List PlainVar) → AreAmong variables made → AreTyped variables h.locals → PointsPassInTest (is_point variables) t.test

  -- as a value, and as a test
  abbrev pub FormsFit : ℕ → PlainExpr → Forms → Type 0
  FormsFit limit e both =
      ((wanted : Option PlainTy) (h : Stage) (ty : PlainTy) → limit ≤ h.next → Free h.next h.locals
      → type_at c h.locals wanted e ≡ Ok ty → ValueFits h (both.value wanted h) ty)
      × ((h : Stage) → limit ≤ h.next → Free h.next h.locals → type_at c h.locals None e ≡ Ok TBool
      → TestFits h (both.test h) (narrowed (shown true e) h.locals) (narrowed (shown false e) h.locals))

abbrev pub ExpressionsFit : Type 0
ExpressionsFit =
    (names : List (List ℕ)) (program : PlainProgram) (marks : List (List Bool)) (class : ℕ) (c : Context) (limit : ℕ) (e : PlainExpr)
    → ExprNames limit e
    → FormsFit c (leaving names program marks class) limit e (forms (leaving names program marks class) c e)

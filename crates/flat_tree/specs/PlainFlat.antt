-- Flat methods as plain trees, without pointers. Where a block may begin stands a point: the variables that are surely assigned
-- there, with their types there. The meaning reads no point.
use Rattle.std.specs.Prelude.{ℕ, List, [], ◌∷◌, map}
use Rattle.std.specs.declared.option.Option.{Option}
use Rattle.py_tree.specs.PlainExpressions.{PlainExpr, PlainExprs, plain_expr, plain_exprs, exprs_of}
use Rattle.py_tree.specs.PlainStatements.{PlainStmt, plain_option, plain_stmt}
use Rattle.block_code.specs.PlainVars.{PlainVar, plain_vars}
use Rattle.flat_tree.specs.declared.tree.Callee.{Callee}
use Rattle.flat_tree.specs.declared.tree.Created.{Created}
use Rattle.flat_tree.specs.declared.tree.FlatArm.{FlatArm}
use Rattle.flat_tree.specs.declared.tree.FlatClause.{FlatClause}
use Rattle.flat_tree.specs.declared.tree.Operand.{Operand}
use Rattle.flat_tree.specs.declared.tree.Flat.{Flat}
use Rattle.flat_tree.specs.declared.tree.FlatStmt.{FlatStmt, Row_of-FlatStmt, end_of-FlatStmt, more_of-FlatStmt, Row_of-FlatArm, end_of-FlatArm, more_of-FlatArm, Row_of-FlatClause, end_of-FlatClause, more_of-FlatClause}
use Rattle.flat_tree.specs.declared.tree.FlatStmt as s
use Rattle.flat_tree.specs.declared.tree.FlatTest.{FlatTest, Row_of-Operand, end_of-Operand, more_of-Operand}
use Rattle.flat_tree.specs.declared.tree.FlatTest as t

-- what is surely assigned where a block may begin
abbrev pub Point : Type 0
Point = List PlainVar

mutual
  pub data PlainFlatStmt : Type 0 where
    FMark : PlainFlatStmt
    FSet : (name : ℕ) → (value : PlainExpr) → PlainFlatStmt
    FPut : (field : ℕ) → (value : PlainExpr) → PlainFlatStmt
    FGive : (value : PlainExpr) → PlainFlatStmt
    FFail : (kind : ℕ) → (message : Option PlainExpr) → PlainFlatStmt
    FCode : (code : PlainStmt) → PlainFlatStmt
    FBreak : PlainFlatStmt
    FContinue : PlainFlatStmt
    FCall : (on : PlainExpr) → (callee : Callee) → (args : PlainExprs) → (into : ℕ) → (after : Point) → PlainFlatStmt
    FMake : (class : Created) → (args : PlainExprs) → (into : ℕ) → (after : Point) → PlainFlatStmt
    -- behind all arms, where a way leads there
    FIf : (arms : PlainFlatArms) → (other : PlainFlatStmts) → (after : Option Point) → PlainFlatStmt
    -- before each test, where the body begins, and behind the loop, where a way leads there
    FWhile : (head : Point) → (test : PlainFlatTest) → (start : Point) → (body : PlainFlatStmts) → (after : Option Point) → PlainFlatStmt
    -- where the body begins, and behind the body and all clauses, where a way leads there
    FTry : (start : Point) → (body : PlainFlatStmts) → (clauses : PlainFlatClauses) → (after : Option Point) → PlainFlatStmt

  pub data PlainFlatStmts : Type 0 where
    FNoStmt : PlainFlatStmts
    FStmt : (x : PlainFlatStmt) → (xs : PlainFlatStmts) → PlainFlatStmts

  -- where the body begins, and where the test doesn't hold
  pub data PlainFlatArm : Type 0 where
    FArm : (test : PlainFlatTest) → (start : Point) → (body : PlainFlatStmts) → (rest : Point) → PlainFlatArm

  pub data PlainFlatArms : Type 0 where
    FNoArm : PlainFlatArms
    FMoreArms : (a : PlainFlatArm) → (more : PlainFlatArms) → PlainFlatArms

  -- the numbers of the kinds that it names, and where its body begins
  pub data PlainFlatClause : Type 0 where
    FClause : (kinds : List ℕ) → (start : Point) → (body : PlainFlatStmts) → PlainFlatClause

  pub data PlainFlatClauses : Type 0 where
    FNoClause : PlainFlatClauses
    FMoreClauses : (k : PlainFlatClause) → (more : PlainFlatClauses) → PlainFlatClauses

  pub data PlainFlatTest : Type 0 where
    FLeaf : (before : PlainFlatStmts) → (value : PlainExpr) → PlainFlatTest
    FNot : (test : PlainFlatTest) → PlainFlatTest
    FAnd : (operands : PlainOperands) → PlainFlatTest
    FOr : (operands : PlainOperands) → PlainFlatTest

  -- behind it, where it doesn't decide
  pub data PlainOperand : Type 0 where
    FOperand : (test : PlainFlatTest) → (rest : Point) → PlainOperand

  pub data PlainOperands : Type 0 where
    FNoOperand : PlainOperands
    FMoreOperands : (o : PlainOperand) → (more : PlainOperands) → PlainOperands

pub record PlainFlat : Type 0 where
  pub params : Point
  pub body : List PlainFlatStmt

-- lists of trees as parts of a tree
abbrev pub flat_stmts_of : List PlainFlatStmt → PlainFlatStmts
flat_stmts_of [] = FNoStmt
flat_stmts_of (x ∷ xs) = FStmt x (flat_stmts_of xs)

abbrev pub flat_arms_of : List PlainFlatArm → PlainFlatArms
flat_arms_of [] = FNoArm
flat_arms_of (a ∷ more) = FMoreArms a (flat_arms_of more)

abbrev pub flat_clauses_of : List PlainFlatClause → PlainFlatClauses
flat_clauses_of [] = FNoClause
flat_clauses_of (k ∷ more) = FMoreClauses k (flat_clauses_of more)

abbrev pub operands_of : List PlainOperand → PlainOperands
operands_of [] = FNoOperand
operands_of (o ∷ more) = FMoreOperands o (operands_of more)

-- The views

unfoldable mutual
  pub plain_flat_stmt : FlatStmt → PlainFlatStmt
  plain_flat_stmt s.Mark = FMark
  plain_flat_stmt (s.Set x e) = FSet x.0 (plain_expr e)
  plain_flat_stmt (s.Put x e) = FPut x.0 (plain_expr e)
  plain_flat_stmt (s.Give e) = FGive (plain_expr e)
  plain_flat_stmt (s.Fail kind e) = FFail kind (plain_option plain_expr e)
  plain_flat_stmt (s.Code x) = FCode (plain_stmt x)
  plain_flat_stmt s.Break = FBreak
  plain_flat_stmt s.Continue = FContinue
  plain_flat_stmt (s.Call on callee args into after) = FCall (plain_expr on) callee (exprs_of (plain_exprs args)) into.0 (plain_vars after)
  plain_flat_stmt (s.Make class args into after) = FMake class (exprs_of (plain_exprs args)) into.0 (plain_vars after)
  plain_flat_stmt (s.If' m arms n other after) = FIf (plain_arm_row arms) (plain_stmt_row other) (plain_option plain_vars after)
  plain_flat_stmt (s.While' head test start n body after) = FWhile (plain_vars head) (plain_flat_test test) (plain_vars start) (plain_stmt_row body) (plain_option plain_vars after)
  plain_flat_stmt (s.Try' start n body m clauses after) = FTry (plain_vars start) (plain_stmt_row body) (plain_clause_row clauses) (plain_option plain_vars after)

  pub plain_stmt_row : {n : _} → Row_of-FlatStmt n → PlainFlatStmts
  plain_stmt_row end_of-FlatStmt = FNoStmt
  plain_stmt_row (more_of-FlatStmt x row) = FStmt (plain_flat_stmt x) (plain_stmt_row row)

  pub plain_arm_row : {n : _} → Row_of-FlatArm n → PlainFlatArms
  plain_arm_row end_of-FlatArm = FNoArm
  plain_arm_row (more_of-FlatArm test start n body rest row) = FMoreArms (FArm (plain_flat_test test) (plain_vars start) (plain_stmt_row body) (plain_vars rest)) (plain_arm_row row)

  pub plain_clause_row : {n : _} → Row_of-FlatClause n → PlainFlatClauses
  plain_clause_row end_of-FlatClause = FNoClause
  plain_clause_row (more_of-FlatClause kinds start n body row) = FMoreClauses (FClause kinds (plain_vars start) (plain_stmt_row body)) (plain_clause_row row)

  pub plain_flat_test : FlatTest → PlainFlatTest
  plain_flat_test (t.Leaf' n before e) = FLeaf (plain_stmt_row before) (plain_expr e)
  plain_flat_test (t.Not' p test) = FNot (plain_flat_test test)
  plain_flat_test (t.And' n operands) = FAnd (plain_operand_row operands)
  plain_flat_test (t.Or' n operands) = FOr (plain_operand_row operands)

  pub plain_operand_row : {n : _} → Row_of-Operand n → PlainOperands
  plain_operand_row end_of-Operand = FNoOperand
  plain_operand_row (more_of-Operand test rest row) = FMoreOperands (FOperand (plain_flat_test test) (plain_vars rest)) (plain_operand_row row)

abbrev pub plain_flat_stmts : List FlatStmt → List PlainFlatStmt
plain_flat_stmts = map plain_flat_stmt

abbrev pub plain_flat_arm : FlatArm → PlainFlatArm
plain_flat_arm a = FArm (plain_flat_test a.test) (plain_vars a.start) (flat_stmts_of (plain_flat_stmts a.body)) (plain_vars a.rest)

abbrev pub plain_flat_arms : List FlatArm → List PlainFlatArm
plain_flat_arms = map plain_flat_arm

abbrev pub plain_flat_clause : FlatClause → PlainFlatClause
plain_flat_clause k = FClause k.kinds (plain_vars k.start) (flat_stmts_of (plain_flat_stmts k.body))

abbrev pub plain_flat_clauses : List FlatClause → List PlainFlatClause
plain_flat_clauses = map plain_flat_clause

abbrev pub plain_operand : Operand → PlainOperand
plain_operand o = FOperand (plain_flat_test o.test) (plain_vars o.rest)

abbrev pub plain_operands : List Operand → List PlainOperand
plain_operands = map plain_operand

abbrev pub plain_flat : Flat → PlainFlat
plain_flat f = record { params = plain_vars f.params; body = plain_flat_stmts f.body }

-- What the plain view of flat trees is at each variant, one equation each.
use Rattle.std.proofs.Common.{◌≡◌, ℕ, Option, List, refl, sym, ap, ◌∙◌}
use Rattle.std.specs.declared.alloc.Global.{Global}
use Rattle.std.specs.declared.boxed.Box.{Box}
use Rattle.py_tree.specs.declared.names.Name.{Name}
use Rattle.py_tree.specs.declared.expr.Expr.{Expr}
use Rattle.py_tree.specs.declared.stmt.Stmt.{Stmt}
use Rattle.py_tree.specs.PlainExpressions.{plain_expr, plain_exprs, exprs_of}
use Rattle.py_tree.specs.PlainStatements.{plain_option, plain_stmt}
use Rattle.block_code.specs.declared.vars.VarType.{VarType}
use Rattle.block_code.specs.PlainVars.{plain_vars}
use Rattle.flat_tree.specs.declared.tree.Callee.{Callee}
use Rattle.flat_tree.specs.declared.tree.Created.{Created}
use Rattle.flat_tree.specs.declared.tree.FlatArm.{FlatArm}
use Rattle.flat_tree.specs.declared.tree.FlatClause.{FlatClause}
use Rattle.flat_tree.specs.declared.tree.Operand.{Operand}
use Rattle.flat_tree.specs.declared.tree.FlatStmt.{FlatStmt, Row_of-FlatStmt, end_of-FlatStmt, more_of-FlatStmt, Row_of-FlatArm, end_of-FlatArm, more_of-FlatArm, Row_of-FlatClause, end_of-FlatClause, more_of-FlatClause, items-the_row-FlatStmt, items_hidden-the_row-FlatStmt-0, items_shown-the_row-FlatStmt-0, items-the_row-FlatArm, items_hidden-the_row-FlatArm-1, items-the_row-FlatClause, items_hidden-the_row-FlatClause-2}
use Rattle.flat_tree.specs.declared.tree.FlatStmt as s
use Rattle.flat_tree.specs.declared.tree.FlatStmt.TheBlock.{hidden-the_row-FlatStmt-0, shown-the_row-FlatStmt-0, hidden-the_row-FlatArm-1, hidden-the_row-FlatClause-2, hidden-the_row-Operand-3}
use Rattle.flat_tree.specs.declared.tree.FlatTest.{FlatTest, Row_of-Operand, end_of-Operand, more_of-Operand, items-the_row-Operand, items_hidden-the_row-Operand-3}
use Rattle.flat_tree.specs.declared.tree.FlatTest as t
use Rattle.flat_tree.specs.PlainFlat.{FMark, FSet, FPut, FGive, FFail, FCode, FBreak, FContinue, FCall, FMake, FIf, FWhile, FTry, FStmt, FArm, FMoreArms, FClause, FMoreClauses, FLeaf, FNot, FAnd, FOr, FOperand, FMoreOperands, flat_stmts_of, flat_arms_of, flat_clauses_of, operands_of, plain_flat_stmt, plain_stmt_row, plain_arm_row, plain_clause_row, plain_flat_test, plain_operand_row, plain_flat_stmts, plain_flat_arms, plain_flat_clauses, plain_operands}

-- Rows of children are the lists of their plain trees

stmt_row-items : (m : _) (row : Row_of-FlatStmt m) → plain_stmt_row row ≡ flat_stmts_of (plain_flat_stmts (items-the_row-FlatStmt m row))
unfolding plain_flat_stmt
stmt_row-items m end_of-FlatStmt = refl
stmt_row-items m (more_of-FlatStmt x row) = ap (FStmt (plain_flat_stmt x)) (stmt_row-items _ row)

stmt_row-hidden : (xs : List FlatStmt) → plain_stmt_row (hidden-the_row-FlatStmt-0 xs) ≡ flat_stmts_of (plain_flat_stmts xs)
stmt_row-hidden xs = stmt_row-items _ (hidden-the_row-FlatStmt-0 xs) ∙ ap (λ ys. flat_stmts_of (plain_flat_stmts ys)) (items_hidden-the_row-FlatStmt-0 xs)

stmt_row-shown : (n : _) (row : Row_of-FlatStmt _) → plain_stmt_row row ≡ flat_stmts_of (plain_flat_stmts (shown-the_row-FlatStmt-0 n row))
stmt_row-shown n row = stmt_row-items _ row ∙ ap (λ ys. flat_stmts_of (plain_flat_stmts ys)) (sym (items_shown-the_row-FlatStmt-0 n row))

arm_row-items : (m : _) (row : Row_of-FlatArm m) → plain_arm_row row ≡ flat_arms_of (plain_flat_arms (items-the_row-FlatArm m row))
unfolding plain_flat_stmt
arm_row-items m end_of-FlatArm = refl
arm_row-items m (more_of-FlatArm test start n body rest row) = λ i. FMoreArms (FArm (plain_flat_test test) (plain_vars start) (stmt_row-shown n body i) (plain_vars rest)) (arm_row-items _ row i)

arm_row-hidden : (xs : List FlatArm) → plain_arm_row (hidden-the_row-FlatArm-1 xs) ≡ flat_arms_of (plain_flat_arms xs)
arm_row-hidden xs = arm_row-items _ (hidden-the_row-FlatArm-1 xs) ∙ ap (λ ys. flat_arms_of (plain_flat_arms ys)) (items_hidden-the_row-FlatArm-1 xs)

clause_row-items : (m : _) (row : Row_of-FlatClause m) → plain_clause_row row ≡ flat_clauses_of (plain_flat_clauses (items-the_row-FlatClause m row))
unfolding plain_flat_stmt
clause_row-items m end_of-FlatClause = refl
clause_row-items m (more_of-FlatClause kinds start n body row) = λ i. FMoreClauses (FClause kinds (plain_vars start) (stmt_row-shown n body i)) (clause_row-items _ row i)

clause_row-hidden : (ks : List FlatClause) → plain_clause_row (hidden-the_row-FlatClause-2 ks) ≡ flat_clauses_of (plain_flat_clauses ks)
clause_row-hidden ks = clause_row-items _ (hidden-the_row-FlatClause-2 ks) ∙ ap (λ rest. flat_clauses_of (plain_flat_clauses rest)) (items_hidden-the_row-FlatClause-2 ks)

operand_row-items : (m : _) (row : Row_of-Operand m) → plain_operand_row row ≡ operands_of (plain_operands (items-the_row-Operand m row))
unfolding plain_flat_stmt
operand_row-items m end_of-Operand = refl
operand_row-items m (more_of-Operand test rest row) = ap (FMoreOperands (FOperand (plain_flat_test test) (plain_vars rest))) (operand_row-items _ row)

operand_row-hidden : (xs : List Operand) → plain_operand_row (hidden-the_row-Operand-3 xs) ≡ operands_of (plain_operands xs)
operand_row-hidden xs = operand_row-items _ (hidden-the_row-Operand-3 xs) ∙ ap (λ ys. operands_of (plain_operands ys)) (items_hidden-the_row-Operand-3 xs)

-- Statements

pub flat-Mark : plain_flat_stmt s.Mark ≡ FMark
unfolding plain_flat_stmt
flat-Mark = refl

pub flat-Set : (x : Name) (e : Expr) → plain_flat_stmt (s.Set x e) ≡ FSet x.0 (plain_expr e)
unfolding plain_flat_stmt
flat-Set x e = refl

pub flat-Put : (x : Name) (e : Expr) → plain_flat_stmt (s.Put x e) ≡ FPut x.0 (plain_expr e)
unfolding plain_flat_stmt
flat-Put x e = refl

pub flat-Give : (e : Expr) → plain_flat_stmt (s.Give e) ≡ FGive (plain_expr e)
unfolding plain_flat_stmt
flat-Give e = refl

pub flat-Fail : (kind : ℕ) (e : Option Expr) → plain_flat_stmt (s.Fail kind e) ≡ FFail kind (plain_option plain_expr e)
unfolding plain_flat_stmt
flat-Fail kind e = refl

pub flat-Code : (x : Stmt) → plain_flat_stmt (s.Code x) ≡ FCode (plain_stmt x)
unfolding plain_flat_stmt
flat-Code x = refl

pub flat-Break : plain_flat_stmt s.Break ≡ FBreak
unfolding plain_flat_stmt
flat-Break = refl

pub flat-Continue : plain_flat_stmt s.Continue ≡ FContinue
unfolding plain_flat_stmt
flat-Continue = refl

pub flat-Call : (on : Expr) (callee : Callee) (args : List Expr) (into : Name) (after : List VarType) → plain_flat_stmt (s.Call on callee args into after) ≡ FCall (plain_expr on) callee (exprs_of (plain_exprs args)) into.0 (plain_vars after)
unfolding plain_flat_stmt
flat-Call on callee args into after = refl

pub flat-Make : (class : Created) (args : List Expr) (into : Name) (after : List VarType) → plain_flat_stmt (s.Make class args into after) ≡ FMake class (exprs_of (plain_exprs args)) into.0 (plain_vars after)
unfolding plain_flat_stmt
flat-Make class args into after = refl

pub flat-If : (arms : List FlatArm) (other : List FlatStmt) (after : Option (List VarType)) → plain_flat_stmt (s.If arms other after) ≡ FIf (flat_arms_of (plain_flat_arms arms)) (flat_stmts_of (plain_flat_stmts other)) (plain_option plain_vars after)
unfolding plain_flat_stmt
flat-If arms other after = λ i. FIf (arm_row-hidden arms i) (stmt_row-hidden other i) (plain_option plain_vars after)

pub flat-While : (head : List VarType) (test : FlatTest) (start : List VarType) (body : List FlatStmt) (after : Option (List VarType))
    → plain_flat_stmt (s.While head test start body after) ≡ FWhile (plain_vars head) (plain_flat_test test) (plain_vars start) (flat_stmts_of (plain_flat_stmts body)) (plain_option plain_vars after)
unfolding plain_flat_stmt
flat-While head test start body after = ap (λ xs. FWhile (plain_vars head) (plain_flat_test test) (plain_vars start) xs (plain_option plain_vars after)) (stmt_row-hidden body)

pub flat-Try : (start : List VarType) (body : List FlatStmt) (clauses : List FlatClause) (after : Option (List VarType))
    → plain_flat_stmt (s.Try start body clauses after) ≡ FTry (plain_vars start) (flat_stmts_of (plain_flat_stmts body)) (flat_clauses_of (plain_flat_clauses clauses)) (plain_option plain_vars after)
unfolding plain_flat_stmt
flat-Try start body clauses after = λ i. FTry (plain_vars start) (stmt_row-hidden body i) (clause_row-hidden clauses i) (plain_option plain_vars after)

-- Tests

pub test-Leaf : (before : List FlatStmt) (e : Expr) → plain_flat_test (t.Leaf before e) ≡ FLeaf (flat_stmts_of (plain_flat_stmts before)) (plain_expr e)
unfolding plain_flat_stmt
test-Leaf before e = ap (λ xs. FLeaf xs (plain_expr e)) (stmt_row-hidden before)

pub test-Not : (test : Box FlatTest Global) → plain_flat_test (t.Not test) ≡ FNot (plain_flat_test test.value)
unfolding plain_flat_stmt
test-Not test = refl

pub test-And : (operands : List Operand) → plain_flat_test (t.And operands) ≡ FAnd (operands_of (plain_operands operands))
unfolding plain_flat_stmt
test-And operands = ap FAnd (operand_row-hidden operands)

pub test-Or : (operands : List Operand) → plain_flat_test (t.Or operands) ≡ FOr (operands_of (plain_operands operands))
unfolding plain_flat_stmt
test-Or operands = ap FOr (operand_row-hidden operands)

pub ruleset flat_views = (flat-Mark, flat-Set, flat-Put, flat-Give, flat-Fail, flat-Code, flat-Break, flat-Continue, flat-Call, flat-Make, flat-If, flat-While, flat-Try, test-Leaf, test-Not, test-And, test-Or)

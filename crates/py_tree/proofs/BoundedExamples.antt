-- Sizes, depths and names of small trees.
use Rattle.std.proofs.Common.{◌≡◌, ℕ, [], ◌∷◌, ◌++◌, Some, refl, arith}
use Rattle.std.specs.Prelude.{codes, pos}
use Rattle.py_tree.specs.declared.names.Place.{Place}
use Rattle.py_tree.specs.declared.names.PlacedName.{PlacedName}
use Rattle.py_tree.specs.declared.expr.BinOp.TheVariants as op
use Rattle.py_tree.specs.declared.stmt.Target.TheVariants.{Local}
use Rattle.py_tree.specs.PlainTypes.{PlainWritten, WInt, WList, WOptional, WEntity}
use Rattle.py_tree.specs.PlainExpressions.{PlainExpr, PInt, PVar, PSelf, PAttr, PCall, PApply, PChain, PNoExpr, PExpr, PLink, PNoLink, PMoreLinks}
use Rattle.py_tree.specs.PlainStatements.{PlainStmt, PPass, PDo, PRaise, PAssign, PIf, PFor, PItems, PNoStmt, PStmt, PArm, PNoArm, PMoreArms}
use Rattle.py_tree.specs.ReservedNames.{reserved_names}
use Rattle.py_tree.specs.Bounded.{nesting, expr_size, expr_depth, stmt_size, stmt_depth, TypeNames, ExprNames, StmtNames, EachStmt, RaisesFailure, DeclaresFlat, HasReserved}

abbrev at : Place
at = record { line = 1; col = 1 }

abbrev placed : ℕ → PlacedName
placed name = record { name = record { 0 = name }; place = at }

-- x
abbrev x : PlainExpr
x = PVar at 18

-- self.price
abbrev price : PlainExpr
price = PAttr at (PSelf at) 19 at

-- x + self.price * 2 - 1
abbrev total : PlainExpr
total = PChain at x (PMoreLinks (PLink op.Add at (PChain at price (PMoreLinks (PLink op.Mul at (PInt at (pos 2))) PNoLink))) (PMoreLinks (PLink op.Sub at (PInt at (pos 1))) PNoLink))

-- item.buy(x, len())
abbrev buys : PlainExpr
buys = PCall at (PVar at 20) 21 at (PExpr x (PExpr (PApply at 7 PNoExpr) PNoExpr))

-- List[Optional[Item]]
abbrev items : PlainWritten
items = WList at (WOptional at (WEntity at 22))

-- y: List[Optional[Item]] = x
abbrev declares : PlainStmt
declares = PAssign at (Local (placed 23)) (Some items) x

-- if x: raise ValueError(x), else: pass
abbrev raises : ℕ → PlainStmt
raises kind = PIf at (PMoreArms (PArm x (PStmt (PRaise at kind (Some x)) PNoStmt)) PNoArm) (PStmt (PPass at) PNoStmt)

-- for y in x: item.buy(x, len())
abbrev loops : PlainStmt
loops = PFor at 23 at (PItems x) (PStmt (PDo at buys) PNoStmt)

bare_type : nesting (WInt at) ≡ 0
unfolding nesting
bare_type = refl

enclosed_type : nesting items ≡ 2
unfolding nesting
enclosed_type = refl

leaf : (expr_size x ≡ 1) × (expr_depth x ≡ 1)
unfolding expr_size expr_depth
leaf = (refl, refl)

-- two chains, three links, three leaves, `self` and its field; the deepest are the first chain, the second, the field and `self`
chain : (expr_size total ≡ 10) × (expr_depth total ≡ 4)
unfolding expr_size expr_depth
chain = (refl, refl)

call : (expr_size buys ≡ 4) × (expr_depth buys ≡ 2)
unfolding expr_size expr_depth
call = (refl, refl)

branches : (stmt_size (raises 7) ≡ 5) × (stmt_depth (raises 7) ≡ 3)
unfolding expr_size expr_depth stmt_size stmt_depth
branches = (refl, refl)

loop : (stmt_size loops ≡ 7) × (stmt_depth loops ≡ 4)
unfolding expr_size expr_depth stmt_size stmt_depth
loop = (refl, refl)

-- the greatest name here is 23
all_numbered : StmtNames 24 loops × StmtNames 24 declares
unfolding StmtNames ExprNames TypeNames
all_numbered = ((omega arith, omega arith, ((omega arith, omega arith, (omega arith, ((omega arith, tt), tt))), tt)), (omega arith, omega arith, omega arith))

one_too_few : StmtNames 23 declares → ⊥
unfolding StmtNames ExprNames TypeNames
one_too_few h = absurd (omega (arith, h.0))

value_error : EachStmt RaisesFailure (raises 7)
unfolding EachStmt
value_error = (tt, (((omega arith, omega arith), tt), tt), (tt, tt))

other_failure : EachStmt RaisesFailure (raises 5) → ⊥
unfolding EachStmt
other_failure h = absurd (omega (arith, h.1.0.0.0))

flat : EachStmt DeclaresFlat declares
unfolding EachStmt nesting
flat = omega arith

reserved_first : HasReserved (reserved_names ++ codes "Item" ∷ [])
reserved_first = record { others = codes "Item" ∷ []; starts = refl }

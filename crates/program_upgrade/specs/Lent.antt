-- Expressions that are lent, as plain ones.
use Rattle.std.specs.Prelude.{List, map}
use Rattle.std.specs.Borrow.{Bor}
use Rattle.py_tree.specs.declared.expr.Expr.{Expr}
use Rattle.py_tree.specs.PlainExpressions.{PlainExpr, plain_expr}

abbrev pub exprs_in : List (Bor Expr) → List PlainExpr
exprs_in lent = map (λ e. plain_expr e.now) lent

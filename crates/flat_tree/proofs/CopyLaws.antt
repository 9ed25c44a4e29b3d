-- Copies of lists, as plain ones.
use Rattle.std.proofs.Common.{◌≡◌, List, map}
use Rattle.sf_list.specs.Copies.{AreCopies}
use Rattle.sf_list.proofs.CopyLaws.{map-AreCopies}
use Rattle.py_tree.specs.declared.expr.Expr.{Expr}
use Rattle.py_tree.specs.PlainExpressions.{plain_expr}
use Rattle.block_code.specs.declared.vars.VarType.{VarType}
use Rattle.block_code.specs.PlainVars.{plain_var}

pub copied_vars : (xs ys : List VarType) → AreCopies (λ old made. plain_var made ≡ plain_var old) xs ys → map plain_var ys ≡ map plain_var xs
copied_vars xs ys h = map-AreCopies (λ old made. plain_var made ≡ plain_var old) plain_var (λ x y e. e) xs ys h

pub copied_exprs : (xs ys : List Expr) → AreCopies (λ old made. plain_expr made ≡ plain_expr old) xs ys → map plain_expr ys ≡ map plain_expr xs
copied_exprs xs ys h = map-AreCopies (λ old made. plain_expr made ≡ plain_expr old) plain_expr (λ x y e. e) xs ys h

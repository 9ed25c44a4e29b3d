-- A string alone as the first statement.
use Rattle.std.proofs.Common.{◌≡◌, ◌<◌, true, false, List, [], ◌∷◌, ◌++◌, map, length, take, drop, if◌then◌else◌, Some, None, refl, sym, ap, ◌∙◌, arith}
use Rattle.std.specs.Prelude.{slice_get}
use Rattle.py_tree.specs.declared.stmt.Stmt.{Stmt}
use Rattle.py_tree.specs.PlainStatements.{PlainStmt, plain_stmt, plain_stmts}
use Rattle.py_tree.specs.Grammar.{is_docstring, begins_with_string, without_docstring}

pub none_first : (ys : List Stmt) → slice_get ys 0 ≡ None → begins_with_string (plain_stmts ys) ≡ false
none_first [] e = refl
none_first (y ∷ ys) e = absurd cc

pub some_first : (ys : List Stmt) (x : Stmt) → slice_get ys 0 ≡ Some x → begins_with_string (plain_stmts ys) ≡ is_docstring (plain_stmt x)
some_first [] x e = absurd cc
some_first (y ∷ ys) x e = let same : y ≡ x = cc in ap (λ z. is_docstring (plain_stmt z)) same

pub some_left : (ys : List Stmt) → begins_with_string (plain_stmts ys) ≡ true → 0 < length ys
some_left [] e = absurd cc
some_left (y ∷ ys) e = omega arith

cut : (zs : List PlainStmt) → begins_with_string zs ≡ true → without_docstring zs ≡ drop 1 zs
cut zs b = ap (λ t. if t then drop 1 zs else zs) b

pub kept : (ys : List Stmt) → begins_with_string (plain_stmts ys) ≡ false → plain_stmts ys ≡ without_docstring (plain_stmts ys)
kept ys b = sym (ap (λ t. if t then drop 1 (plain_stmts ys) else plain_stmts ys) b)

pub dropped : (ys new : List Stmt) → begins_with_string (plain_stmts ys) ≡ true → new ≡ take 0 ys ++ drop 1 ys → plain_stmts new ≡ without_docstring (plain_stmts ys)
dropped [] new b e = absurd cc
dropped (y ∷ ys) new b e = ap (map plain_stmt) e ∙ sym (cut (plain_stmts (y ∷ ys)) b)

pub ruleset docstrings = (none_first, some_first, some_left, kept, dropped)

-- Copies of the lists of a program, as their plain trees.
use Rattle.std.proofs.Common.{◌≡◌, List, map}
use Rattle.sf_list.specs.Copies.{AreCopies}
use Rattle.sf_list.proofs.CopyLaws.{map-AreCopies}
use Rattle.py_tree.specs.declared.stmt.Stmt.{Stmt}
use Rattle.py_tree.specs.declared.program.Param.{Param}
use Rattle.py_tree.specs.declared.program.Method.{Method}
use Rattle.py_tree.specs.declared.program.Class.{Class}
use Rattle.py_tree.specs.PlainStatements.{plain_stmt, plain_stmts}
use Rattle.py_tree.specs.PlainProgram.{plain_param, plain_params, plain_method, plain_methods, plain_class}

pub copied_params : (xs ys : List Param) → AreCopies (λ old made. plain_param made ≡ plain_param old) xs ys → plain_params ys ≡ plain_params xs
copied_params xs ys h = map-AreCopies (λ old made. plain_param made ≡ plain_param old) plain_param (λ x y e. e) xs ys h

pub copied_stmts : (xs ys : List Stmt) → AreCopies (λ old made. plain_stmt made ≡ plain_stmt old) xs ys → plain_stmts ys ≡ plain_stmts xs
copied_stmts xs ys h = map-AreCopies (λ old made. plain_stmt made ≡ plain_stmt old) plain_stmt (λ x y e. e) xs ys h

pub copied_methods : (xs ys : List Method) → AreCopies (λ old made. plain_method made ≡ plain_method old) xs ys → plain_methods ys ≡ plain_methods xs
copied_methods xs ys h = map-AreCopies (λ old made. plain_method made ≡ plain_method old) plain_method (λ x y e. e) xs ys h

pub copied_classes : (xs ys : List Class) → AreCopies (λ old made. plain_class made ≡ plain_class old) xs ys → map plain_class ys ≡ map plain_class xs
copied_classes xs ys h = map-AreCopies (λ old made. plain_class made ≡ plain_class old) plain_class (λ x y e. e) xs ys h

pub ruleset list_copies = (copied_params, copied_stmts, copied_methods, copied_classes)

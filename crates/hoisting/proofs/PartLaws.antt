-- What is hoisted, as it is made.
use Rattle.std.proofs.Common.{◌≡◌, ℕ, true, Option, List, [], ◌∷◌, ◌++◌, ap, ◌∙◌}
use Rattle.std.proofs.lemmas.List.{map-append}
use Rattle.py_tree.specs.declared.names.Name.{Name}
use Rattle.py_tree.specs.declared.names.Place.{Place}
use Rattle.py_tree.specs.declared.expr.Expr.{Expr}
use Rattle.py_tree.specs.PlainTypes.{PlainTy}
use Rattle.py_tree.specs.PlainExpressions.{PVar, plain_expr, plain_exprs, exprs_of}
use Rattle.py_tree.specs.PlainStatements.{plain_option}
use Rattle.flat_tree.specs.declared.tree.FlatStmt.{FlatStmt}
use Rattle.flat_tree.specs.declared.tree.FlatStmt as s
use Rattle.flat_tree.specs.PlainFlat.{FSet, FFail, FCall, FMake, plain_flat_stmt, plain_flat_stmts}
use Rattle.flat_tree.proofs.FlatViews.{flat-Set, flat-Fail, flat-Call, flat-Make}
use Rattle.hoisting.specs.declared.stages.Stage.{Stage}
use Rattle.flat_tree.specs.declared.tree.Callee.{Callee}
use Rattle.flat_tree.specs.declared.tree.Created.{Created}
use Rattle.block_code.specs.declared.vars.VarType.{VarType}
use Rattle.block_code.specs.PlainVars.{plain_vars}
use Rattle.entity_types.specs.Views.{plain_locals}
use Rattle.py_tree.specs.Flow.{Context}
use Rattle.hoisting.specs.Stages.{surely, with_temporary, callee_of, created_of}
use Rattle.hoisting.specs.Stages as spec
use Rattle.hoisting.specs.HoistExpressions.{call_of, apply_of}
use Rattle.hoisting.specs.Views.{plain_stage, hoisted_at, each_at, call_at}

pub pushed : (xs ys : List FlatStmt) (x : FlatStmt) → ys ≡ xs ++ x ∷ [] → plain_flat_stmts ys ≡ plain_flat_stmts xs ++ plain_flat_stmt x ∷ []
pushed xs ys x is = ap plain_flat_stmts is ∙ map-append plain_flat_stmt xs (x ∷ [])

pub pushed_set : (xs ys : List FlatStmt) (x : Name) (e : Expr) → ys ≡ xs ++ s.Set x e ∷ [] → plain_flat_stmts ys ≡ plain_flat_stmts xs ++ FSet x.0 (plain_expr e) ∷ []
pushed_set xs ys x e is = pushed xs ys (s.Set x e) is ∙ ap (λ y. plain_flat_stmts xs ++ y ∷ []) (flat-Set x e)

pub pushed_fail : (xs ys : List FlatStmt) (kind : ℕ) (e : Option Expr) → ys ≡ xs ++ s.Fail kind e ∷ [] → plain_flat_stmts ys ≡ plain_flat_stmts xs ++ FFail kind (plain_option plain_expr e) ∷ []
pushed_fail xs ys kind e is = pushed xs ys (s.Fail kind e) is ∙ ap (λ y. plain_flat_stmts xs ++ y ∷ []) (flat-Fail kind e)

-- a call, and a creation, wait for their result in the next temporary
pub call_waits : (c : Context) (before more : List FlatStmt) (on made : Expr) (callee : Callee) (args : List Expr) (into : Name) (after : List VarType) (old new : Stage) (at : Place) (ty on_ty : PlainTy) (name : ℕ) (name_at : Place)
    → more ≡ before ++ s.Call on callee args into after ∷ [] → callee ≡ callee_of c on_ty name → plain_expr made ≡ PVar at into.0 → plain_stage new ≡ with_temporary ty (plain_stage old) → into.0 ≡ old.next → plain_vars after ≡ surely (plain_locals new.locals)
    → hoisted_at (record { before = more; rest = made }) new ≡ call_of c true at ty on_ty name name_at (call_at (record { before = before; on = on; args = args }) old)
call_waits c before more on made callee args into after old new at ty on_ty name name_at longer called read known next point =
    let behind : plain_vars after ≡ surely (with_temporary ty (plain_stage old)).locals = point ∙ ap (λ (h : spec.Stage). surely h.locals) known in
    λ i. record {
      before =
          (pushed before more (s.Call on callee args into after) longer
          ∙ ap (λ x. plain_flat_stmts before ++ x ∷ []) (flat-Call on callee args into after ∙ (λ j. FCall (plain_expr on) (called j) (exprs_of (plain_exprs args)) (next j) (behind j))))
          i;
      rest = (read ∙ ap (PVar at) next) i;
      stage = known i;
    }

pub creation_waits : (c : Context) (before more : List FlatStmt) (made : Expr) (class : Created) (args : List Expr) (into : Name) (after : List VarType) (old new : Stage) (at : Place) (ty : PlainTy) (name : ℕ)
    → more ≡ before ++ s.Make class args into after ∷ [] → class ≡ created_of c name → plain_expr made ≡ PVar at into.0 → plain_stage new ≡ with_temporary ty (plain_stage old) → into.0 ≡ old.next → plain_vars after ≡ surely (plain_locals new.locals)
    → hoisted_at (record { before = more; rest = made }) new ≡ apply_of c true at ty name (each_at (record { before = before; rest = args }) old)
creation_waits c before more made class args into after old new at ty name longer created read known next point =
    let behind : plain_vars after ≡ surely (with_temporary ty (plain_stage old)).locals = point ∙ ap (λ (h : spec.Stage). surely h.locals) known in
    λ i. record {
      before =
          (pushed before more (s.Make class args into after) longer
          ∙ ap (λ x. plain_flat_stmts before ++ x ∷ []) (flat-Make class args into after ∙ (λ j. FMake (created j) (exprs_of (plain_exprs args)) (next j) (behind j))))
          i;
      rest = (read ∙ ap (PVar at) next) i;
      stage = known i;
    }

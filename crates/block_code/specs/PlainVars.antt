-- Variables with their types, as plain ones.
use Rattle.std.specs.Prelude.{ℕ, List, map}
use Rattle.py_tree.specs.PlainTypes.{PlainTy, plain_ty}
use Rattle.block_code.specs.declared.vars.VarType.{VarType}

pub record PlainVar : Type 0 where
  pub name : ℕ
  pub ty : PlainTy

abbrev pub plain_var : VarType → PlainVar
plain_var v = record { name = v.name.0; ty = plain_ty v.ty }

abbrev pub plain_vars : List VarType → List PlainVar
plain_vars = map plain_var

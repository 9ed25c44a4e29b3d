-- Methods of the sample programs as flat code, with the points in it.
use Rattle.std.proofs.Common.{◌≡◌, ℕ, pos, true, false, Some, None, List, [], ◌∷◌, refl}
use Rattle.std.specs.Prelude.{not}
use Rattle.py_tree.specs.declared.names.Place.{Place}
use Rattle.py_tree.specs.declared.names.PlacedName.{PlacedName}
use Rattle.py_tree.specs.declared.expr.BinOp.TheVariants as op
use Rattle.py_tree.specs.declared.expr.Cmp.TheVariants as cmp
use Rattle.py_tree.specs.declared.stmt.Target.TheVariants as target
use Rattle.py_tree.specs.PlainTypes.{PlainTy, TInt, TBool, TStr, TList, TEntity}
use Rattle.py_tree.specs.ClassRules.{PlainTable, PlainSigParam, PlainField, is_self}
use Rattle.py_tree.specs.FlowEnvironment.{PlainLocal, local_of, has_name, shown, narrowed}
use Rattle.py_tree.specs.ExpressionTypes.{type_of, type_of_name, self_ty, table_named, method_of, field_of, assignable, combined, as_condition, comparison, ordered}
use Rattle.py_tree.specs.Flow.{Context, param_local, flow, earlier, with_local, assigned, local_assigned, local_fault, plainly_assigned, stored, result_at, return_fault, value_as, settled, known_at, joined, at_head, for_head, after_for, item_of, augmentation, is_key_field, combined_stored, augmented}
use Rattle.py_tree.specs.Reachability.{goes_on, assigned_in}
use Rattle.py_tree.specs.PlainExpressions.{PlainExpr, PInt, PBool, PVar, PSelf, PAttr, PCall, PApply, PIndex, PList, PNeg, PNot, PChain, PAnd, PCompare, PNoExpr, PExpr, PLink, PNoLink, PMoreLinks}
use Rattle.py_tree.specs.PlainStatements.{PItems, PlainStmt, PBreak, PReturn, PAssign, PAugment, PIf, PFor, PNoStmt, PStmt, PArm, PNoArm, PMoreArms, stmts_of}
use Rattle.call_graph.specs.SuspendingCode.{Leaving, expr_suspends, stmt_suspends}
use Rattle.flat_tree.specs.PlainFlat.{FMark, FSet, FPut, FGive, FCode, FBreak, FCall, FIf, FWhile, FNoStmt, FStmt, FArm, FNoArm, FMoreArms, FLeaf, FNot, FAnd, FOperand, FNoOperand, FMoreOperands, flat_stmts_of}
use Rattle.flat_tree.specs.Flatness.{jumps}
use Rattle.flat_tree.specs.declared.tree.Callee.{Callee}
use Rattle.block_code.specs.PlainVars.{PlainVar}
use Rattle.hoisting.specs.HoistExpressions.{taken}
use Rattle.hoisting.specs.HoistStatements.{opened, flat_all}

abbrev at : Place
at = record { line = 1; col = 1 }

abbrev named : ℕ → PlacedName
named x = record { name = record { 0 = x }; place = at }

abbrev var : ℕ → PlainTy → PlainVar
var name ty = record { name = name; ty = ty }

abbrev param : ℕ → PlainTy → PlainSigParam
param name ty = record { name = name; ty = ty }

abbrev field : ℕ → PlainTy → PlainField
field name ty = record { name = name; ty = ty }

abbrev callee : ℕ → ℕ → ℕ → Callee
callee name class method = record { name = record { 0 = name }; class = class; method = method }

-- no method of these classes stays within its entity; names have the numbers below 50
abbrev leaves : Leaving
leaves on name = not (is_self on)

-- ping.py: the classes A, 20, and B, 21, with the methods `go`, 25, `ask`, 26, `poke`, 27, and `yes`, 28, the field `n`, 22, and the
-- parameters `b`, 29, and `flag`, 30
abbrev ping : List PlainTable
ping =
    record {
      name = 20;
      key_field = 0;
      key_param = 0;
      fields = field 23 TStr ∷ field 22 TInt ∷ [];
      methods = record { name = 25; params = param 29 (TEntity 21) ∷ []; result = TInt } ∷ record { name = 26; params = param 30 TBool ∷ param 29 (TEntity 21) ∷ []; result = TBool } ∷ [];
      init = param 23 TStr ∷ [];
    }
    ∷ record {
      name = 21;
      key_field = 0;
      key_param = 0;
      fields = field 23 TStr ∷ [];
      methods = record { name = 27; params = param 31 (TEntity 20) ∷ []; result = TInt } ∷ record { name = 28; params = []; result = TBool } ∷ [];
      init = param 23 TStr ∷ [];
    }
    ∷ []

abbrev in_ping : ℕ → Context
in_ping method = record { tables = ping; class = 0; method = Some method; in_loop = false }

-- self.n
abbrev n_read : PlainExpr
n_read = PAttr at (PSelf at) 22 at

-- go: self.n += b.poke(self), and return self.n; the read of self.n stands before the call
go : (flat_all leaves (in_ping 0) (stmts_of (PAugment at (target.Field (named 22)) op.Add at (PCall at (PVar at 29) 27 at (PExpr (PSelf at) PNoExpr)) ∷ PReturn at (Some n_read) ∷ [])) (record { locals = param_local (param 29 (TEntity 21)) ∷ []; next = 50 })).code
    ≡ FMark ∷ FSet 50 n_read ∷ FCall (PVar at 29) (callee 27 1 0) (PExpr (PSelf at) PNoExpr) 51 (var 29 (TEntity 21) ∷ var 50 TInt ∷ var 51 TInt ∷ []) ∷ FPut 22 (PChain at (PVar at 50) (PMoreLinks (PLink op.Add at (PVar at 51)) PNoLink)) ∷ FCode (PReturn at (Some n_read)) ∷ []
unfolding opened taken expr_suspends stmt_suspends jumps goes_on flow type_of type_of_name table_named local_of method_of narrowed has_name shown self_ty field_of assignable augmentation is_key_field combined_stored augmented
go = refl

-- ask: return flag and b.yes()
ask : (flat_all leaves (in_ping 1) (stmts_of (PReturn at (Some (PAnd at (PExpr (PVar at 30) (PExpr (PCall at (PVar at 29) 28 at PNoExpr) PNoExpr)))) ∷ [])) (record { locals = param_local (param 30 TBool) ∷ param_local (param 29 (TEntity 21)) ∷ []; next = 50 })).code
    ≡ FMark
    ∷ FIf
    (FMoreArms
    (FArm
    (FAnd
    (FMoreOperands (FOperand (FLeaf FNoStmt (PVar at 30)) (var 30 TBool ∷ var 29 (TEntity 21) ∷ []))
    (FMoreOperands (FOperand (FLeaf (FStmt (FCall (PVar at 29) (callee 28 1 1) PNoExpr 50 (var 30 TBool ∷ var 29 (TEntity 21) ∷ var 50 TBool ∷ [])) FNoStmt) (PVar at 50)) (var 30 TBool ∷ var 29 (TEntity 21) ∷ [])) FNoOperand))) (var 30 TBool ∷ var 29 (TEntity 21) ∷ [])
    (FStmt (FSet 51 (PBool at true)) FNoStmt) (var 30 TBool ∷ var 29 (TEntity 21) ∷ [])) FNoArm) (FStmt (FSet 51 (PBool at false)) FNoStmt) (Some (var 30 TBool ∷ var 29 (TEntity 21) ∷ var 51 TBool ∷ []))
    ∷ FGive (PVar at 51)
    ∷ []
unfolding opened taken expr_suspends stmt_suspends jumps goes_on flow type_of narrowed type_of_name table_named has_name local_of shown method_of
ask = refl

-- shop.py: the classes Item, 20, and User, 21, with the methods `price`, 24, `update_stock`, 25, and `buy_item`, 26, the field
-- `balance`, 27, the parameters `amount`, 28, and `item`, 29, and the local `total`, 30
abbrev shop : List PlainTable
shop =
    record { name = 20; key_field = 0; key_param = 0; fields = field 23 TStr ∷ []; methods = record { name = 24; params = []; result = TInt } ∷ record { name = 25; params = param 28 TInt ∷ []; result = TBool } ∷ []; init = param 23 TStr ∷ [] }
    ∷ record {
      name = 21;
      key_field = 0;
      key_param = 0;
      fields = field 23 TStr ∷ field 27 TInt ∷ [];
      methods = record { name = 26; params = param 28 TInt ∷ param 29 (TEntity 20) ∷ []; result = TBool } ∷ [];
      init = param 23 TStr ∷ [];
    }
    ∷ []

abbrev in_shop : Context
in_shop = record { tables = shop; class = 1; method = Some 0; in_loop = false }

-- return False
abbrev refused : PlainStmt
refused = PReturn at (Some (PBool at false))

-- if self.balance < total: return False
abbrev too_dear : PlainStmt
too_dear = PIf at (PMoreArms (PArm (PCompare at cmp.Lt at (PAttr at (PSelf at) 27 at) (PVar at 30)) (PStmt refused PNoStmt)) PNoArm) PNoStmt

-- self.balance -= total
abbrev paid : PlainStmt
paid = PAugment at (target.Field (named 27)) op.Sub at (PVar at 30)

abbrev locals : List PlainLocal
locals = param_local (param 28 TInt) ∷ param_local (param 29 (TEntity 20)) ∷ record { name = 30; ty = TInt; assigned = false; not_none = false } ∷ []

-- what is assigned behind the first statement
abbrev so_far : List PlainVar
so_far = var 28 TInt ∷ var 29 (TEntity 20) ∷ var 30 TInt ∷ []

-- buy_item: total = amount * item.price(), then the two tests, of which the second suspends, and then the price is paid
buy_item : (flat_all leaves in_shop
    (stmts_of
    (PAssign at (target.Local (named 30)) None (PChain at (PVar at 28) (PMoreLinks (PLink op.Mul at (PCall at (PVar at 29) 24 at PNoExpr)) PNoLink)) ∷ too_dear
    ∷ PIf at (PMoreArms (PArm (PNot at (PCall at (PVar at 29) 25 at (PExpr (PNeg at (PVar at 28)) PNoExpr))) (PStmt refused PNoStmt)) PNoArm) PNoStmt ∷ paid ∷ PReturn at (Some (PBool at true)) ∷ [])) (record { locals = locals; next = 50 })).code
    ≡ FMark ∷ FSet 50 (PVar at 28) ∷ FCall (PVar at 29) (callee 24 0 0) PNoExpr 51 (var 28 TInt ∷ var 29 (TEntity 20) ∷ var 50 TInt ∷ var 51 TInt ∷ []) ∷ FSet 30 (PChain at (PVar at 50) (PMoreLinks (PLink op.Mul at (PVar at 51)) PNoLink)) ∷ FCode too_dear ∷ FMark
    ∷ FIf
    (FMoreArms
    (FArm (FNot (FLeaf (FStmt (FCall (PVar at 29) (callee 25 0 1) (PExpr (PNeg at (PVar at 28)) PNoExpr) 52 (var 28 TInt ∷ var 29 (TEntity 20) ∷ var 30 TInt ∷ var 52 TBool ∷ [])) FNoStmt) (PVar at 52))) so_far (FStmt (FCode refused) FNoStmt) so_far) FNoArm) FNoStmt (Some so_far)
    ∷ FCode paid ∷ FCode (PReturn at (Some (PBool at true))) ∷ []
unfolding opened taken expr_suspends stmt_suspends jumps goes_on flow type_of type_of_name table_named as_condition narrowed has_name shown local_of field_of method_of assigned local_assigned local_fault plainly_assigned combined stored earlier assignable with_local comparison ordered return_fault value_as result_at settled known_at joined assigned_in
buy_item = refl

-- Cart, 22, with the method `first_dear`, 31, the parameters `items`, 32, and `least`, 33, and the locals `found`, 34, and `it`, 35
abbrev in_cart : Context
in_cart = record {
  tables = record { name = 22; key_field = 0; key_param = 0; fields = field 23 TStr ∷ []; methods = record { name = 31; params = param 32 (TList (TEntity 20)) ∷ param 33 TInt ∷ []; result = TInt } ∷ []; init = param 23 TStr ∷ [] } ∷ shop;
  class = 0;
  method = Some 0;
  in_loop = false;
}

abbrev found_none : PlainStmt
found_none = PAssign at (target.Local (named 34)) None (PInt at (pos 0))

-- it.price()
abbrev price_of_it : PlainExpr
price_of_it = PCall at (PVar at 35) 24 at PNoExpr

-- for it in items: if it.price() >= least: found = it.price(); break
abbrev over_items : PlainStmt
over_items = PFor at 35 at (PItems (PVar at 32)) (PStmt (PIf at (PMoreArms (PArm (PCompare at cmp.Ge at price_of_it (PVar at 33)) (PStmt (PAssign at (target.Local (named 34)) None price_of_it) (PStmt (PBreak at) PNoStmt))) PNoArm) PNoStmt) PNoStmt)

abbrev cart_locals : List PlainLocal
cart_locals = param_local (param 32 (TList (TEntity 20))) ∷ param_local (param 33 TInt) ∷ record { name = 34; ty = TInt; assigned = false; not_none = false } ∷ record { name = 35; ty = TEntity 20; assigned = false; not_none = false } ∷ []

-- the list, the place in it, and an empty list
abbrev list_vars : List PlainVar
list_vars = var 50 (TList (TEntity 20)) ∷ var 51 TInt ∷ var 52 (TList (TEntity 20)) ∷ []

abbrev known : List PlainVar
known = var 32 (TList (TEntity 20)) ∷ var 33 TInt ∷ var 34 TInt ∷ []

abbrev in_turn_vars : List PlainVar
in_turn_vars = var 32 (TList (TEntity 20)) ∷ var 33 TInt ∷ var 34 TInt ∷ var 35 (TEntity 20) ∷ list_vars

abbrev len : PlainExpr → PlainExpr
len e = PApply at 7 (PExpr e PNoExpr)

abbrev sum : PlainExpr → PlainExpr → PlainExpr
sum x y = PChain at x (PMoreLinks (PLink op.Add at y) PNoLink)

-- first_dear: the list and the place in it are kept over the calls
first_dear : (flat_all leaves in_cart (stmts_of (found_none ∷ over_items ∷ PReturn at (Some (PVar at 34)) ∷ [])) (record { locals = cart_locals; next = 50 })).code
    ≡ FCode found_none ∷ FMark ∷ FSet 50 (PVar at 32) ∷ FSet 52 (PList at PNoExpr) ∷ FSet 50 (sum (PVar at 52) (PVar at 50)) ∷ FSet 51 (PInt at (pos 0))
    ∷ FWhile (var 32 (TList (TEntity 20)) ∷ var 33 TInt ∷ var 34 TInt ∷ list_vars) (FLeaf FNoStmt (PCompare at cmp.Lt at (PVar at 51) (len (PVar at 50)))) (var 32 (TList (TEntity 20)) ∷ var 33 TInt ∷ var 34 TInt ∷ list_vars)
    (flat_stmts_of
    (FSet 35 (PIndex at (PVar at 50) (PVar at 51)) ∷ FSet 51 (sum (PVar at 51) (PInt at (pos 1))) ∷ FMark
    ∷ FIf
    (FMoreArms
    (FArm (FLeaf (FStmt (FCall (PVar at 35) (callee 24 1 0) PNoExpr 53 (var 32 (TList (TEntity 20)) ∷ var 33 TInt ∷ var 34 TInt ∷ var 35 (TEntity 20) ∷ var 50 (TList (TEntity 20)) ∷ var 51 TInt ∷ var 52 (TList (TEntity 20)) ∷ var 53 TInt ∷ [])) FNoStmt) (PCompare at cmp.Ge at (PVar at 53) (PVar at 33))) in_turn_vars
    (flat_stmts_of
    (FMark ∷ FCall (PVar at 35) (callee 24 1 0) PNoExpr 54 (var 32 (TList (TEntity 20)) ∷ var 33 TInt ∷ var 34 TInt ∷ var 35 (TEntity 20) ∷ var 50 (TList (TEntity 20)) ∷ var 51 TInt ∷ var 52 (TList (TEntity 20)) ∷ var 54 TInt ∷ []) ∷ FSet 34 (PVar at 54) ∷ FMark ∷ FBreak ∷ [])) in_turn_vars)
    FNoArm) FNoStmt (Some in_turn_vars)
    ∷ [])) (Some known)
    ∷ FCode (PReturn at (Some (PVar at 34))) ∷ []
unfolding opened taken expr_suspends stmt_suspends jumps goes_on flow type_of type_of_name table_named as_condition narrowed has_name shown local_of field_of method_of assigned local_assigned local_fault plainly_assigned combined stored earlier assignable with_local comparison ordered return_fault value_as result_at settled known_at joined assigned_in at_head for_head after_for item_of
first_dear = refl

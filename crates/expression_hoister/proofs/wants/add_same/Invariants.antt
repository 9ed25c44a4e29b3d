use Rattle.std.proofs.Common.{◌≡◌, ◌++◌, Some, drop}
use Rattle.py_tree.specs.PlainTypes.{plain_ty}
use Rattle.py_tree.specs.PlainExpressions.{plain_exprs, exprs_of}
use Rattle.hoisting.specs.HoistExpressions.{each_wanted}
use Rattle.expression_hoister.specs.ExpressionViews.{plain_each_wanted}
use Rattle.expression_hoister.proofs.wants.add_same.Given as goal

abbrev pub invariant-loop-item : goal.invariant-loop-item
invariant-loop-item l =
    plain_each_wanted l.made ++ each_wanted (Some (plain_ty l.ty)) (exprs_of (plain_exprs (drop l.item-index l.items)))
    ≡ plain_each_wanted l.initial.made ++ each_wanted (Some (plain_ty l.ty)) (exprs_of (plain_exprs l.items))

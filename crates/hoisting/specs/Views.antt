-- The trees that functions make, as the definition has them, and the method where they stand.
use Rattle.std.specs.Prelude.{List}
use Rattle.std.specs.declared.option.Option.{Option}
use Rattle.py_tree.specs.declared.expr.Expr.{Expr}
use Rattle.py_tree.specs.PlainTypes.{PlainTy}
use Rattle.py_tree.specs.PlainExpressions.{PlainExpr, PlainExprs, plain_expr, plain_exprs, exprs_of}
use Rattle.py_tree.specs.FlowEnvironment.{PlainLocal}
use Rattle.py_tree.specs.Flow.{Context, in_method}
use Rattle.call_graph.specs.SuspendingCode.{Leaving, leaving_in}
use Rattle.entity_tables.specs.Views.{plain_tables}
use Rattle.entity_types.specs.Views.{plain_locals}
use Rattle.flat_tree.specs.PlainFlat.{plain_flat_stmts}
use Rattle.hoisting.specs.declared.parts.Hoisted.{Hoisted}
use Rattle.hoisting.specs.declared.parts.HoistedEach.{HoistedEach}
use Rattle.hoisting.specs.declared.parts.HoistedCall.{HoistedCall}
use Rattle.hoisting.specs.declared.parts.HoistedTwo.{HoistedTwo}
use Rattle.hoisting.specs.declared.stages.Stage.{Stage}
use Rattle.hoisting.specs.declared.setting.Setting.{Setting}
use Rattle.hoisting.specs.HoistExpressions.{Hoisted as PlainHoisted, Forms, forms}
use Rattle.hoisting.specs.Stages as spec

abbrev pub plain_stage : Stage → spec.Stage
plain_stage h = record { locals = plain_locals h.locals; next = h.next }

-- where the method stands that is made flat, and which calls leave there
abbrev pub context_of : Setting → Context
context_of s = in_method (plain_tables s.tables.now) s.class s.method

abbrev pub leaves_of : Setting → Leaving
leaves_of s = leaving_in s.program.now s.calls.now s.class

-- the type of an expression there
abbrev pub ty_in : Setting → List PlainLocal → Option PlainTy → PlainExpr → PlainTy
ty_in s locals wanted e = spec.ty_at (context_of s) wanted locals e

-- what is hoisted, with what is known behind what runs before
abbrev pub hoisted_at : Hoisted → Stage → PlainHoisted PlainExpr
hoisted_at a h = record { before = plain_flat_stmts a.before; rest = plain_expr a.rest; stage = plain_stage h }

abbrev pub each_at : HoistedEach → Stage → PlainHoisted PlainExprs
each_at a h = record { before = plain_flat_stmts a.before; rest = exprs_of (plain_exprs a.rest); stage = plain_stage h }

abbrev pub call_at : HoistedCall → Stage → PlainHoisted (PlainExpr × PlainExprs)
call_at a h = record { before = plain_flat_stmts a.before; rest = (plain_expr a.on, exprs_of (plain_exprs a.args)); stage = plain_stage h }

abbrev pub two_at : HoistedTwo → Stage → PlainHoisted (PlainExpr × PlainExpr)
two_at a h = record { before = plain_flat_stmts a.before; rest = (plain_expr a.first, plain_expr a.second); stage = plain_stage h }

-- an expression as a value and as a test
abbrev pub forms_of : Setting → Expr → Forms
forms_of s e = forms (leaves_of s) (context_of s) (plain_expr e)

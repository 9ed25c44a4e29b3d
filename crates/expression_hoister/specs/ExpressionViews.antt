-- The trees that functions make, as the definition has them, and what functions give.
use Rattle.std.specs.Prelude.{ℕ, Bool, List, map, option_map, is_none, Some}
use Rattle.std.specs.declared.option.Option.{Option}
use Rattle.std.specs.Borrow.{Bor}
use Rattle.py_tree.specs.declared.names.Name.{Name}
use Rattle.py_tree.specs.declared.names.Place.{Place}
use Rattle.py_tree.specs.declared.names.PlacedName.{PlacedName}
use Rattle.py_tree.specs.declared.ty.Ty.{Ty}
use Rattle.py_tree.specs.declared.expr.Expr.{Expr}
use Rattle.py_tree.specs.declared.expr.Link.{Link}
use Rattle.py_tree.specs.PlainTypes.{PlainTy, plain_ty}
use Rattle.py_tree.specs.PlainExpressions.{PlainExpr, PLink, PlainExprs, plain_expr, plain_exprs, exprs_of, plain_link, plain_links, links_of}
use Rattle.py_tree.specs.ExpressionTypes.{function_of}
use Rattle.entity_types.specs.declared.env.Local.{Local}
use Rattle.entity_types.specs.Views.{plain_locals, plain_wanted}
use Rattle.block_code.specs.declared.vars.VarType.{VarType}
use Rattle.block_code.specs.PlainVars.{plain_vars}
use Rattle.flat_tree.specs.declared.tree.FlatArm.{FlatArm}
use Rattle.flat_tree.specs.declared.tree.FlatStmt.{FlatStmt}
use Rattle.flat_tree.specs.declared.tree.FlatTest.{FlatTest}
use Rattle.flat_tree.specs.PlainFlat.{PlainFlatStmt, FIf, FNoArm, FMoreArms, PlainFlatTest, PlainOperand, PlainOperands, flat_stmts_of, operands_of, plain_flat_stmts, plain_flat_arm, plain_flat_test, plain_operands}
use Rattle.hoisting.specs.declared.stages.Stage.{Stage}
use Rattle.hoisting.specs.declared.setting.Setting.{Setting}
use Rattle.hoisting.specs.declared.parts.HoistedCall.{HoistedCall}
use Rattle.hoisting.specs.declared.parts.HoistedEach.{HoistedEach}
use Rattle.hoisting.specs.declared.parts.Hoisted as parts
use Rattle.hoisting.specs.Stages as stages
use Rattle.hoisting.specs.HoistExpressions.{Hoisted, Tested as PlainTested, ChainPart, so_far, begun_anew, settled_unless, each_wanted, by_elements, call_of, apply_of, taken_each, taken_links, taken_operands}
use Rattle.hoisting.specs.Views.{plain_stage, context_of, leaves_of, ty_in, forms_of, hoisted_at, each_at, call_at}
use Rattle.expression_hoister.specs.declared.choices.Tested.{Tested}
use Rattle.expression_hoister.specs.declared.choices.TestedEach.{TestedEach}
use Rattle.expression_hoister.specs.declared.choices.Way.{Way}
use Rattle.expression_hoister.specs.declared.runs.Run.{Run}
use Rattle.expression_hoister.specs.Ways.{PlainWay, way_where, choice_of, kept_form, two_forms, call_form, call_value, apply_value, list_value, run_value, truth_value, cond_value, link_more, operand_of, behind_operand}

-- wanted types of expressions in a list
abbrev pub plain_each_wanted : List (Option Ty) → List (Option PlainTy)
plain_each_wanted = map (option_map plain_ty)

abbrev pub run_at : Run → Stage → ChainPart
run_at r h = record { before = plain_flat_stmts r.before; lasting = r.lasting; left = plain_expr r.left; links = plain_links r.links; stage = plain_stage h }

abbrev pub plain_tested : Tested → PlainTested PlainFlatTest
plain_tested t = record { test = plain_flat_test t.test; next = t.next }

abbrev pub plain_tested_each : TestedEach → PlainTested PlainOperands
plain_tested_each t = record { test = operands_of (plain_operands t.operands); next = t.next }

abbrev pub plain_way : Way → PlainWay
plain_way w = record { start = plain_vars w.start; before = plain_flat_stmts w.before; rest = plain_expr w.rest; next = w.next }

-- What functions give, in the method at hand
module _ (s : Setting) where
  abbrev pub value_in : Option (Bor Ty) → Expr → Stage → Hoisted PlainExpr
  value_in wanted e h = (forms_of s e).value (plain_wanted wanted) (plain_stage h)

  abbrev pub kept_in : Bool → Option (Bor Ty) → Expr → Stage → Hoisted PlainExpr
  kept_in later wanted e h = kept_form (leaves_of s) (context_of s) later (plain_wanted wanted) (plain_expr e) (plain_stage h)

  abbrev pub two_in : Expr → Expr → Stage → Hoisted (PlainExpr × PlainExpr)
  two_in first second h = two_forms (leaves_of s) (context_of s) (plain_expr first) (plain_expr second) (plain_stage h)

  abbrev pub each_in : List (Option Ty) → List Expr → Stage → Hoisted PlainExprs
  each_in wanted items h = taken_each (leaves_of s) (context_of s) (plain_each_wanted wanted) (exprs_of (plain_exprs items)) (plain_stage h)

  abbrev pub parts_in : Expr → List (Option Ty) → List Expr → Stage → Hoisted (PlainExpr × PlainExprs)
  parts_in on wanted args h =
      call_form (leaves_of s) (context_of s) (plain_expr on) (plain_each_wanted wanted) (exprs_of (plain_exprs args)) (plain_stage h)

  -- the type of an expression, under a wanted one
  abbrev pub typed_in : Option (Bor Ty) → Expr → Stage → PlainTy
  typed_in wanted e h = ty_in s (plain_locals h.locals) (plain_wanted wanted) (plain_expr e)

  abbrev pub called_in : Bool → Place → Ty → Ty → PlacedName → HoistedCall → Stage → Hoisted PlainExpr
  called_in leaves at ty on_ty name parts h = call_of (context_of s) leaves at (plain_ty ty) (plain_ty on_ty) name.name.0 name.place (call_at parts h)

  abbrev pub call_in : Option (Bor Ty) → Expr → Expr → PlacedName → List Expr → Stage → Hoisted PlainExpr
  call_in wanted e on name args h =
      call_value (leaves_of s) (context_of s) (typed_in wanted e h) e.place (plain_expr on) name.name.0 name.place (exprs_of (plain_exprs args)) (plain_stage h)

  abbrev pub applied_in : Place → Ty → Name → HoistedEach → Stage → Hoisted PlainExpr
  applied_in at ty name args h = apply_of (context_of s) (is_none (function_of name.0)) at (plain_ty ty) name.0 (each_at args h)

  abbrev pub apply_in : Option (Bor Ty) → Expr → Name → List Expr → Stage → Hoisted PlainExpr
  apply_in wanted e name args h =
      apply_value (leaves_of s) (context_of s) (typed_in wanted e h) e.place name.0 (exprs_of (plain_exprs args)) (plain_stage h)

  abbrev pub list_in : Option (Bor Ty) → Place → List Expr → Stage → Hoisted PlainExpr
  list_in wanted at items h = list_value (leaves_of s) (context_of s) (plain_wanted wanted) at (exprs_of (plain_exprs items)) (plain_stage h)

  abbrev pub run_in : Place → Expr → List Link → Stage → Hoisted PlainExpr
  run_in at first links h = run_value (leaves_of s) (context_of s) at (plain_expr first) (links_of (plain_links links)) (plain_stage h)

  abbrev pub linked_in : Place → Ty → List Link → Run → Stage → ChainPart
  linked_in at ty links run h = taken_links (leaves_of s) (context_of s) at (plain_ty ty) (links_of (plain_links links)) (run_at run h)

  abbrev pub link_in : Place → Ty → Link → Run → Stage → ChainPart
  link_in at ty link run h = link_more (leaves_of s) (context_of s) at (plain_ty ty) (plain_link link) (run_at run h)

  abbrev pub truth_in : Expr → Bool → List Expr → Stage → Hoisted PlainExpr
  truth_in e is_and items h = truth_value (leaves_of s) (context_of s) e.place (plain_expr e) is_and (exprs_of (plain_exprs items)) (plain_stage h)

  abbrev pub cond_in : Option (Bor Ty) → Expr → Expr → Expr → Expr → Stage → Hoisted PlainExpr
  cond_in wanted e test a b h =
      cond_value (leaves_of s) (context_of s) (plain_wanted wanted) (typed_in wanted e h) e.place (plain_expr test) (plain_expr a) (plain_expr b) (plain_stage h)

  abbrev pub way_in : Bool → Expr → List Local → ℕ → Option (Bor Ty) → Expr → PlainWay
  way_in truth test locals next wanted e = way_where truth (plain_expr test) (plain_locals locals) next ((forms_of s e).value (plain_wanted wanted))

  abbrev pub operands_in : Bool → List Expr → Stage → PlainTested PlainOperands
  operands_in truth items h = taken_operands (leaves_of s) (context_of s) truth (exprs_of (plain_exprs items)) (plain_stage h)

  abbrev pub operand_in : Bool → Expr → Stage → PlainOperand
  operand_in truth e h = operand_of (leaves_of s) (context_of s) truth (plain_expr e) (plain_stage h)

  abbrev pub behind_in : Bool → Expr → Stage → stages.Stage
  behind_in truth e h = behind_operand (leaves_of s) (context_of s) truth (plain_expr e) (plain_stage h)

-- the value of one of two ways
abbrev pub choice_in : Place → Ty → Stage → FlatTest → Way → Way → Hoisted PlainExpr
choice_in at ty h test holds fails = choice_of at (plain_ty ty) (plain_locals h.locals) (plain_flat_test test) (plain_way holds) (plain_way fails)

-- a run so far where a link behind it suspends, and that link behind it
abbrev pub settled_run : Place → Ty → Run → Stage → Hoisted PlainExpr
settled_run at ty run h = settled_unless run.lasting at (plain_ty ty) (so_far at (run_at run h))

abbrev pub anew_at : parts.Hoisted → Link → parts.Hoisted → Stage → ChainPart
anew_at left link right h = begun_anew (hoisted_at left h) (PLink link.op link.place) (hoisted_at right h)

-- wanted types: one for each expression, and those of the elements of a list
abbrev pub same_wanted : Ty → List Expr → List (Option PlainTy)
same_wanted ty items = each_wanted (Some (plain_ty ty)) (exprs_of (plain_exprs items))

abbrev pub elements_wanted : Setting → Option (Bor Ty) → List Local → List Expr → List (Option PlainTy)
elements_wanted s wanted locals items = by_elements (context_of s) (plain_wanted wanted) (plain_locals locals) (exprs_of (plain_exprs items))

-- an `if` with one arm
abbrev pub one_armed : FlatArm → List FlatStmt → List VarType → PlainFlatStmt
one_armed arm other after = FIf (FMoreArms (plain_flat_arm arm) FNoArm) (flat_stmts_of (plain_flat_stmts other)) (Some (plain_vars after))

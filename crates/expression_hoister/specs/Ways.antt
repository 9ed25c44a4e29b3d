-- The parts of the definition that functions are made for: two expressions in turn, and the ways of a choice.
use Rattle.std.specs.Prelude.{ℕ, Bool, true, false, List, [], ◌∷◌, ◌++◌, Some, None, is_none, option_and_then}
use Rattle.std.specs.declared.option.Option.{Option}
use Rattle.py_tree.specs.declared.names.Place.{Place}
use Rattle.py_tree.specs.PlainTypes.{PlainTy}
use Rattle.py_tree.specs.FlowEnvironment.{PlainLocal}
use Rattle.py_tree.specs.ExpressionTypes.{function_of, place_of, element_wanted, right_wanted}
use Rattle.py_tree.specs.PlainExpressions.{PlainExpr, PVar, PList, PChain, PlainExprs, PlainLink, PLink, PlainLinks, PNoLink}
use Rattle.py_tree.specs.Flow.{Context}
use Rattle.call_graph.specs.SuspendingCode.{Leaving, expr_suspends, exprs_suspend}
use Rattle.flat_tree.specs.PlainFlat.{Point, PlainFlatStmt, FSet, FIf, FArm, FNoArm, FMoreArms, PlainFlatTest, FAnd, FOr, PlainOperand, FOperand, PlainOperands, flat_stmts_of}
use Rattle.hoisting.specs.Stages.{Stage, surely, with_temporary, where_shown, ty_at, method_params}
use Rattle.hoisting.specs.HoistExpressions.{Hoisted, built, in_turn, if_suspends, settled_unless, kept, lasts, with_args, call_of, apply_of, by_params, by_elements, by_function, ChainPart, chain_of, so_far, linked_on, begun_anew, either, made_of, chosen, truth_of, forms, taken_each, taken_links, taken_operands}

-- a way through a choice: where it begins, what runs on it, the value there, and the next temporary behind that
pub record PlainWay : Type 0 where
  pub start : Point
  pub before : List PlainFlatStmt
  pub rest : PlainExpr
  pub next : ℕ

abbrev pub way_from : Stage → Hoisted PlainExpr → PlainWay
way_from h a = record { start = surely h.locals; before = a.before; rest = a.rest; next = a.stage.next }

-- the way where a test is True, or False
abbrev pub way_where : Bool → PlainExpr → List PlainLocal → ℕ → (Stage → Hoisted PlainExpr) → PlainWay
way_where truth test locals next value = way_from (where_shown truth test locals next) (value (where_shown truth test locals next))

-- `and` or `or`
abbrev pub junction : Bool → PlainOperands → PlainFlatTest
junction true = FAnd
junction false = FOr

-- the statements of a way, with its value put into this temporary
abbrev pub set_on : PlainWay → ℕ → List PlainFlatStmt
set_on w number = w.before ++ FSet number w.rest ∷ []

-- the value of one of two ways, of which the second is made last
abbrev pub choice_of : Place → PlainTy → List PlainLocal → PlainFlatTest → PlainWay → PlainWay → Hoisted PlainExpr
choice_of at ty locals test holds fails =
    let behind : Stage = with_temporary ty (record { locals = locals; next = fails.next }) in
    record {
      before =
          FIf (FMoreArms (FArm test holds.start (flat_stmts_of (set_on holds fails.next)) fails.start) FNoArm) (flat_stmts_of (set_on fails fails.next))
          (Some (surely behind.locals))
          ∷ [];
      rest = PVar at fails.next;
      stage = behind;
    }

module _ (leaves : Leaving) (c : Context) where
  -- an expression before others of which one suspends or none
  abbrev pub kept_form : Bool → Option PlainTy → PlainExpr → Stage → Hoisted PlainExpr
  kept_form later wanted e h = kept later (lasts leaves e) (place_of e) (ty_at c wanted h.locals e) ((forms leaves c e).value wanted h)

  -- two expressions, one after another
  abbrev pub two_forms : PlainExpr → PlainExpr → Stage → Hoisted (PlainExpr × PlainExpr)
  two_forms first second h = in_turn (λ a b. (a, b)) (kept_form (expr_suspends leaves second) None first h) (λ g. (forms leaves c second).value None g)

  -- expressions of which one suspends or none
  abbrev pub each_form : List (Option PlainTy) → PlainExprs → Stage → Hoisted PlainExprs
  each_form wanted es h = if_suspends (exprs_suspend leaves es) es h (taken_each leaves c wanted es h)

  -- a receiver and arguments
  abbrev pub call_form : PlainExpr → List (Option PlainTy) → PlainExprs → Stage → Hoisted (PlainExpr × PlainExprs)
  call_form on wanted args h = in_turn with_args (kept_form (exprs_suspend leaves args) None on h) (λ g. each_form wanted args g)

  -- the kinds of which a part suspends: a call, as an expression of this type
  abbrev pub call_value : PlainTy → Place → PlainExpr → ℕ → Place → PlainExprs → Stage → Hoisted PlainExpr
  call_value ty at on name name_at args h =
      call_of c (leaves on name) at ty (ty_at c None h.locals on) name name_at (call_form on (by_params (method_params c (ty_at c None h.locals on) name)) args h)

  abbrev pub apply_value : PlainTy → Place → ℕ → PlainExprs → Stage → Hoisted PlainExpr
  apply_value ty at name args h = apply_of c (is_none (function_of name)) at ty name (each_form (by_function c (function_of name) name) args h)

  abbrev pub list_value : Option PlainTy → Place → PlainExprs → Stage → Hoisted PlainExpr
  list_value wanted at items h = built (PList at) (taken_each leaves c (by_elements c (option_and_then element_wanted wanted) h.locals items) items h)

  -- a run
  abbrev pub run_value : Place → PlainExpr → PlainLinks → Stage → Hoisted PlainExpr
  run_value at first PNoLink h = built (λ r. PChain at r PNoLink) ((forms leaves c first).value None h)
  run_value at first links h =
      so_far at (taken_links leaves c at (ty_at c None h.locals first) links (chain_of (lasts leaves first) ((forms leaves c first).value None h)))

  -- `and` or `or`
  abbrev pub truth_value : Place → PlainExpr → Bool → PlainExprs → Stage → Hoisted PlainExpr
  truth_value at e is_and items h = truth_of at h.locals e (made_of (junction is_and) (taken_operands leaves c is_and items h))

  abbrev pub cond_value : Option PlainTy → PlainTy → Place → PlainExpr → PlainExpr → PlainExpr → Stage → Hoisted PlainExpr
  cond_value wanted ty at test a b h =
      chosen at ty h.locals test ((forms leaves c test).test h) (λ g. (forms leaves c a).value wanted g) (λ g. (forms leaves c b).value wanted g)

  -- one link more of a run
  abbrev pub link_more : Place → PlainTy → PlainLink → ChainPart → ChainPart
  link_more at ty (PLink op op_at right) r =
      either (expr_suspends leaves right)
      (let a = settled_unless r.lasting at ty (so_far at r) in begun_anew a (PLink op op_at) ((forms leaves c right).value (right_wanted op ty) a.stage))
      (linked_on r (PLink op op_at right))

  -- an operand, and where it doesn't decide
  abbrev pub operand_of : Bool → PlainExpr → Stage → PlainOperand
  operand_of truth e h = let t = (forms leaves c e).test h in FOperand t.test (surely (where_shown truth e h.locals t.next).locals)

  abbrev pub behind_operand : Bool → PlainExpr → Stage → Stage
  behind_operand truth e h = where_shown truth e h.locals ((forms leaves c e).test h).next

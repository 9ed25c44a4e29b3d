-- Numbers of temporaries rise.
use Rattle.std.proofs.Common.{◌≤◌, ◌+◌, ℕ, arith, Bool, true, false, Option, None, List}
use Rattle.std.specs.Prelude.{is_none}
use Rattle.py_tree.specs.declared.names.Place.{Place}
use Rattle.py_tree.specs.PlainTypes.{PlainTy, TBool}
use Rattle.py_tree.specs.FlowEnvironment.{PlainLocal}
use Rattle.py_tree.specs.ExpressionTypes.{function_of, place_of, right_wanted}
use Rattle.py_tree.specs.Flow.{Context}
use Rattle.py_tree.specs.PlainExpressions.{PlainExpr, PInt, PBool, PStr, PNil, PVar, PSelf, PAttr, PCall, PApply, PIndex, PList, PNeg, PPos, PNot, PChain, PAnd, POr, PCompare, PIsNone, PCond, PlainExprs, PNoExpr, PExpr, PLink, PlainLinks, PNoLink, PMoreLinks}
use Rattle.call_graph.specs.SuspendingCode.{Leaving, expr_suspends, exprs_suspend}
use Rattle.flat_tree.specs.PlainFlat.{PlainFlatTest, FAnd, FOr}
use Rattle.hoisting.specs.Stages.{Stage, where_shown, ty_at, method_params}
use Rattle.hoisting.specs.HoistExpressions.{with_args, by_params, by_function, first_wanted, others_wanted, made_of, Hoisted, Tested, Forms, still, if_suspends, in_turn, settled_unless, kept, lasts, by_value, forms_if, chosen, call_of, apply_of, ChainPart, chain_of, so_far, linked_on, begun_anew, either, taken, taken_each, taken_links, taken_operands, forms}

pub le_itself : (k : ℕ) → k ≤ k
le_itself k = omega arith

pub le_on : {i j k : ℕ} → i ≤ j → j ≤ k → i ≤ k
le_on a b = omega (arith, a, b)

pub le_one_more : {i j : ℕ} → i ≤ j → i ≤ j + 1
le_one_more a = omega (arith, a)

pub record Rises (w : Forms) : Type 0 where
  pub value : (wanted : Option PlainTy) (h : Stage) → h.next ≤ (w.value wanted h).stage.next
  pub test : (h : Stage) → h.next ≤ (w.test h).next

pub by_value_rises : (value : Option PlainTy → Stage → Hoisted PlainExpr) → ((wanted : Option PlainTy) (h : Stage) → h.next ≤ (value wanted h).stage.next) → Rises (by_value value)
by_value_rises value up = record { value = up; test = up None }

still_rises : (e : PlainExpr) → Rises (by_value (λ wanted h. still e h))
still_rises e = by_value_rises (λ wanted h. still e h) (λ wanted h. le_itself h.next)

pub forms_if_rise : (b : Bool) (e : PlainExpr) (w : Forms) → Rises w → Rises (forms_if b e w)
forms_if_rise true e w up = up
forms_if_rise false e w up = still_rises e

pub if_rises : {R : Type 0} (b : Bool) (e : R) (h : Stage) (a : Hoisted R) → h.next ≤ a.stage.next → h.next ≤ (if_suspends b e h a).stage.next
if_rises true e h a up = up
if_rises false e h a up = le_itself h.next

pub settled_rises : (lasting : Bool) (at : Place) (ty : PlainTy) (a : Hoisted PlainExpr) → a.stage.next ≤ (settled_unless lasting at ty a).stage.next
settled_rises true at ty a = le_itself a.stage.next
settled_rises false at ty a = omega arith

kept_rises : (later lasting : Bool) (at : Place) (ty : PlainTy) (a : Hoisted PlainExpr) → a.stage.next ≤ (kept later lasting at ty a).stage.next
kept_rises true lasting at ty a = settled_rises lasting at ty a
kept_rises false lasting at ty a = le_itself a.stage.next

pub turn_rises : {S T : Type 0} (f : PlainExpr → S → T) (later lasting : Bool) (at : Place) (ty : PlainTy) (a : Hoisted PlainExpr) (b : Stage → Hoisted S) (k : ℕ) → k ≤ a.stage.next → ((g : Stage) → g.next ≤ (b g).stage.next) → k ≤ (in_turn f (kept later lasting at ty a) b).stage.next
turn_rises f later lasting at ty a b k up on = le_on up (le_on (kept_rises later lasting at ty a) (on (kept later lasting at ty a).stage))

call_rises : (c : Context) (b : Bool) (at : Place) (ty on_ty : PlainTy) (name : ℕ) (name_at : Place) (a : Hoisted (PlainExpr × PlainExprs)) (k : ℕ) → k ≤ a.stage.next → k ≤ (call_of c b at ty on_ty name name_at a).stage.next
call_rises c true at ty on_ty name name_at a k up = le_one_more up
call_rises c false at ty on_ty name name_at a k up = up

apply_rises : (c : Context) (b : Bool) (at : Place) (ty : PlainTy) (name : ℕ) (a : Hoisted PlainExprs) (k : ℕ) → k ≤ a.stage.next → k ≤ (apply_of c b at ty name a).stage.next
apply_rises c true at ty name a k up = le_one_more up
apply_rises c false at ty name a k up = up

chosen_rises : (at : Place) (ty : PlainTy) (locals : List PlainLocal) (test : PlainExpr) (t : Tested PlainFlatTest) (a b : Stage → Hoisted PlainExpr) (k : ℕ) → k ≤ t.next → ((g : Stage) → g.next ≤ (a g).stage.next) → ((g : Stage) → g.next ≤ (b g).stage.next)
    → k ≤ (chosen at ty locals test t a b).stage.next
chosen_rises at ty locals test t a b k up first second =
    le_one_more (le_on up (le_on (first (where_shown true test locals t.next)) (second (where_shown false test locals (a (where_shown true test locals t.next)).stage.next))))

pub still_up : (e : PlainExpr) (h : Stage) → h.next ≤ (still e h).stage.next
still_up e h = le_itself h.next

either_rises : (b : Bool) (r q : ChainPart) (k : ℕ) → k ≤ r.stage.next → k ≤ q.stage.next → k ≤ (either b r q).stage.next
either_rises true r q k first second = first
either_rises false r q k first second = second

module _ (leaves : Leaving) (c : Context) where
  abbrev part : PlainExpr → Option PlainTy → Stage → Hoisted PlainExpr
  part e wanted h = (forms leaves c e).value wanted h

  abbrev parts : List (Option PlainTy) → PlainExprs → Stage → Hoisted PlainExprs
  parts wanted es h = if_suspends (exprs_suspend leaves es) es h (taken_each leaves c wanted es h)

  mutual
    unfolding taken

    taken_rises : (e : PlainExpr) → Rises (taken leaves c e)
    taken_rises (PInt at z) = still_rises _
    taken_rises (PBool at b) = still_rises _
    taken_rises (PStr at text) = still_rises _
    taken_rises (PNil at) = still_rises _
    taken_rises (PVar at x) = still_rises _
    taken_rises (PSelf at) = still_rises _
    taken_rises (PAttr at on x x_at) = still_rises _
    taken_rises (PCall at on name name_at args) =
        by_value_rises _ (λ wanted h.
        call_rises c (leaves on name) at (ty_at c wanted h.locals (PCall at on name name_at args)) (ty_at c None h.locals on) name name_at
        (in_turn with_args (kept (exprs_suspend leaves args) (lasts leaves on) (place_of on) (ty_at c None h.locals on) (part on None h)) (parts (by_params (method_params c (ty_at c None h.locals on) name)) args)) h.next
        (turn_rises with_args (exprs_suspend leaves args) (lasts leaves on) (place_of on) (ty_at c None h.locals on) (part on None h) (parts (by_params (method_params c (ty_at c None h.locals on) name)) args) h.next ((forms_if_rise (expr_suspends leaves on) on (taken leaves c on) (taken_rises on)).value None h) (λ g. if_rises (exprs_suspend leaves args) args g (taken_each leaves c (by_params (method_params c (ty_at c None h.locals on) name)) args g) (each_rises (by_params (method_params c (ty_at c None h.locals on) name)) args g))))
    taken_rises (PApply at name args) =
        by_value_rises _ (λ wanted h.
        apply_rises c (is_none (function_of name)) at (ty_at c wanted h.locals (PApply at name args)) name (parts (by_function c (function_of name) name) args h) h.next (if_rises (exprs_suspend leaves args) args h (taken_each leaves c (by_function c (function_of name) name) args h) (each_rises (by_function c (function_of name) name) args h)))
    taken_rises (PIndex at on index) =
        by_value_rises _ (λ wanted h.
        turn_rises (PIndex at) (expr_suspends leaves index) (lasts leaves on) (place_of on) (ty_at c None h.locals on) (part on None h) (part index None) h.next ((forms_if_rise (expr_suspends leaves on) on (taken leaves c on) (taken_rises on)).value None h) (λ g. (forms_if_rise (expr_suspends leaves index) index (taken leaves c index) (taken_rises index)).value None g))
    taken_rises (PList at items) = by_value_rises _ (λ wanted h. each_rises _ items h)
    taken_rises (PNeg at a) = by_value_rises _ (λ wanted h. (forms_if_rise (expr_suspends leaves a) a (taken leaves c a) (taken_rises a)).value None h)
    taken_rises (PPos at a) = by_value_rises _ (λ wanted h. (forms_if_rise (expr_suspends leaves a) a (taken leaves c a) (taken_rises a)).value None h)
    taken_rises (PNot at a) = record { value = λ wanted h. (forms_if_rise (expr_suspends leaves a) a (taken leaves c a) (taken_rises a)).value None h; test = λ h. (forms_if_rise (expr_suspends leaves a) a (taken leaves c a) (taken_rises a)).test h }
    taken_rises (PChain at first PNoLink) = by_value_rises _ (λ wanted h. (forms_if_rise (expr_suspends leaves first) first (taken leaves c first) (taken_rises first)).value None h)
    taken_rises (PChain at first (PMoreLinks l more)) = by_value_rises _ (λ wanted h. links_rise (PMoreLinks l more) at (ty_at c None h.locals first) (chain_of (lasts leaves first) (part first None h)) h.next ((forms_if_rise (expr_suspends leaves first) first (taken leaves c first) (taken_rises first)).value None h))
    taken_rises (PAnd at items) = record {
      value = λ wanted h. chosen_rises at TBool h.locals (PAnd at items) (made_of FAnd (taken_operands leaves c true items h)) (still (PBool at true)) (still (PBool at false)) h.next (operands_rise true items h) (still_up (PBool at true)) (still_up (PBool at false));
      test = λ h. operands_rise true items h;
    }
    taken_rises (POr at items) = record {
      value = λ wanted h. chosen_rises at TBool h.locals (POr at items) (made_of FOr (taken_operands leaves c false items h)) (still (PBool at true)) (still (PBool at false)) h.next (operands_rise false items h) (still_up (PBool at true)) (still_up (PBool at false));
      test = λ h. operands_rise false items h;
    }
    taken_rises (PCompare at op op_at left right) =
        by_value_rises _ (λ wanted h.
        turn_rises (PCompare at op op_at) (expr_suspends leaves right) (lasts leaves left) (place_of left) (ty_at c None h.locals left) (part left None h) (part right None) h.next ((forms_if_rise (expr_suspends leaves left) left (taken leaves c left) (taken_rises left)).value None h) (λ g. (forms_if_rise (expr_suspends leaves right) right (taken leaves c right) (taken_rises right)).value None g))
    taken_rises (PIsNone at a positive) = by_value_rises _ (λ wanted h. (forms_if_rise (expr_suspends leaves a) a (taken leaves c a) (taken_rises a)).value None h)
    taken_rises (PCond at test a b) =
        by_value_rises _ (λ wanted h.
        chosen_rises at (ty_at c wanted h.locals (PCond at test a b)) h.locals test ((forms leaves c test).test h) (part a wanted) (part b wanted) h.next ((forms_if_rise (expr_suspends leaves test) test (taken leaves c test) (taken_rises test)).test h) (λ g. (forms_if_rise (expr_suspends leaves a) a (taken leaves c a) (taken_rises a)).value wanted g) (λ g. (forms_if_rise (expr_suspends leaves b) b (taken leaves c b) (taken_rises b)).value wanted g))

    pub each_rises : (wanted : List (Option PlainTy)) (es : PlainExprs) (h : Stage) → h.next ≤ (taken_each leaves c wanted es h).stage.next
    each_rises wanted PNoExpr h = le_itself h.next
    each_rises wanted (PExpr x xs) h =
        turn_rises PExpr (exprs_suspend leaves xs) (lasts leaves x) (place_of x) (ty_at c (first_wanted wanted) h.locals x) (part x (first_wanted wanted) h) (parts (others_wanted wanted) xs) h.next ((forms_if_rise (expr_suspends leaves x) x (taken leaves c x) (taken_rises x)).value (first_wanted wanted) h) (λ g. if_rises (exprs_suspend leaves xs) xs g (taken_each leaves c (others_wanted wanted) xs g) (each_rises (others_wanted wanted) xs g))

    pub links_rise : (ls : PlainLinks) (at : Place) (ty : PlainTy) (r : ChainPart) (k : ℕ) → k ≤ r.stage.next → k ≤ (taken_links leaves c at ty ls r).stage.next
    links_rise PNoLink at ty r k up = up
    links_rise (PMoreLinks (PLink op op_at right) more) at ty r k up =
        let a : Hoisted PlainExpr = settled_unless r.lasting at ty (so_far at r) in
        links_rise more at ty (either (expr_suspends leaves right) (begun_anew a (PLink op op_at) (part right (right_wanted op ty) a.stage)) (linked_on r (PLink op op_at right))) k
        (either_rises (expr_suspends leaves right) (begun_anew a (PLink op op_at) (part right (right_wanted op ty) a.stage)) (linked_on r (PLink op op_at right)) k
        (le_on (le_on up (settled_rises r.lasting at ty (so_far at r))) ((forms_if_rise (expr_suspends leaves right) right (taken leaves c right) (taken_rises right)).value (right_wanted op ty) a.stage)) up)

    pub operands_rise : (truth : Bool) (es : PlainExprs) (h : Stage) → h.next ≤ (taken_operands leaves c truth es h).next
    operands_rise truth PNoExpr h = le_itself h.next
    operands_rise truth (PExpr x xs) h = le_on ((forms_if_rise (expr_suspends leaves x) x (taken leaves c x) (taken_rises x)).test h) (operands_rise truth xs (where_shown truth x h.locals ((forms leaves c x).test h).next))

  pub forms_rise : (e : PlainExpr) → Rises (forms leaves c e)
  forms_rise e = forms_if_rise (expr_suspends leaves e) e (taken leaves c e) (taken_rises e)

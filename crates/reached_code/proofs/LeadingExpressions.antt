-- What runs before a hoisted expression leads on to it, and tests hold only code that leads on.
use Rattle.std.proofs.Common.{ℕ, Bool, true, false, Option, None, List, refl}
use Rattle.std.specs.Prelude.{is_none, option_and_then}
use Rattle.py_tree.specs.declared.names.Place.{Place}
use Rattle.py_tree.specs.PlainTypes.{PlainTy, TBool}
use Rattle.py_tree.specs.FlowEnvironment.{PlainLocal}
use Rattle.py_tree.specs.ExpressionTypes.{function_of, place_of, element_wanted, right_wanted}
use Rattle.py_tree.specs.Flow.{Context}
use Rattle.py_tree.specs.PlainExpressions.{PlainExpr, PInt, PBool, PStr, PNil, PVar, PSelf, PAttr, PCall, PApply, PIndex, PList, PNeg, PPos, PNot, PChain, PAnd, POr, PCompare, PIsNone, PCond, PlainExprs, PNoExpr, PExpr, PLink, PlainLinks, PNoLink, PMoreLinks}
use Rattle.call_graph.specs.SuspendingCode.{Leaving, expr_suspends, exprs_suspend}
use Rattle.flat_tree.specs.PlainFlat.{FSet, FCall, FMake, PlainFlatTest, FAnd, FOr}
use Rattle.flat_types.specs.DeadCode.{HaveNoDead, TestHasNoDead, OperandsHaveNoDead}
use Rattle.hoisting.specs.Stages.{Stage, surely, with_temporary, where_shown, ty_at, callee_of, created_of, method_params}
use Rattle.hoisting.specs.HoistExpressions.{Hoisted, Tested, Forms, still, if_suspends, settled_unless, kept, lasts, by_value, forms_if, made_of, chosen, with_args, in_turn, call_of, apply_of, by_params, by_function, by_elements, first_wanted, others_wanted, ChainPart, chain_of, so_far, linked_on, begun_anew, either, taken, taken_each, taken_links, taken_operands, forms}
use Rattle.reached_code.proofs.LeadingCode.{AllLead, both_lead, last_leads, live_last, live}

pub record FormsLead (both : Forms) : Type 0 where
  pub value : (wanted : Option PlainTy) (h : Stage) → AllLead (both.value wanted h).before
  pub test : (h : Stage) → TestHasNoDead (both.test h).test

value_leads : (value : Option PlainTy → Stage → Hoisted PlainExpr) → ((wanted : Option PlainTy) (h : Stage) → AllLead (value wanted h).before) → FormsLead (by_value value)
unfolding HaveNoDead
value_leads value f = record { value = f; test = λ h. live (value None h).before (f None h) }

still_leads : (e : PlainExpr) → FormsLead (by_value (λ wanted h. still e h))
still_leads e = value_leads (λ wanted h. still e h) (λ wanted h. tt)

forms_if_lead : (b : Bool) (e : PlainExpr) (both : Forms) → FormsLead both → FormsLead (forms_if b e both)
forms_if_lead true e both f = f
forms_if_lead false e both f = still_leads e

if_leads : {R : Type 0} (b : Bool) (e : R) (h : Stage) (a : Hoisted R) → AllLead a.before → AllLead (if_suspends b e h a).before
if_leads true e h a f = f
if_leads false e h a f = tt

pub settled_leads : (lasting : Bool) (at : Place) (ty : PlainTy) (a : Hoisted PlainExpr) → AllLead a.before → AllLead (settled_unless lasting at ty a).before
unfolding HaveNoDead
settled_leads true at ty a f = f
settled_leads false at ty a f = last_leads a.before (FSet a.stage.next a.rest) f refl tt

kept_leads : (later lasting : Bool) (at : Place) (ty : PlainTy) (a : Hoisted PlainExpr) → AllLead a.before → AllLead (kept later lasting at ty a).before
kept_leads true lasting at ty a f = settled_leads lasting at ty a f
kept_leads false lasting at ty a f = f

turn_leads : {R S T : Type 0} (f : R → S → T) (a : Hoisted R) (b : Stage → Hoisted S) → AllLead a.before → ((g : Stage) → AllLead (b g).before) → AllLead (in_turn f a b).before
turn_leads f a b first second = both_lead a.before (b a.stage).before first (second a.stage)

call_leads : (c : Context) (b : Bool) (at : Place) (ty on_ty : PlainTy) (name : ℕ) (name_at : Place) (a : Hoisted (PlainExpr × PlainExprs)) → AllLead a.before → AllLead (call_of c b at ty on_ty name name_at a).before
unfolding HaveNoDead
call_leads c true at ty on_ty name name_at a f = last_leads a.before (FCall a.rest.0 (callee_of c on_ty name) a.rest.1 a.stage.next (surely (with_temporary ty a.stage).locals)) f refl tt
call_leads c false at ty on_ty name name_at a f = f

apply_leads : (c : Context) (b : Bool) (at : Place) (ty : PlainTy) (name : ℕ) (a : Hoisted PlainExprs) → AllLead a.before → AllLead (apply_of c b at ty name a).before
unfolding HaveNoDead
apply_leads c true at ty name a f = last_leads a.before (FMake (created_of c name) a.rest a.stage.next (surely (with_temporary ty a.stage).locals)) f refl tt
apply_leads c false at ty name a f = f

chosen_leads : (at : Place) (ty : PlainTy) (locals : List PlainLocal) (test : PlainExpr) (t : Tested PlainFlatTest) (first second : Stage → Hoisted PlainExpr) → TestHasNoDead t.test → ((g : Stage) → AllLead (first g).before) → ((g : Stage) → AllLead (second g).before)
    → AllLead (chosen at ty locals test t first second).before
unfolding HaveNoDead
chosen_leads at ty locals test t first second f one other =
    let a : Hoisted PlainExpr = first (where_shown true test locals t.next) in
    let b : Hoisted PlainExpr = second (where_shown false test locals a.stage.next) in (
      refl,
      ((f, live_last a.before (FSet b.stage.next a.rest) (one (where_shown true test locals t.next)) tt, tt), live_last b.before (FSet b.stage.next b.rest) (other (where_shown false test locals a.stage.next)) tt),
      tt,
    )

either_leads : (b : Bool) (r q : ChainPart) → AllLead r.before → AllLead q.before → AllLead (either b r q).before
either_leads true r q first second = first
either_leads false r q first second = second

module _ (leaves : Leaving) (c : Context) where
  abbrev part : PlainExpr → Option PlainTy → Stage → Hoisted PlainExpr
  part e wanted h = (forms leaves c e).value wanted h

  abbrev parts : List (Option PlainTy) → PlainExprs → Stage → Hoisted PlainExprs
  parts wanted es h = if_suspends (exprs_suspend leaves es) es h (taken_each leaves c wanted es h)

  as_part : (e : PlainExpr) → FormsLead (taken leaves c e) → FormsLead (forms leaves c e)
  as_part e f = forms_if_lead (expr_suspends leaves e) e (taken leaves c e) f

  mutual
    unfolding taken HaveNoDead

    taken_leads : (e : PlainExpr) → FormsLead (taken leaves c e)
    taken_leads (PInt at z) = still_leads _
    taken_leads (PBool at b) = still_leads _
    taken_leads (PStr at text) = still_leads _
    taken_leads (PNil at) = still_leads _
    taken_leads (PVar at x) = still_leads _
    taken_leads (PSelf at) = still_leads _
    taken_leads (PAttr at on x x_at) = still_leads _
    taken_leads (PCall at on name name_at args) =
        value_leads _ (λ wanted h.
        let on_ty : PlainTy = ty_at c None h.locals on in
        let wants : List (Option PlainTy) = by_params (method_params c on_ty name) in
        let k : Hoisted PlainExpr = kept (exprs_suspend leaves args) (lasts leaves on) (place_of on) on_ty (part on None h) in
        call_leads c (leaves on name) at (ty_at c wanted h.locals (PCall at on name name_at args)) on_ty name name_at (in_turn with_args k (parts wants args))
        (turn_leads with_args k (parts wants args) (kept_leads (exprs_suspend leaves args) (lasts leaves on) (place_of on) on_ty (part on None h) ((as_part on (taken_leads on)).value None h)) (λ g. if_leads (exprs_suspend leaves args) args g (taken_each leaves c wants args g) (each_leads wants args g))))
    taken_leads (PApply at name args) =
        value_leads _ (λ wanted h.
        let wants : List (Option PlainTy) = by_function c (function_of name) name in
        apply_leads c (is_none (function_of name)) at (ty_at c wanted h.locals (PApply at name args)) name (parts wants args h) (if_leads (exprs_suspend leaves args) args h (taken_each leaves c wants args h) (each_leads wants args h)))
    taken_leads (PIndex at on index) =
        value_leads _ (λ wanted h.
        let k : Hoisted PlainExpr = kept (expr_suspends leaves index) (lasts leaves on) (place_of on) (ty_at c None h.locals on) (part on None h) in
        turn_leads (PIndex at) k (part index None) (kept_leads (expr_suspends leaves index) (lasts leaves on) (place_of on) (ty_at c None h.locals on) (part on None h) ((as_part on (taken_leads on)).value None h)) (λ g. (as_part index (taken_leads index)).value None g))
    taken_leads (PList at items) = value_leads _ (λ wanted h. each_leads (by_elements c (option_and_then element_wanted wanted) h.locals items) items h)
    taken_leads (PNeg at a) = value_leads _ (λ wanted h. (as_part a (taken_leads a)).value None h)
    taken_leads (PPos at a) = value_leads _ (λ wanted h. (as_part a (taken_leads a)).value None h)
    taken_leads (PNot at a) = record { value = λ wanted h. (as_part a (taken_leads a)).value None h; test = λ h. (as_part a (taken_leads a)).test h }
    taken_leads (PChain at first PNoLink) = value_leads _ (λ wanted h. (as_part first (taken_leads first)).value None h)
    taken_leads (PChain at first (PMoreLinks l more)) =
        value_leads _ (λ wanted h. links_lead (PMoreLinks l more) at (ty_at c None h.locals first) (chain_of (lasts leaves first) (part first None h)) ((as_part first (taken_leads first)).value None h))
    taken_leads (PAnd at items) = record {
      value = λ wanted h. chosen_leads at TBool h.locals (PAnd at items) (made_of FAnd (taken_operands leaves c true items h)) (still (PBool at true)) (still (PBool at false)) (operands_lead true items h) (λ g. tt) (λ g. tt);
      test = λ h. operands_lead true items h;
    }
    taken_leads (POr at items) = record {
      value = λ wanted h. chosen_leads at TBool h.locals (POr at items) (made_of FOr (taken_operands leaves c false items h)) (still (PBool at true)) (still (PBool at false)) (operands_lead false items h) (λ g. tt) (λ g. tt);
      test = λ h. operands_lead false items h;
    }
    taken_leads (PCompare at op op_at left right) =
        value_leads _ (λ wanted h.
        let k : Hoisted PlainExpr = kept (expr_suspends leaves right) (lasts leaves left) (place_of left) (ty_at c None h.locals left) (part left None h) in
        turn_leads (PCompare at op op_at) k (part right None) (kept_leads (expr_suspends leaves right) (lasts leaves left) (place_of left) (ty_at c None h.locals left) (part left None h) ((as_part left (taken_leads left)).value None h)) (λ g. (as_part right (taken_leads right)).value None g))
    taken_leads (PIsNone at a positive) = value_leads _ (λ wanted h. (as_part a (taken_leads a)).value None h)
    taken_leads (PCond at test a b) =
        value_leads _ (λ wanted h.
        chosen_leads at (ty_at c wanted h.locals (PCond at test a b)) h.locals test ((forms leaves c test).test h) (part a wanted) (part b wanted) ((as_part test (taken_leads test)).test h)
        (λ g. (as_part a (taken_leads a)).value wanted g) (λ g. (as_part b (taken_leads b)).value wanted g))

    each_leads : (wants : List (Option PlainTy)) (es : PlainExprs) (h : Stage) → AllLead (taken_each leaves c wants es h).before
    each_leads wants PNoExpr h = tt
    each_leads wants (PExpr x xs) h =
        let k : Hoisted PlainExpr = kept (exprs_suspend leaves xs) (lasts leaves x) (place_of x) (ty_at c (first_wanted wants) h.locals x) (part x (first_wanted wants) h) in
        turn_leads PExpr k (parts (others_wanted wants) xs) (kept_leads (exprs_suspend leaves xs) (lasts leaves x) (place_of x) (ty_at c (first_wanted wants) h.locals x) (part x (first_wanted wants) h) ((as_part x (taken_leads x)).value (first_wanted wants) h))
        (λ g. if_leads (exprs_suspend leaves xs) xs g (taken_each leaves c (others_wanted wants) xs g) (each_leads (others_wanted wants) xs g))

    links_lead : (ls : PlainLinks) (at : Place) (ty : PlainTy) (r : ChainPart) → AllLead r.before → AllLead (taken_links leaves c at ty ls r).before
    links_lead PNoLink at ty r f = f
    links_lead (PMoreLinks (PLink op op_at right) more) at ty r f =
        let a : Hoisted PlainExpr = settled_unless r.lasting at ty (so_far at r) in
        let b : Hoisted PlainExpr = part right (right_wanted op ty) a.stage in
        links_lead more at ty (either (expr_suspends leaves right) (begun_anew a (PLink op op_at) b) (linked_on r (PLink op op_at right)))
        (either_leads (expr_suspends leaves right) (begun_anew a (PLink op op_at) b) (linked_on r (PLink op op_at right))
        (both_lead a.before b.before (settled_leads r.lasting at ty (so_far at r) f) ((as_part right (taken_leads right)).value (right_wanted op ty) a.stage)) f)

    operands_lead : (truth : Bool) (es : PlainExprs) (h : Stage) → OperandsHaveNoDead (taken_operands leaves c truth es h).test
    operands_lead truth PNoExpr h = tt
    operands_lead truth (PExpr x xs) h = ((as_part x (taken_leads x)).test h, operands_lead truth xs (where_shown truth x h.locals ((forms leaves c x).test h).next))

  pub forms_lead : (e : PlainExpr) → FormsLead (forms leaves c e)
  forms_lead e = as_part e (taken_leads e)

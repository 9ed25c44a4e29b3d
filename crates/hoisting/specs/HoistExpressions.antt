-- Calls out of expressions: what runs before, and what is left to evaluate.
--
-- A call or a creation that suspends becomes a statement, whose value goes into a temporary. What is evaluated before it goes into a
-- temporary too, unless it gives the same afterwards. `and`, `or` and conditionals with a part that suspends become tests.
use Rattle.std.specs.Prelude.{ℕ, Bool, true, false, ◌||◌, is_none, List, [], ◌∷◌, ◌++◌, map, Some, None, option_and_then}
use Rattle.std.specs.declared.option.Option.{Option}
use Rattle.py_tree.specs.declared.names.Place.{Place}
use Rattle.py_tree.specs.PlainTypes.{PlainTy, TBool}
use Rattle.py_tree.specs.ClassRules.{PlainSigParam}
use Rattle.py_tree.specs.FlowEnvironment.{PlainLocal}
use Rattle.py_tree.specs.ExpressionTypes.{Function, function_of, place_of, element_wanted, right_wanted, table_named}
use Rattle.py_tree.specs.Flow.{Context}
use Rattle.py_tree.specs.PlainExpressions.{PlainExpr, PInt, PBool, PNil, PVar, PSelf, PCall, PApply, PIndex, PList, PNeg, PPos, PNot, PChain, PAnd, POr, PCompare, PIsNone, PCond, PlainExprs, PNoExpr, PExpr, PlainLink, PLink, PlainLinks, PNoLink, PMoreLinks, links_of}
use Rattle.call_graph.specs.SuspendingCode.{Leaving, expr_suspends, exprs_suspend}
use Rattle.flat_tree.specs.PlainFlat.{PlainFlatStmt, FSet, FCall, FMake, FIf, FArm, FNoArm, FMoreArms, PlainFlatTest, FLeaf, FNot, FAnd, FOr, FOperand, PlainOperands, FNoOperand, FMoreOperands, flat_stmts_of}
use Rattle.hoisting.specs.Stages.{Stage, surely, with_temporary, where_shown, ty_at, callee_of, created_of, method_params, init_params}

-- what runs before, what is left to evaluate, and what is known behind what runs before
pub record Hoisted (R : Type 0) : Type 0 where
  pub before : List PlainFlatStmt
  pub rest : R
  pub stage : Stage

-- a test, and the number of the next temporary
pub record Tested (T : Type 0) : Type 0 where
  pub test : T
  pub next : ℕ

-- an expression as a value, of which a type may be wanted, and as a test
pub record Forms : Type 0 where
  pub value : Option PlainTy → Stage → Hoisted PlainExpr
  pub test : Stage → Tested PlainFlatTest

-- Parts

-- what stays as it is
abbrev pub still : {R : Type 0} → R → Stage → Hoisted R
still e h = record { before = []; rest = e; stage = h }

abbrev pub if_suspends : {R : Type 0} → Bool → R → Stage → Hoisted R → Hoisted R
if_suspends true e h hoisted = hoisted
if_suspends false e h hoisted = still e h

-- something is made of what is left
abbrev pub built : {R S : Type 0} → (R → S) → Hoisted R → Hoisted S
built f a = record { before = a.before; rest = f a.rest; stage = a.stage }

-- a part, and one behind it
abbrev pub in_turn : {R S T : Type 0} → (R → S → T) → Hoisted R → (Stage → Hoisted S) → Hoisted T
in_turn f a b = record { before = a.before ++ (b a.stage).before; rest = f a.rest (b a.stage).rest; stage = (b a.stage).stage }

-- the value of a statement that puts it into the next temporary
abbrev pub taken_into : {R : Type 0} → Place → PlainTy → (R → ℕ → PlainFlatStmt) → Hoisted R → Hoisted PlainExpr
taken_into at ty f a = record { before = a.before ++ f a.rest a.stage.next ∷ []; rest = PVar at a.stage.next; stage = with_temporary ty a.stage }

-- what is left is evaluated now
abbrev pub settled : Place → PlainTy → Hoisted PlainExpr → Hoisted PlainExpr
settled at ty a = taken_into at ty (λ r t. FSet t r) a

abbrev pub settled_unless : Bool → Place → PlainTy → Hoisted PlainExpr → Hoisted PlainExpr
settled_unless true at ty a = a
settled_unless false at ty a = settled at ty a

-- a part that lasts or not, before parts of which one suspends or none
abbrev pub kept : Bool → Bool → Place → PlainTy → Hoisted PlainExpr → Hoisted PlainExpr
kept true lasting at ty a = settled_unless lasting at ty a
kept false lasting at ty a = a

-- What lasts

-- what gives the same wherever it is evaluated
abbrev pub is_constant : PlainExpr → Bool
is_constant (PInt at z) = true
is_constant (PBool at b) = true
is_constant (PNil at) = true
is_constant (PSelf at) = true
is_constant _ = false

-- an expression whose value goes into a temporary in any case
abbrev pub is_taken : Leaving → PlainExpr → Bool
is_taken leaves (PCall at on name name_at args) = leaves on name
is_taken leaves (PApply at name args) = is_none (function_of name)
is_taken leaves (PAnd at items) = exprs_suspend leaves items
is_taken leaves (POr at items) = exprs_suspend leaves items
is_taken leaves (PCond at test a b) = expr_suspends leaves test || (expr_suspends leaves a || expr_suspends leaves b)
is_taken leaves _ = false

-- what is left of an expression gives the same from then on
abbrev pub lasts : Leaving → PlainExpr → Bool
lasts leaves e = is_constant e || is_taken leaves e

-- Tests

abbrev pub leaf : Hoisted PlainExpr → Tested PlainFlatTest
leaf a = record { test = FLeaf (flat_stmts_of a.before) a.rest; next = a.stage.next }

abbrev pub by_value : (Option PlainTy → Stage → Hoisted PlainExpr) → Forms
by_value value = record { value = value; test = λ h. leaf (value None h) }

abbrev pub forms_if : Bool → PlainExpr → Forms → Forms
forms_if true e both = both
forms_if false e both = by_value (λ wanted h. still e h)

abbrev pub made_of : {S T : Type 0} → (S → T) → Tested S → Tested T
made_of f t = record { test = f t.test; next = t.next }

-- one of two values by a test, where it holds and where it doesn't: either goes into one temporary
abbrev pub chosen : Place → PlainTy → List PlainLocal → PlainExpr → Tested PlainFlatTest → (Stage → Hoisted PlainExpr) → (Stage → Hoisted PlainExpr) → Hoisted PlainExpr
chosen at ty locals test tested first second =
    let a = first (where_shown true test locals tested.next) in
    let b = second (where_shown false test locals a.stage.next) in
    let behind : Stage = with_temporary ty (record { locals = locals; next = b.stage.next }) in
    record {
      before =
          FIf
          (FMoreArms
          (FArm tested.test (surely (where_shown true test locals tested.next).locals) (flat_stmts_of (a.before ++ FSet b.stage.next a.rest ∷ []))
          (surely (where_shown false test locals a.stage.next).locals)) FNoArm) (flat_stmts_of (b.before ++ FSet b.stage.next b.rest ∷ [])) (Some (surely behind.locals))
          ∷ [];
      rest = PVar at b.stage.next;
      stage = behind;
    }

-- the truth of a test as a value
abbrev pub truth_of : Place → List PlainLocal → PlainExpr → Tested PlainFlatTest → Hoisted PlainExpr
truth_of at locals test tested = chosen at TBool locals test tested (still (PBool at true)) (still (PBool at false))

-- Calls and creations

-- a receiver and arguments
abbrev pub with_args : PlainExpr → PlainExprs → PlainExpr × PlainExprs
with_args on args = (on, args)

-- a call of this type, on a receiver of that one
abbrev pub call_of : Context → Bool → Place → PlainTy → PlainTy → ℕ → Place → Hoisted (PlainExpr × PlainExprs) → Hoisted PlainExpr
call_of c true at ty on_ty name name_at a = taken_into at ty (λ r t. FCall r.0 (callee_of c on_ty name) r.1 t (surely (with_temporary ty a.stage).locals)) a
call_of c false at ty on_ty name name_at a = built (λ r. PCall at r.0 name name_at r.1) a

abbrev pub apply_of : Context → Bool → Place → PlainTy → ℕ → Hoisted PlainExprs → Hoisted PlainExpr
apply_of c true at ty name a = taken_into at ty (λ r t. FMake (created_of c name) r t (surely (with_temporary ty a.stage).locals)) a
apply_of c false at ty name a = built (PApply at name) a

-- Wanted types of expressions in a list

abbrev pub by_params : List PlainSigParam → List (Option PlainTy)
by_params params = map (λ p. Some p.ty) params

unfoldable pub each_wanted : Option PlainTy → PlainExprs → List (Option PlainTy)
each_wanted wanted PNoExpr = []
each_wanted wanted (PExpr x xs) = wanted ∷ each_wanted wanted xs

-- of the elements of a list: the wanted one, or that of the first
abbrev pub by_elements : Context → Option PlainTy → List PlainLocal → PlainExprs → List (Option PlainTy)
by_elements c (Some element) locals items = each_wanted (Some element) items
by_elements c None locals PNoExpr = []
by_elements c None locals (PExpr x xs) = None ∷ each_wanted (Some (ty_at c None locals x)) xs

abbrev pub first_wanted : List (Option PlainTy) → Option PlainTy
first_wanted [] = None
first_wanted (w ∷ more) = w

abbrev pub others_wanted : List (Option PlainTy) → List (Option PlainTy)
others_wanted [] = []
others_wanted (w ∷ more) = more

-- of the arguments of a function, or of a creation
abbrev pub by_function : Context → Option Function → ℕ → List (Option PlainTy)
by_function c None name = by_params (init_params (table_named c.tables name))
by_function c (Some f) name = []

-- Runs of operators

abbrev pub chain : Place → PlainExpr → List PlainLink → PlainExpr
chain at left [] = left
chain at left (l ∷ ls) = PChain at left (links_of (l ∷ ls))

-- a run so far: what ran before, whether it lasts, its operand and the links behind that, and what is known there
pub record ChainPart : Type 0 where
  pub before : List PlainFlatStmt
  pub lasting : Bool
  pub left : PlainExpr
  pub links : List PlainLink
  pub stage : Stage

abbrev pub chain_of : Bool → Hoisted PlainExpr → ChainPart
chain_of lasting a = record { before = a.before; lasting = lasting; left = a.rest; links = []; stage = a.stage }

abbrev pub so_far : Place → ChainPart → Hoisted PlainExpr
so_far at r = record { before = r.before; rest = chain at r.left r.links; stage = r.stage }

-- one more link, of which nothing suspends
abbrev pub linked_on : ChainPart → PlainLink → ChainPart
linked_on r l = record { before = r.before; lasting = false; left = r.left; links = r.links ++ l ∷ []; stage = r.stage }

-- the run so far, and a link behind it
abbrev pub begun_anew : Hoisted PlainExpr → (PlainExpr → PlainLink) → Hoisted PlainExpr → ChainPart
begun_anew a f b = record { before = a.before ++ b.before; lasting = false; left = a.rest; links = f b.rest ∷ []; stage = b.stage }

abbrev pub either : {A : Type 0} → Bool → A → A → A
either true a b = a
either false a b = b

-- Expressions

module _ (leaves : Leaving) (c : Context) where
  unfoldable mutual
    -- of an expression that suspends
    pub taken : PlainExpr → Forms
    taken (PCall at on name name_at args) =
        by_value (λ wanted h.
        call_of c (leaves on name) at (ty_at c wanted h.locals (PCall at on name name_at args)) (ty_at c None h.locals on) name name_at
        (in_turn with_args (kept (exprs_suspend leaves args) (lasts leaves on) (place_of on) (ty_at c None h.locals on) ((forms_if (expr_suspends leaves on) on (taken on)).value None h)) (λ g.
        if_suspends (exprs_suspend leaves args) args g (taken_each (by_params (method_params c (ty_at c None h.locals on) name)) args g))))
    taken (PApply at name args) =
        by_value (λ wanted h.
        apply_of c (is_none (function_of name)) at (ty_at c wanted h.locals (PApply at name args)) name (if_suspends (exprs_suspend leaves args) args h (taken_each (by_function c (function_of name) name) args h)))
    taken (PIndex at on index) =
        by_value (λ wanted h.
        in_turn (PIndex at) (kept (expr_suspends leaves index) (lasts leaves on) (place_of on) (ty_at c None h.locals on) ((forms_if (expr_suspends leaves on) on (taken on)).value None h)) (λ g.
        (forms_if (expr_suspends leaves index) index (taken index)).value None g))
    taken (PList at items) = by_value (λ wanted h. built (PList at) (taken_each (by_elements c (option_and_then element_wanted wanted) h.locals items) items h))
    taken (PNeg at a) = by_value (λ wanted h. built (PNeg at) ((forms_if (expr_suspends leaves a) a (taken a)).value None h))
    taken (PPos at a) = by_value (λ wanted h. built (PPos at) ((forms_if (expr_suspends leaves a) a (taken a)).value None h))
    taken (PNot at a) = record {
      value = λ wanted h. built (PNot at) ((forms_if (expr_suspends leaves a) a (taken a)).value None h);
      test = λ h. made_of FNot ((forms_if (expr_suspends leaves a) a (taken a)).test h);
    }
    taken (PChain at first PNoLink) = by_value (λ wanted h. built (λ r. PChain at r PNoLink) ((forms_if (expr_suspends leaves first) first (taken first)).value None h))
    taken (PChain at first (PMoreLinks l more)) =
        by_value (λ wanted h. so_far at (taken_links at (ty_at c None h.locals first) (PMoreLinks l more) (chain_of (lasts leaves first) ((forms_if (expr_suspends leaves first) first (taken first)).value None h))))
    taken (PAnd at items) = record { value = λ wanted h. truth_of at h.locals (PAnd at items) (made_of FAnd (taken_operands true items h)); test = λ h. made_of FAnd (taken_operands true items h) }
    taken (POr at items) = record { value = λ wanted h. truth_of at h.locals (POr at items) (made_of FOr (taken_operands false items h)); test = λ h. made_of FOr (taken_operands false items h) }
    taken (PCompare at op op_at left right) =
        by_value (λ wanted h.
        in_turn (PCompare at op op_at) (kept (expr_suspends leaves right) (lasts leaves left) (place_of left) (ty_at c None h.locals left) ((forms_if (expr_suspends leaves left) left (taken left)).value None h)) (λ g.
        (forms_if (expr_suspends leaves right) right (taken right)).value None g))
    taken (PIsNone at a positive) = by_value (λ wanted h. built (λ r. PIsNone at r positive) ((forms_if (expr_suspends leaves a) a (taken a)).value None h))
    taken (PCond at test a b) =
        by_value (λ wanted h.
        chosen at (ty_at c wanted h.locals (PCond at test a b)) h.locals test ((forms_if (expr_suspends leaves test) test (taken test)).test h)
        (λ g. (forms_if (expr_suspends leaves a) a (taken a)).value wanted g) (λ g. (forms_if (expr_suspends leaves b) b (taken b)).value wanted g))
    taken e = by_value (λ wanted h. still e h)

    -- expressions one after another, of these wanted types
    pub taken_each : List (Option PlainTy) → PlainExprs → Stage → Hoisted PlainExprs
    taken_each wanted PNoExpr h = still PNoExpr h
    taken_each wanted (PExpr x xs) h =
        in_turn PExpr (kept (exprs_suspend leaves xs) (lasts leaves x) (place_of x) (ty_at c (first_wanted wanted) h.locals x) ((forms_if (expr_suspends leaves x) x (taken x)).value (first_wanted wanted) h)) (λ g.
        if_suspends (exprs_suspend leaves xs) xs g (taken_each (others_wanted wanted) xs g))

    -- a run whose operands have this type, behind what there is of it
    pub taken_links : Place → PlainTy → PlainLinks → ChainPart → ChainPart
    taken_links at ty PNoLink r = r
    taken_links at ty (PMoreLinks (PLink op op_at right) more) r =
        taken_links at ty more
        (either (expr_suspends leaves right)
        (let a = settled_unless r.lasting at ty (so_far at r) in begun_anew a (PLink op op_at) ((forms_if (expr_suspends leaves right) right (taken right)).value (right_wanted op ty) a.stage))
        (linked_on r (PLink op op_at right)))

    -- operands of `and`, or of `or`
    pub taken_operands : Bool → PlainExprs → Stage → Tested PlainOperands
    taken_operands truth PNoExpr h = record { test = FNoOperand; next = h.next }
    taken_operands truth (PExpr x xs) h =
        let t = (forms_if (expr_suspends leaves x) x (taken x)).test h in
        let rest = taken_operands truth xs (where_shown truth x h.locals t.next) in
        record { test = FMoreOperands (FOperand t.test (surely (where_shown truth x h.locals t.next).locals)) rest.test; next = rest.next }

  -- an expression as a value and as a test
  abbrev pub forms : PlainExpr → Forms
  forms e = forms_if (expr_suspends leaves e) e (taken e)

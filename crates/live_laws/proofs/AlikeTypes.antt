-- An expression has the same type at two points, or breaks the same rule, where the same is known of the variables that it reads.
use Rattle.std.proofs.Common.{◌≡◌, ℕ, Bool, true, false, not, Option, Some, None, Result, Ok, Err, List, [], ◌∷◌, refl, sym, ap, ◌∙◌}
use Rattle.std.specs.Prelude.{◌||◌, option_and_then}
use Rattle.std.proofs.lemmas.Bool.{eq-eqb}
use Rattle.py_tree.specs.declared.names.Place.{Place}
use Rattle.py_tree.specs.declared.rule.RuleFault.{RuleFault}
use Rattle.py_tree.specs.declared.rule.Rule.{Rule}
use Rattle.py_tree.specs.declared.rule.Rule.TheVariants.{UnknownName, Unassigned}
use Rattle.py_tree.specs.PlainTypes.{PlainTy}
use Rattle.py_tree.specs.ClassRules.{PlainTable, PlainSigParam}
use Rattle.py_tree.specs.FlowEnvironment.{PlainLocal, PlainEnv, has_none, shown, where_test}
use Rattle.py_tree.specs.ExpressionTypes.{Function, Length, Text, Absolute, Least, Greatest, function_of, type_of_name, needs, refuse_if, fits, operand, with_found, as_condition, place_of, count_of, applied, table_named, type_of, conditions, arguments, each_is, list_of, elements, linked, combined, right_wanted, read_ty, class_of_ty, method_of, element_of, element_wanted}
use Rattle.py_tree.specs.PlainExpressions.{PlainExpr, PInt, PBool, PStr, PNil, PVar, PSelf, PAttr, PCall, PApply, PIndex, PList, PNeg, PPos, PNot, PChain, PAnd, POr, PCompare, PIsNone, PCond, PlainExprs, PNoExpr, PExpr, PLink, PlainLinks, PNoLink, PMoreLinks}
use Rattle.live_laws.specs.Reads.{reads, any_read, links_read}
use Rattle.live_laws.proofs.AlikeLocals.{Names, Alike, same_local, alike_narrowed}

-- Tests of either

pub or_left : (p q : Bool) → p ≡ true → (p || q) ≡ true
or_left true q h = refl
or_left false q h = absurd cc

pub or_right : (p q : Bool) → q ≡ true → (p || q) ≡ true
or_right true q h = refl
or_right false q h = h

-- each variable of a test is in the set
abbrev pub AllIn : (ℕ → Bool) → Names → Type 0
AllIn test P = (x : ℕ) → test x ≡ true → P x

abbrev pub either : (ℕ → Bool) → (ℕ → Bool) → ℕ → Bool
either p q x = p x || q x

pub left_in : (p q : ℕ → Bool) {P : Names} → AllIn (either p q) P → AllIn p P
left_in p q all x h = all x (or_left (p x) (q x) h)

pub right_in : (p q : ℕ → Bool) {P : Names} → AllIn (either p q) P → AllIn q P
right_in p q all x h = all x (or_right (p x) (q x) h)

-- What follows is the same

pub then_same : {X A : Type 0} {r q : Result X RuleFault} {f g : X → Result A RuleFault} → r ≡ q → ((x : X) → f x ≡ g x) → with_found r f ≡ with_found q g
then_same {r = r} {q = q} {f = f} {g = g} e same = ap (λ o. with_found o f) e ∙ by q
  where
    by : (q : _) → with_found q f ≡ with_found q g
    by (Ok x) = same x
    by (Err fault) = refl

needs_same : {X A : Type 0} (o : Option X) (rule : Rule) (at : Place) {f g : X → Result A RuleFault} → ((x : X) → f x ≡ g x) → needs o rule at f ≡ needs o rule at g
needs_same None rule at same = refl
needs_same (Some x) rule at same = same x

applied_same : (o : Option Function) (class : Option PlainTable) (at : Place) (count : ℕ) {each each2 : (PlainTy → Bool) → PlainTy → Result PlainTy RuleFault} {fit fit2 : List PlainSigParam → PlainTy → Result PlainTy RuleFault}
    → ((test : PlainTy → Bool) (ty : PlainTy) → each test ty ≡ each2 test ty) → ((ps : List PlainSigParam) (ty : PlainTy) → fit ps ty ≡ fit2 ps ty) → applied o class at count each fit ≡ applied o class at count each2 fit2
unfolding applied
applied_same (Some Length) class at count same args = ap (refuse_if _ _ at) (same _ _)
applied_same (Some Text) class at count same args = ap (refuse_if _ _ at) (same _ _)
applied_same (Some Absolute) class at count same args = ap (refuse_if _ _ at) (same _ _)
applied_same (Some Least) class at count same args = ap (refuse_if _ _ at) (same _ _)
applied_same (Some Greatest) class at count same args = ap (refuse_if _ _ at) (same _ _)
applied_same None class at count same args = needs_same class _ _ (λ c. ap (refuse_if _ _ at) (args _ _))

-- Expressions

abbrev pub env_in : ℕ → Option ℕ → List PlainLocal → PlainEnv
env_in class method locals = record { class = class; method = method; locals = locals }

module _ (tables : List PlainTable) (class : ℕ) (method : Option ℕ) {P : Names} where
  mutual
    unfolding type_of type_of_name reads where_test

    pub type_same : {here there : List PlainLocal} → Alike P here there → (wanted : Option PlainTy) (e : PlainExpr) → AllIn (reads e) P → type_of tables (env_in class method here) wanted e ≡ type_of tables (env_in class method there) wanted e
    type_same a wanted (PInt at n) all = refl
    type_same a wanted (PBool at n) all = refl
    type_same a wanted (PStr at text) all = refl
    type_same a wanted (PNil at) all = refl
    type_same a wanted (PSelf at) all = refl
    type_same a wanted (PAttr at on name name_at) all = refl
    type_same a wanted (PVar at name) all = ap (λ o. needs o UnknownName at (λ l. refuse_if (not l.assigned) Unassigned at (Ok (read_ty l)))) (sym (same_local name (all name (eq-eqb name name refl)) a))
    type_same a wanted (PNeg at inner) all = then_same (type_same a None inner all) (λ t. refl)
    type_same a wanted (PPos at inner) all = then_same (type_same a None inner all) (λ t. refl)
    type_same a wanted (PIsNone at inner positive) all = then_same (type_same a None inner all) (λ t. refl)
    type_same a wanted (PNot at inner) all = ap (as_condition (place_of inner)) (type_same a None inner all)
    type_same a wanted (PAnd at operands) all = conditions_same a true operands all
    type_same a wanted (POr at operands) all = conditions_same a false operands all
    type_same a wanted (PList at items) all = list_same a (option_and_then element_wanted wanted) at items all
    type_same a wanted (PChain at first links) all = then_same (type_same a None first (left_in (reads first) (links_read links) all)) (λ t. links_same a t links (right_in (reads first) (links_read links) all))
    type_same a wanted (PCompare at op op_at left right) all =
        then_same (type_same a None left (left_in (reads left) (reads right) all)) (λ s. then_same (type_same a None right (right_in (reads left) (reads right) all)) (λ t. refl))
    type_same a wanted (PIndex at on index) all =
        then_same (type_same a None on (left_in (reads on) (reads index) all)) (λ t.
        ap (refuse_if (has_none t) _ _) (needs_same (element_of t) _ _ (λ element. then_same (type_same a None index (right_in (reads on) (reads index) all)) (λ i. refl))))
    type_same a wanted (PCall at on name name_at args) all =
        then_same (type_same a None on (left_in (reads on) (any_read args) all)) (λ t.
        ap (refuse_if (has_none t) _ _) (needs_same (class_of_ty t) _ _ (λ class.
        needs_same (method_of tables class name) _ _ (λ m.
        ap (refuse_if _ _ _) (arguments_same a args (right_in (reads on) (any_read args) all) m.params m.result)))))
    type_same a wanted (PApply at name args) all =
        applied_same (function_of name) (table_named tables name) at (count_of args) (λ test result. each_same a test args all result) (λ params result. arguments_same a args all params result)
    type_same a wanted (PCond at test yes_part no_part) all =
        let later : AllIn (either (reads yes_part) (reads no_part)) P = right_in (reads test) (either (reads yes_part) (reads no_part)) all in
        then_same (ap (as_condition (place_of test)) (type_same a None test (left_in (reads test) (either (reads yes_part) (reads no_part)) all))) (λ c.
        then_same (type_same (alike_narrowed (shown true test) a) wanted yes_part (left_in (reads yes_part) (reads no_part) later)) (λ s.
        then_same (type_same (alike_narrowed (shown false test) a) wanted no_part (right_in (reads yes_part) (reads no_part) later)) (λ t. refl)))

    conditions_same : {here there : List PlainLocal} → Alike P here there → (truth : Bool) (es : PlainExprs) → AllIn (any_read es) P → conditions tables (env_in class method here) truth es ≡ conditions tables (env_in class method there) truth es
    conditions_same a truth PNoExpr all = refl
    conditions_same a truth (PExpr e es) all =
        then_same (ap (as_condition (place_of e)) (type_same a None e (left_in (reads e) (any_read es) all))) (λ c. conditions_same (alike_narrowed (shown truth e) a) truth es (right_in (reads e) (any_read es) all))

    pub arguments_same : {here there : List PlainLocal} → Alike P here there → (es : PlainExprs) → AllIn (any_read es) P → (ps : List PlainSigParam) (result : PlainTy) → arguments tables (env_in class method here) es ps result ≡ arguments tables (env_in class method there) es ps result
    arguments_same a (PExpr e es) all (p ∷ ps) result =
        then_same (type_same a (Some p.ty) e (left_in (reads e) (any_read es) all)) (λ t. ap (fits t p.ty (place_of e)) (arguments_same a es (right_in (reads e) (any_read es) all) ps result))
    arguments_same a (PExpr e es) all [] result = refl
    arguments_same a PNoExpr all ps result = refl

    each_same : {here there : List PlainLocal} → Alike P here there → (test : PlainTy → Bool) (es : PlainExprs) → AllIn (any_read es) P → (result : PlainTy) → each_is test tables (env_in class method here) es result ≡ each_is test tables (env_in class method there) es result
    each_same a test PNoExpr all result = refl
    each_same a test (PExpr e es) all result =
        then_same (type_same a None e (left_in (reads e) (any_read es) all)) (λ t. ap (operand t test (place_of e)) (each_same a test es (right_in (reads e) (any_read es) all) result))

    list_same : {here there : List PlainLocal} → Alike P here there → (wanted : Option PlainTy) (at : Place) (es : PlainExprs) → AllIn (any_read es) P → list_of tables (env_in class method here) wanted at es ≡ list_of tables (env_in class method there) wanted at es
    list_same a wanted at PNoExpr all = refl
    list_same a None at (PExpr e es) all = then_same (type_same a None e (left_in (reads e) (any_read es) all)) (λ t. elements_same a t es (right_in (reads e) (any_read es) all))
    list_same a (Some element) at (PExpr e es) all =
        then_same (type_same a (Some element) e (left_in (reads e) (any_read es) all)) (λ t. ap (fits t element (place_of e)) (elements_same a element es (right_in (reads e) (any_read es) all)))

    elements_same : {here there : List PlainLocal} → Alike P here there → (element : PlainTy) (es : PlainExprs) → AllIn (any_read es) P → elements tables (env_in class method here) element es ≡ elements tables (env_in class method there) element es
    elements_same a element PNoExpr all = refl
    elements_same a element (PExpr e es) all =
        then_same (type_same a (Some element) e (left_in (reads e) (any_read es) all)) (λ t. ap (fits t element (place_of e)) (elements_same a element es (right_in (reads e) (any_read es) all)))

    links_same : {here there : List PlainLocal} → Alike P here there → (left : PlainTy) (links : PlainLinks) → AllIn (links_read links) P → linked tables (env_in class method here) left links ≡ linked tables (env_in class method there) left links
    links_same a left PNoLink all = refl
    links_same a left (PMoreLinks (PLink op at right) links) all =
        then_same (type_same a (right_wanted op left) right (left_in (reads right) (links_read links) all)) (λ t.
        then_same {r = combined op at left t} refl (λ both. links_same a both links (right_in (reads right) (links_read links) all)))

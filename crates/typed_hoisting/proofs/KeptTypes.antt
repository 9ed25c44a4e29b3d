-- What has a type keeps it wherever what is known of the locals that it names is known so.
use Rattle.std.proofs.Common.{◌≡◌, ◌<◌, ℕ, Bool, true, false, not, Option, Some, None, Result, Ok, List, [], ◌∷◌, length, sym, ap, ◌∙◌}
use Rattle.std.specs.Prelude.{◌==◌, if◌then◌else◌, option_and_then}
use Rattle.py_tree.specs.declared.names.Place.{Place}
use Rattle.py_tree.specs.declared.rule.RuleFault.{RuleFault}
use Rattle.py_tree.specs.declared.rule.Rule.{Rule}
use Rattle.py_tree.specs.declared.rule.Rule.TheVariants.{RemoteField, UnknownField, NoneUse, Operand}
use Rattle.py_tree.specs.Bounded.{ExprNames, ExprsNames, LinksNames}
use Rattle.py_tree.specs.PlainTypes.{PlainTy, TInt, TStr, TEntity}
use Rattle.py_tree.specs.ClassRules.{PlainTable, PlainSigParam, is_self}
use Rattle.py_tree.specs.FlowEnvironment.{PlainLocal, PlainEnv, has_none, shown, where_test}
use Rattle.py_tree.specs.ExpressionTypes.{Function, Length, Text, Absolute, Least, Greatest, function_of, type_of_name, needs, refuse_if, with_found, as_condition, place_of, count_of, applied, table_named, type_of, conditions, arguments, each_is, list_of, elements, linked, combined, operand, right_wanted, inside, assignable, self_ty, field_of, class_of_ty, method_of, element_of, element_wanted, is_str_or_list, is_int}
use Rattle.py_tree.specs.PlainExpressions.{PlainExpr, PInt, PBool, PStr, PNil, PVar, PSelf, PAttr, PCall, PApply, PIndex, PList, PNeg, PPos, PNot, PChain, PAnd, POr, PCompare, PIsNone, PCond, PlainExprs, PNoExpr, PExpr, PLink, PlainLinks, PNoLink, PMoreLinks}
use Rattle.program_meaning.proofs.TypedParts.{found_ok}
use Rattle.typed_hoisting.specs.KnownLocals.{Seen, seen, Kept}
use Rattle.typed_hoisting.proofs.LocalLaws.{kept_seen, kept_narrowed, read_seen, seen_read}

-- what is found first is found second
pub record Keeps {A : Type 0} (first second : Result A RuleFault) : Type 0 where
  pub keeps : (t : A) → first ≡ Ok t → second ≡ Ok t

pub itself : {A : Type 0} {r : Result A RuleFault} → Keeps r r
itself = record { keeps = λ t h. h }

pub equal_keeps : {A : Type 0} (r q : Result A RuleFault) → r ≡ q → Keeps r q
equal_keeps r q e = record { keeps = λ t h. sym e ∙ h }

-- Steps of the rules

pub found_keeps : {X A : Type 0} {r q : Result X RuleFault} {f g : X → Result A RuleFault} → Keeps r q → ((x : X) → Keeps (f x) (g x)) → Keeps (with_found r f) (with_found q g)
found_keeps {X} {A} {r} {q} {f} {g} a later = record {
  keeps = λ t h.
      let p : (x : X) × (r ≡ Ok x) × (f x ≡ Ok t) = found_ok r f t h in
      ap (λ o. with_found o g) (a.keeps p.0 p.1) ∙ (later p.0).keeps t p.2;
}

pub needs_keeps : {X A : Type 0} (o : Option X) (rule : Rule) (at : Place) {f g : X → Result A RuleFault} → ((x : X) → Keeps (f x) (g x)) → Keeps (needs o rule at f) (needs o rule at g)
needs_keeps None rule at later = itself
needs_keeps (Some x) rule at later = later x

pub refuse_keeps : {A : Type 0} (b : Bool) (rule : Rule) (at : Place) {r q : Result A RuleFault} → Keeps r q → Keeps (refuse_if b rule at r) (refuse_if b rule at q)
refuse_keeps true rule at a = itself
refuse_keeps false rule at a = a

pub operand_keeps : {A : Type 0} (t : PlainTy) (test : PlainTy → Bool) (at : Place) {r q : Result A RuleFault} → Keeps r q → Keeps (operand t test at r) (operand t test at q)
operand_keeps t test at a = refuse_keeps (has_none t) NoneUse at (refuse_keeps (not (test t)) Operand at a)

pub condition_keeps : (at : Place) {r q : Result PlainTy RuleFault} → Keeps r q → Keeps (as_condition at r) (as_condition at q)
unfolding as_condition
condition_keeps at a = found_keeps a (λ t. itself)

name_keeps : (here there : List PlainLocal) (at : Place) (x : ℕ) → Kept (seen here x) (seen there x) → Keeps (type_of_name here at x) (type_of_name there at x)
name_keeps here there at x e = record {
  keeps = λ t h.
      let p : (s : Seen) × (seen here x ≡ Some s) × (t ≡ (if s.less then inside s.ty else s.ty)) = seen_read here at x t h in
      read_seen there at x p.0 (kept_seen (seen here x) (seen there x) p.0 e p.1) ∙ ap Ok (sym p.2);
}

applied_keeps : (o : Option Function) (class : Option PlainTable) (at : Place) (count : ℕ) {each each2 : (PlainTy → Bool) → PlainTy → Result PlainTy RuleFault} {fit fit2 : List PlainSigParam → PlainTy → Result PlainTy RuleFault}
    → ((test : PlainTy → Bool) (ty : PlainTy) → Keeps (each test ty) (each2 test ty)) → ((ps : List PlainSigParam) (ty : PlainTy) → Keeps (fit ps ty) (fit2 ps ty)) → Keeps (applied o class at count each fit) (applied o class at count each2 fit2)
unfolding applied
applied_keeps (Some Length) class at count e f = refuse_keeps (not (count == 1)) _ _ (e is_str_or_list TInt)
applied_keeps (Some Text) class at count e f = refuse_keeps (not (count == 1)) _ _ (e is_int TStr)
applied_keeps (Some Absolute) class at count e f = refuse_keeps (not (count == 1)) _ _ (e is_int TInt)
applied_keeps (Some Least) class at count e f = refuse_keeps (not (count == 2)) _ _ (e is_int TInt)
applied_keeps (Some Greatest) class at count e f = refuse_keeps (not (count == 2)) _ _ (e is_int TInt)
applied_keeps None class at count e f = needs_keeps class _ _ (λ c. refuse_keeps (not (count == length c.init)) _ _ (f c.init (TEntity c.name)))

-- in one method, what is known here of a name below the limit is known so there
pub record Near (limit : ℕ) (here there : PlainEnv) : Type 0 where
  pub class : here.class ≡ there.class
  pub locals : (x : ℕ) → x < limit → Kept (seen here.locals x) (seen there.locals x)

near_where : {limit : ℕ} {here there : PlainEnv} (truth : Bool) (test : PlainExpr) → Near limit here there → Near limit (where_test truth test here) (where_test truth test there)
unfolding where_test
near_where {limit} {here} {there} truth test near = record {
  class = near.class;
  locals = λ x below. kept_narrowed (shown truth test) here.locals there.locals x (near.locals x below);
}

-- Expressions

module _ (tables : List PlainTable) (limit : ℕ) where
  mutual
    unfolding type_of ExprNames type_of_name

    pub type_kept : (a b : PlainEnv) → Near limit a b → (wanted : Option PlainTy) (e : PlainExpr) → ExprNames limit e → Keeps (type_of tables a wanted e) (type_of tables b wanted e)
    type_kept a b near wanted (PInt at n) named = itself
    type_kept a b near wanted (PBool at n) named = itself
    type_kept a b near wanted (PStr at text) named = itself
    type_kept a b near wanted (PNil at) named = itself
    type_kept a b near wanted (PVar at name) named = name_keeps a.locals b.locals at name (near.locals name named)
    type_kept a b near wanted (PSelf at) named = equal_keeps _ _ (ap (λ c. Ok (self_ty tables c)) near.class)
    type_kept a b near wanted (PAttr at on name name_at) named = equal_keeps _ _ (ap (λ c. refuse_if (not (is_self on)) RemoteField name_at (needs (field_of tables c name) UnknownField name_at (λ t. Ok t))) near.class)
    type_kept a b near wanted (PCall at on name name_at args) named =
        found_keeps (type_kept a b near None on named.0) (λ t.
        refuse_keeps (has_none t) _ _ (needs_keeps (class_of_ty t) _ _ (λ class.
        needs_keeps (method_of tables class name) _ _ (λ m.
        refuse_keeps (not (count_of args == length m.params)) _ _ (arguments_kept a b near args named.2 m.params m.result)))))
    type_kept a b near wanted (PApply at name args) named =
        applied_keeps (function_of name) (table_named tables name) at (count_of args) (λ test result. each_kept a b near test args named.1 result) (λ params result. arguments_kept a b near args named.1 params result)
    type_kept a b near wanted (PIndex at on index) named =
        found_keeps (type_kept a b near None on named.0) (λ t.
        refuse_keeps (has_none t) _ _ (needs_keeps (element_of t) _ _ (λ element.
        found_keeps (type_kept a b near None index named.1) (λ i. itself))))
    type_kept a b near wanted (PList at items) named = list_kept a b near (option_and_then element_wanted wanted) at items named
    type_kept a b near wanted (PNeg at e) named = found_keeps (type_kept a b near None e named) (λ t. itself)
    type_kept a b near wanted (PPos at e) named = found_keeps (type_kept a b near None e named) (λ t. itself)
    type_kept a b near wanted (PNot at e) named = condition_keeps (place_of e) (type_kept a b near None e named)
    type_kept a b near wanted (PChain at first links) named = found_keeps (type_kept a b near None first named.0) (λ t. links_kept a b near t links named.1)
    type_kept a b near wanted (PAnd at items) named = conditions_kept a b near true items named
    type_kept a b near wanted (POr at items) named = conditions_kept a b near false items named
    type_kept a b near wanted (PCompare at op op_at left right) named = found_keeps (type_kept a b near None left named.0) (λ s. found_keeps (type_kept a b near None right named.1) (λ t. itself))
    type_kept a b near wanted (PIsNone at e positive) named = found_keeps (type_kept a b near None e named) (λ t. itself)
    type_kept a b near wanted (PCond at test first second) named =
        found_keeps (condition_keeps (place_of test) (type_kept a b near None test named.0)) (λ c.
        found_keeps (type_kept (where_test true test a) (where_test true test b) (near_where true test near) wanted first named.1) (λ s.
        found_keeps (type_kept (where_test false test a) (where_test false test b) (near_where false test near) wanted second named.2) (λ t. itself)))

    pub conditions_kept : (a b : PlainEnv) → Near limit a b → (truth : Bool) (es : PlainExprs) → ExprsNames limit es → Keeps (conditions tables a truth es) (conditions tables b truth es)
    conditions_kept a b near truth PNoExpr named = itself
    conditions_kept a b near truth (PExpr x xs) named =
        found_keeps (condition_keeps (place_of x) (type_kept a b near None x named.0)) (λ c. conditions_kept (where_test truth x a) (where_test truth x b) (near_where truth x near) truth xs named.1)

    pub arguments_kept : (a b : PlainEnv) → Near limit a b → (es : PlainExprs) → ExprsNames limit es → (ps : List PlainSigParam) (result : PlainTy) → Keeps (arguments tables a es ps result) (arguments tables b es ps result)
    arguments_kept a b near (PExpr x xs) named (p ∷ ps) result = found_keeps (type_kept a b near (Some p.ty) x named.0) (λ t. refuse_keeps (not (assignable t p.ty)) _ _ (arguments_kept a b near xs named.1 ps result))
    arguments_kept a b near (PExpr x xs) named [] result = itself
    arguments_kept a b near PNoExpr named ps result = itself

    pub each_kept : (a b : PlainEnv) → Near limit a b → (test : PlainTy → Bool) (es : PlainExprs) → ExprsNames limit es → (result : PlainTy) → Keeps (each_is test tables a es result) (each_is test tables b es result)
    each_kept a b near test PNoExpr named result = itself
    each_kept a b near test (PExpr x xs) named result = found_keeps (type_kept a b near None x named.0) (λ t. operand_keeps t test _ (each_kept a b near test xs named.1 result))

    pub list_kept : (a b : PlainEnv) → Near limit a b → (wanted : Option PlainTy) (at : Place) (es : PlainExprs) → ExprsNames limit es → Keeps (list_of tables a wanted at es) (list_of tables b wanted at es)
    list_kept a b near wanted at PNoExpr named = itself
    list_kept a b near (Some element) at (PExpr x xs) named = found_keeps (type_kept a b near (Some element) x named.0) (λ t. refuse_keeps (not (assignable t element)) _ _ (elements_kept a b near element xs named.1))
    list_kept a b near None at (PExpr x xs) named = found_keeps (type_kept a b near None x named.0) (λ t. elements_kept a b near t xs named.1)

    pub elements_kept : (a b : PlainEnv) → Near limit a b → (element : PlainTy) (es : PlainExprs) → ExprsNames limit es → Keeps (elements tables a element es) (elements tables b element es)
    elements_kept a b near element PNoExpr named = itself
    elements_kept a b near element (PExpr x xs) named = found_keeps (type_kept a b near (Some element) x named.0) (λ t. refuse_keeps (not (assignable t element)) _ _ (elements_kept a b near element xs named.1))

    pub links_kept : (a b : PlainEnv) → Near limit a b → (t : PlainTy) (ls : PlainLinks) → LinksNames limit ls → Keeps (linked tables a t ls) (linked tables b t ls)
    links_kept a b near t PNoLink named = itself
    links_kept a b near t (PMoreLinks (PLink op at right) more) named =
        found_keeps (type_kept a b near (right_wanted op t) right named.0) (λ u.
        found_keeps {r = combined op at t u} {q = combined op at t u} itself (λ both. links_kept a b near both more named.1))

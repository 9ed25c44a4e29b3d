-- An expression that breaks no rule doesn't read a variable that isn't surely assigned.
use Rattle.std.proofs.Common.{◌≡◌, ◌+◌, ℕ, Bool, true, false, not, Option, Some, None, Result, Ok, List, [], ◌∷◌, length, arith, refl, sym, ◌∙◌}
use Rattle.std.specs.Prelude.{◌==◌, ◌||◌, option_and_then}
use Rattle.std.proofs.lemmas.Bool.{eqb-true}
use Rattle.py_tree.specs.declared.names.Place.{Place}
use Rattle.py_tree.specs.declared.rule.RuleFault.{RuleFault}
use Rattle.py_tree.specs.declared.rule.Rule.TheVariants.{UnknownName, Unassigned, UnknownMethod, NoneUse, Operand, ArgCount, Mismatch}
use Rattle.py_tree.specs.PlainTypes.{PlainTy, TInt, TStr, TEntity}
use Rattle.py_tree.specs.ClassRules.{PlainTable, PlainSig, PlainSigParam}
use Rattle.py_tree.specs.FlowEnvironment.{PlainLocal, local_of, has_none, shown, where_test}
use Rattle.py_tree.specs.ExpressionTypes.{Function, Length, Text, Absolute, Least, Greatest, function_of, type_of_name, refuse_if, with_found, as_condition, place_of, count_of, applied, table_named, type_of, conditions, arguments, each_is, list_of, elements, linked, combined, right_wanted, read_ty, class_of_ty, method_of, element_of, element_wanted, assignable, is_str_or_list, is_int}
use Rattle.py_tree.specs.PlainExpressions.{PlainExpr, PInt, PBool, PStr, PNil, PVar, PSelf, PAttr, PCall, PApply, PIndex, PList, PNeg, PPos, PNot, PChain, PAnd, POr, PCompare, PIsNone, PCond, PlainExprs, PNoExpr, PExpr, PLink, PlainLinks, PNoLink, PMoreLinks}
use Rattle.program_meaning.proofs.TypedParts.{not_false}
use Rattle.live_laws.specs.Reads.{reads, any_read, links_read}
use Rattle.live_laws.proofs.AlikeTypes.{env_in}
use Rattle.live_laws.proofs.Said.{Says, unsaid, said, by_found, says_more, say_any, say_refuse, say_needs}
use Rattle.live_laws.proofs.Unset.{Unset, unset_narrowed, unset_found}

-- this isn't so where the rules find something
abbrev pub Denies : {A : Type 0} → Bool → Result A RuleFault → Type 0
Denies p r = Says (λ found. p ≡ false) r

pub neither : (p q : Bool) → p ≡ false → q ≡ false → (p || q) ≡ false
neither true q e f = e
neither false q e f = f

denied : {A : Type 0} (r : Result A RuleFault) → Denies false r
denied r = by_found r (λ x e. refl)

-- the first part, and then those behind it
deny : {X A : Type 0} {r : Result X RuleFault} (f : X → Result A RuleFault) (p q : Bool) → Denies p r → ((x : X) → Denies q (f x)) → Denies (p || q) (with_found r f)
deny f p q unsaid later = unsaid
deny f p q (said {x = x} e) later = says_more (λ y e2. neither p q e e2) (later x)

deny_only : {X A : Type 0} {r : Result X RuleFault} (f : X → Result A RuleFault) (p : Bool) → Denies p r → Denies p (with_found r f)
deny_only f p unsaid = unsaid
deny_only f p (said {x = x} e) = by_found (f x) (λ y is. e)

deny_condition : (at : Place) {r : Result PlainTy RuleFault} (p : Bool) → Denies p r → Denies p (as_condition at r)
unfolding as_condition
deny_condition at p d = deny_only _ p d

deny_applied : (o : Option Function) (class : Option PlainTable) (at : Place) (count : ℕ) (each : (PlainTy → Bool) → PlainTy → Result PlainTy RuleFault) (fit : List PlainSigParam → PlainTy → Result PlainTy RuleFault) (p : Bool)
    → ((test : PlainTy → Bool) (ty : PlainTy) → Denies p (each test ty)) → ((ps : List PlainSigParam) (ty : PlainTy) → count ≡ length ps → Denies p (fit ps ty)) → Denies p (applied o class at count each fit)
unfolding applied
deny_applied (Some Length) class at count each fit p d args = say_refuse _ (not (count == 1)) ArgCount at (each is_str_or_list TInt) (λ e. d is_str_or_list TInt)
deny_applied (Some Text) class at count each fit p d args = say_refuse _ (not (count == 1)) ArgCount at (each is_int TStr) (λ e. d is_int TStr)
deny_applied (Some Absolute) class at count each fit p d args = say_refuse _ (not (count == 1)) ArgCount at (each is_int TInt) (λ e. d is_int TInt)
deny_applied (Some Least) class at count each fit p d args = say_refuse _ (not (count == 2)) ArgCount at (each is_int TInt) (λ e. d is_int TInt)
deny_applied (Some Greatest) class at count each fit p d args = say_refuse _ (not (count == 2)) ArgCount at (each is_int TInt) (λ e. d is_int TInt)
deny_applied None class at count each fit p d args =
    say_needs _ class UnknownName at _ (λ c is. say_refuse _ (not (count == length c.init)) ArgCount at (fit c.init (TEntity c.name)) (λ e. args c.init _ (eqb-true count (length c.init) (not_false (count == length c.init) e))))

module _ (v : ℕ) (tables : List PlainTable) (class : ℕ) (method : Option ℕ) where
  name_denied : {locals : List PlainLocal} → Unset v locals → (at : Place) (x : ℕ) → Denies (x == v) (type_of_name locals at x)
  unfolding type_of_name
  name_denied {locals} u at x = say_needs _ (local_of locals x) UnknownName at (λ l. refuse_if (not l.assigned) Unassigned at (Ok (read_ty l))) (λ l is. say_refuse _ (not l.assigned) Unassigned at (Ok (read_ty l)) (λ e. said (by l is (not_false l.assigned e) (x == v) refl)))
    where
      by : (l : PlainLocal) → local_of locals x ≡ Some l → l.assigned ≡ true → (b : Bool) → (x == v) ≡ b → b ≡ false
      by l is assigned true same = sym assigned ∙ unset_found v x same u l is
      by l is assigned false same = refl

  mutual
    unfolding type_of reads where_test

    pub type_denied : {locals : List PlainLocal} → Unset v locals → (wanted : Option PlainTy) (e : PlainExpr) → Denies (reads e v) (type_of tables (env_in class method locals) wanted e)
    type_denied u wanted (PVar at name) = name_denied u at name
    type_denied u wanted (PInt at n) = denied _
    type_denied u wanted (PBool at b) = denied _
    type_denied u wanted (PStr at text) = denied _
    type_denied u wanted (PNil at) = denied _
    type_denied u wanted (PSelf at) = denied _
    type_denied u wanted (PAttr at on name name_at) = denied _
    type_denied u wanted (PNeg at inner) = deny_only _ (reads inner v) (type_denied u None inner)
    type_denied u wanted (PPos at inner) = deny_only _ (reads inner v) (type_denied u None inner)
    type_denied u wanted (PIsNone at inner positive) = deny_only _ (reads inner v) (type_denied u None inner)
    type_denied u wanted (PNot at inner) = deny_condition (place_of inner) (reads inner v) (type_denied u None inner)
    type_denied u wanted (PAnd at operands) = conditions_denied u true operands
    type_denied u wanted (POr at operands) = conditions_denied u false operands
    type_denied u wanted (PList at items) = list_denied u (option_and_then element_wanted wanted) at items
    type_denied u wanted (PChain at first links) = deny _ (reads first v) (links_read links v) (type_denied u None first) (λ t. links_denied u t links)
    type_denied u wanted (PCompare at op op_at left right) = deny _ (reads left v) (reads right v) (type_denied u None left) (λ s. deny_only _ (reads right v) (type_denied u None right))
    type_denied u wanted (PIndex at on index) =
        deny _ (reads on v) (reads index v) (type_denied u None on) (λ t. say_refuse _ (has_none t) NoneUse (place_of on) _ (λ e. say_needs _ (element_of t) Operand (place_of on) _ (λ element is. deny_only _ (reads index v) (type_denied u None index))))
    type_denied u wanted (PCall at on name name_at args) =
        deny _ (reads on v) (any_read args v) (type_denied u None on) (λ t.
        say_refuse _ (has_none t) NoneUse (place_of on) _ (λ e.
        say_needs _ (class_of_ty t) Operand (place_of on) _ (λ class is.
        say_needs _ (method_of tables class name) UnknownMethod name_at _ (λ (m : PlainSig) is.
        say_refuse _ (not (count_of args == length m.params)) ArgCount name_at _ (λ e. arguments_denied u args m.params m.result (eqb-true (count_of args) (length m.params) (not_false (count_of args == length m.params) e)))))))
    type_denied u wanted (PApply at name args) =
        deny_applied (function_of name) (table_named tables name) at (count_of args) _ _ (any_read args v) (λ test result. each_denied u test args result) (λ params result same. arguments_denied u args params result same)
    type_denied u wanted (PCond at test a b) =
        deny _ (reads test v) (reads a v || reads b v) (deny_condition (place_of test) (reads test v) (type_denied u None test)) (λ c.
        deny _ (reads a v) (reads b v) (type_denied (unset_narrowed v (shown true test) u) wanted a) (λ s. deny_only _ (reads b v) (type_denied (unset_narrowed v (shown false test) u) wanted b)))

    conditions_denied : {locals : List PlainLocal} → Unset v locals → (truth : Bool) (es : PlainExprs) → Denies (any_read es v) (conditions tables (env_in class method locals) truth es)
    conditions_denied u truth PNoExpr = denied _
    conditions_denied u truth (PExpr e es) =
        deny _ (reads e v) (any_read es v) (deny_condition (place_of e) (reads e v) (type_denied u None e)) (λ c. conditions_denied (unset_narrowed v (shown truth e) u) truth es)

    pub arguments_denied : {locals : List PlainLocal} → Unset v locals → (es : PlainExprs) (ps : List PlainSigParam) (result : PlainTy) → count_of es ≡ length ps → Denies (any_read es v) (arguments tables (env_in class method locals) es ps result)
    arguments_denied u PNoExpr ps result same = denied _
    arguments_denied u (PExpr e es) [] result same = let n : 1 + count_of es ≡ 0 = same in absurd (omega arith)
    arguments_denied u (PExpr e es) (p ∷ ps) result same =
        deny _ (reads e v) (any_read es v) (type_denied u (Some p.ty) e) (λ t.
        say_refuse _ (not (assignable t p.ty)) Mismatch (place_of e) _ (λ f. arguments_denied u es ps result (let n : 1 + count_of es ≡ length (p ∷ ps) = same in omega arith)))

    each_denied : {locals : List PlainLocal} → Unset v locals → (test : PlainTy → Bool) (es : PlainExprs) (result : PlainTy) → Denies (any_read es v) (each_is test tables (env_in class method locals) es result)
    each_denied u test PNoExpr result = denied _
    each_denied u test (PExpr e es) result =
        deny _ (reads e v) (any_read es v) (type_denied u None e) (λ t. say_refuse _ (has_none t) NoneUse (place_of e) _ (λ f. say_refuse _ (not (test t)) Operand (place_of e) _ (λ g. each_denied u test es result)))

    list_denied : {locals : List PlainLocal} → Unset v locals → (wanted : Option PlainTy) (at : Place) (es : PlainExprs) → Denies (any_read es v) (list_of tables (env_in class method locals) wanted at es)
    list_denied u wanted at PNoExpr = denied _
    list_denied u None at (PExpr e es) = deny _ (reads e v) (any_read es v) (type_denied u None e) (λ t. elements_denied u t es)
    list_denied u (Some element) at (PExpr e es) =
        deny _ (reads e v) (any_read es v) (type_denied u (Some element) e) (λ t. say_refuse _ (not (assignable t element)) Mismatch (place_of e) _ (λ f. elements_denied u element es))

    elements_denied : {locals : List PlainLocal} → Unset v locals → (element : PlainTy) (es : PlainExprs) → Denies (any_read es v) (elements tables (env_in class method locals) element es)
    elements_denied u element PNoExpr = denied _
    elements_denied u element (PExpr e es) =
        deny _ (reads e v) (any_read es v) (type_denied u (Some element) e) (λ t. say_refuse _ (not (assignable t element)) Mismatch (place_of e) _ (λ f. elements_denied u element es))

    links_denied : {locals : List PlainLocal} → Unset v locals → (left : PlainTy) (links : PlainLinks) → Denies (links_read links v) (linked tables (env_in class method locals) left links)
    links_denied u left PNoLink = denied _
    links_denied u left (PMoreLinks (PLink op at right) links) =
        deny _ (reads right v) (links_read links v) (type_denied u (right_wanted op left) right) (λ t. say_any _ (combined op at left t) _ (λ both is. links_denied u both links))

-- An expression that has a type, and holds no call or creation that suspends by the marks, doesn't suspend.
use Rattle.std.proofs.Common.{◌≡◌, ℕ, zero, suc, arith, ◌+◌, Bool, true, false, cond, Option, Some, None, Ok, List, [], ◌∷◌, ◌++◌, length, map as over, refl, sym, ap, ◌∙◌, subst, true≢false}
use Rattle.std.specs.Prelude.{◌==◌, ◌||◌, find, is_none, slice_get, slice_index_or, option_map, option_and_then}
use Rattle.std.specs.List.{list_any, position_from}
use Rattle.std.specs.declared.result.Result.{Result}
use Rattle.std.proofs.Math.Bool.{or-false}
use Rattle.std.proofs.lemmas.Bool.{eqb-true}
use Rattle.std.proofs.lemmas.List.Folds.{list_any-append}
use Rattle.std.proofs.lemmas.Option.{same_Some, none-some, slice_get-map}
use Rattle.py_tree.specs.declared.names.Place.{Place}
use Rattle.py_tree.specs.declared.rule.Rule.TheVariants.{Mismatch}
use Rattle.py_tree.specs.declared.rule.RuleFault.{RuleFault}
use Rattle.py_tree.specs.PlainTypes.{PlainTy, TInt, TBool, TList, TEntity}
use Rattle.py_tree.specs.PlainExpressions.{PlainExpr, PInt, PBool, PStr, PNil, PVar, PSelf, PAttr, PCall, PApply, PIndex, PList, PNeg, PPos, PNot, PChain, PAnd, POr, PCompare, PIsNone, PCond, PlainExprs, PNoExpr, PExpr, PLink, PlainLinks, PNoLink, PMoreLinks}
use Rattle.py_tree.specs.PlainProgram.{PlainMethod, PlainClass, PlainProgram}
use Rattle.py_tree.specs.ClassRules.{PlainSigParam, PlainSig, PlainTable, is_class, program_fault, methods_of, sig_of, table_of, tables_of}
use Rattle.py_tree.specs.Acceptance.{members_of, method_named}
use Rattle.py_tree.specs.FlowEnvironment.{PlainEnv, where_test}
use Rattle.py_tree.specs.ExpressionTypes.{Function, function_of, table_named, method_in, method_of, name_in, self_ty, with_found, fits, operand, place_of, count_of, right_wanted, combined, as_condition, applied, type_of, conditions, arguments, each_is, list_of, elements, linked, element_wanted, join, assignable}
use Rattle.call_graph.specs.declared.sites.Site.{Site}
use Rattle.call_graph.specs.declared.sites.Site.TheVariants.{Away}
use Rattle.call_graph.specs.Marks.{suspends, is_marked}
use Rattle.call_graph.specs.Suspending.{number_of, own_call, call, creation, sites, sites_in, sites_in_links, method_names}
use Rattle.call_graph.specs.SuspendingCode.{Leaving, method_leaves, leaving, expr_suspends, exprs_suspend, links_suspend}
use Rattle.program_meaning.specs.Evaluation.{method_of as method_number}
use Rattle.program_meaning.proofs.Places.{find_over, found_passes}
use Rattle.program_meaning.proofs.TableFacts.{then_found, map_found, mapped_at, matches, table_methods}
use Rattle.program_meaning.proofs.TypedParts.{found_ok, passes_ok, operand_ok, either_false, condition_ok, same_ok, typed_index, typed_call, typed_number, typed_compare, typed_none_test, typed_chain, typed_cond, typed_apply, type_given, typed_function, typed_creation}

pub neither : (a b : Bool) → a ≡ false → b ≡ false → (a || b) ≡ false
neither true b h k = absurd (true≢false h)
neither false b h k = k

entity_same : (a b : ℕ) → TEntity a ≡ TEntity b → a ≡ b
entity_same a b e = cc

-- what is among these has a place
placed : {A : Type 0} (p : A → Bool) (xs : List A) (i : ℕ) → list_any p xs ≡ true → (k : ℕ) × (position_from p i xs ≡ Some k)
placed p [] i h = absurd (true≢false (sym h))
placed p (x ∷ xs) i h = by (p x) h (placed p xs (i + 1))
  where
    by : (b : Bool) → (b || list_any p xs) ≡ true → (list_any p xs ≡ true → (k : ℕ) × (position_from p (i + 1) xs ≡ Some k)) → (k : ℕ) × (cond b (Some i) (position_from p (i + 1) xs) ≡ Some k)
    by true h rest = (i, refl)
    by false h rest = rest h

-- an item that is found is among these
among : {A : Type 0} (p : A → Bool) (xs : List A) (a : A) → find p xs ≡ Some a → list_any p xs ≡ true
among p [] a h = absurd (none-some a h)
among p (x ∷ xs) a h = by (p x) h (among p xs a)
  where
    by : (b : Bool) → cond b (Some x) (find p xs) ≡ Some a → (find p xs ≡ Some a → list_any p xs ≡ true) → (b || list_any p xs) ≡ true
    by true h rest = refl
    by false h rest = rest h

-- a place by names is that by the items that have them
over_names : {A : Type 0} (name : A → ℕ) (x : ℕ) (xs : List A) (i : ℕ) → position_from (λ m. m == x) i (over name xs) ≡ position_from (λ a. name a == x) i xs
over_names name x [] i = refl
over_names name x (a ∷ xs) i = ap (cond (name a == x) (Some i)) (over_names name x xs (i + 1))

any_at : {A : Type 0} (p : A → Bool) (xs : List A) (k : ℕ) (a : A) → slice_get xs k ≡ Some a → p a ≡ true → list_any p xs ≡ true
any_at p [] k a is h = absurd (none-some a is)
any_at p (x ∷ xs) zero a is h = ap (λ b. b || list_any p xs) (subst (λ y. p y ≡ true) (sym (same_Some _ _ is)) h)
any_at p (x ∷ xs) (suc k) a is h = by (p x) (any_at p xs k a is h)
  where
    by : (b : Bool) → list_any p xs ≡ true → (b || list_any p xs) ≡ true
    by true e = refl
    by false e = e

-- the class of this number, of a program that keeps the class rules, and the marks of the program
module _ (names : List (List ℕ)) (program : PlainProgram) (kept : program_fault names program ≡ None) (class : ℕ) (c : PlainClass) (is : slice_get program class ≡ Some c) (graph : List (List Bool)) where
  abbrev pub tables : List PlainTable
  tables = tables_of names program

  abbrev pub methods : List ℕ
  methods = method_names (methods_of names c.members)

  abbrev pub leaves : Leaving
  leaves = leaving names program graph class

  -- one of these suspends
  abbrev pub some_suspend : List Site → Bool
  some_suspend = list_any (suspends (slice_index_or graph class []))

  pub neither_suspends : (xs ys : List Site) → some_suspend (xs ++ ys) ≡ false → (some_suspend xs ≡ false) × (some_suspend ys ≡ false)
  neither_suspends xs ys h = either_false (some_suspend xs) (some_suspend ys) (sym (list_any-append (suspends (slice_index_or graph class [])) xs ys) ∙ h)

  table_here : slice_get tables class ≡ Some (table_of names c)
  table_here = slice_get-map (table_of names) program class ∙ ap (option_map (table_of names)) is

  -- a method that is found by its name on `self` is one of the class
  own_method : (x : ℕ) (m : PlainSig) → method_of tables (name_in (slice_get tables class)) x ≡ Some m → (j : ℕ) × (number_of methods x ≡ Some j) × (method_named names program class x ≡ Some j)
  unfolding method_of
  own_method x m h =
      let in_class : method_of tables (table_of names c).name x ≡ Some m = sym (ap (λ o. method_of tables (name_in o) x) table_here) ∙ h in
      let u : (u : PlainTable) × (table_named tables (table_of names c).name ≡ Some u) × (method_in u.methods x ≡ Some m) = then_found (λ u. method_in u.methods x) (table_named tables (table_of names c).name) m in_class in
      let named : (m.name == x) ≡ true = found_passes (λ (d : PlainSig). d.name == x) u.0.methods m u.2 in
      let at : slice_get (table_of names c).methods (method_number (record { program = program; names = names }) class x) ≡ Some m = (matches names program kept).methods class (table_of names c) x m table_here in_class in
      let d : (d : PlainMethod) × (slice_get (methods_of names c.members) (method_number (record { program = program; names = names }) class x) ≡ Some d) × (sig_of d ≡ m) =
      mapped_at sig_of (methods_of names c.members) (method_number (record { program = program; names = names }) class x) m (ap (λ sigs. slice_get sigs (method_number (record { program = program; names = names }) class x)) (sym (table_methods names program kept c)) ∙ at) in
      let there : list_any (λ (e : PlainMethod). e.name == x) (methods_of names c.members) ≡ true = any_at (λ (e : PlainMethod). e.name == x) (methods_of names c.members) (method_number (record { program = program; names = names }) class x) d.0 d.1 (ap (λ (s : PlainSig). s.name == x) d.2 ∙ named) in
      let j : (j : ℕ) × (position_from (λ (e : PlainMethod). e.name == x) 0 (methods_of names c.members) ≡ Some j) = placed (λ (e : PlainMethod). e.name == x) (methods_of names c.members) 0 there in
      (j.0, over_names (λ (e : PlainMethod). e.name) x (methods_of names c.members) 0 ∙ j.1, ap (λ o. position_from (λ (e : PlainMethod). e.name == x) 0 (methods_of names (members_of o))) is ∙ j.1)

  -- a table that is found by its name is that of a class
  named_class : (x : ℕ) (t : PlainTable) → table_named tables x ≡ Some t → is_class program x ≡ true
  unfolding table_named is_class table_of
  named_class x t h =
      let found : option_map (table_of names) (find (λ (d : PlainClass). d.name == x) program) ≡ Some t = sym (find_over (table_of names) (λ (u : PlainTable). u.name == x) program) ∙ h in
      let d : (d : PlainClass) × (find (λ (d : PlainClass). d.name == x) program ≡ Some d) × (table_of names d ≡ t) = map_found (table_of names) (find (λ (d : PlainClass). d.name == x) program) t found in
      among (λ (e : PlainClass). e.name == x) program d.0 d.1

  -- a call on `self` of a method of the class leaves where the method is marked
  call_stays : (on : PlainExpr) (x : ℕ) (env : PlainEnv) (number : ℕ) (m : PlainSig) → env.class ≡ class → type_of tables env None on ≡ Ok (TEntity number) → method_of tables number x ≡ Some m → some_suspend (call methods on x) ≡ false → leaves on x ≡ false
  unfolding call type_of self_ty
  call_stays (PSelf at) x env number m here typed found quiet =
      let named : name_in (slice_get tables class) ≡ number = ap (λ k. name_in (slice_get tables k)) (sym here) ∙ entity_same _ _ (same_ok _ _ typed) in
      let j : (j : ℕ) × (number_of methods x ≡ Some j) × (method_named names program class x ≡ Some j) = own_method x m (ap (λ n. method_of tables n x) named ∙ found) in
      ap (method_leaves graph class) j.2 ∙ sym (or-false (is_marked graph class j.0)) ∙ sym (ap (λ o. some_suspend (own_call o)) j.1) ∙ quiet
  call_stays _ x env number m here typed found quiet = absurd (true≢false quiet)

  -- a name that is no function's is a class's, and a creation suspends
  applied_stays : (f : Option Function) (at : Place) (x : ℕ) (args : PlainExprs) (env : PlainEnv) (ty : PlainTy)
      → applied f (table_named tables x) at (count_of args) (λ test result. each_is test tables env args result) (λ params result. arguments tables env args params result) ≡ Ok ty
      → some_suspend (creation program x) ≡ false → ((test : PlainTy → Bool) (result : PlainTy) → each_is test tables env args result ≡ Ok ty → exprs_suspend leaves args ≡ false) → (exprs_suspend leaves args || is_none f) ≡ false
  unfolding creation
  applied_stays (Some f) at x args env ty typed h operands =
      let a : (test : PlainTy → Bool) × (each_is test tables env args (type_given f) ≡ Ok ty) = typed_function (table_named tables x) at (count_of args) (λ test result. each_is test tables env args result) (λ params result. arguments tables env args params result) ty f typed in
      neither (exprs_suspend leaves args) false (operands a.0 (type_given f) a.1) refl
  applied_stays None at x args env ty typed h operands =
      let a : (t : PlainTable) × (table_named tables x ≡ Some t) × ((count_of args == length t.init) ≡ true) × (arguments tables env args t.init (TEntity t.name) ≡ Ok ty) = typed_creation (table_named tables x) at (count_of args) (λ test result. each_is test tables env args result) (λ params result. arguments tables env args params result) ty typed in
      absurd (true≢false (sym (ap (λ b. some_suspend (cond b (Away ∷ []) [])) (named_class x a.0 a.1)) ∙ h))

  mutual
    unfolding type_of where_test sites expr_suspends

    pub quiet : (e : PlainExpr) (env : PlainEnv) (wanted : Option PlainTy) (ty : PlainTy) → env.class ≡ class → type_of tables env wanted e ≡ Ok ty → some_suspend (sites program methods e) ≡ false → expr_suspends leaves e ≡ false
    quiet (PInt at n) env wanted ty here typed h = refl
    quiet (PBool at b) env wanted ty here typed h = refl
    quiet (PStr at text) env wanted ty here typed h = refl
    quiet (PNil at) env wanted ty here typed h = refl
    quiet (PVar at x) env wanted ty here typed h = refl
    quiet (PSelf at) env wanted ty here typed h = refl
    quiet (PAttr at on x x_at) env wanted ty here typed h = refl
    quiet (PCall at on x x_at args) env wanted ty here typed h =
        let a : (d : ℕ) × (m : PlainSig) × (type_of tables env None on ≡ Ok (TEntity d)) × (method_of tables d x ≡ Some m) × ((count_of args == length m.params) ≡ true) × (arguments tables env args m.params m.result ≡ Ok ty) = typed_call tables env wanted at ty on x x_at args typed in
        let p : (some_suspend (sites program methods on ++ sites_in program methods args) ≡ false) × (some_suspend (call methods on x) ≡ false) = neither_suspends (sites program methods on ++ sites_in program methods args) (call methods on x) h in
        let q : (some_suspend (sites program methods on) ≡ false) × (some_suspend (sites_in program methods args) ≡ false) = neither_suspends (sites program methods on) (sites_in program methods args) p.0 in
        neither (expr_suspends leaves on || exprs_suspend leaves args) (leaves on x)
        (neither (expr_suspends leaves on) (exprs_suspend leaves args) (quiet on env None (TEntity a.0) here a.2 q.0) (quiet_arguments args env a.1.params a.1.result ty here (eqb-true (count_of args) (length a.1.params) a.4) a.5 q.1))
        (call_stays on x env a.0 a.1 here a.2 a.3 p.1)
    quiet (PApply at x args) env wanted ty here typed h =
        let p : (some_suspend (sites_in program methods args) ≡ false) × (some_suspend (creation program x) ≡ false) = neither_suspends (sites_in program methods args) (creation program x) h in
        applied_stays (function_of x) at x args env ty (typed_apply tables env wanted at ty x args typed) p.1 (λ test result typed. quiet_operands args env test result ty here typed p.0)
    quiet (PIndex at on index) env wanted ty here typed h =
        let a : (type_of tables env None on ≡ Ok (TList ty)) × (type_of tables env None index ≡ Ok TInt) = typed_index tables env wanted at ty on index typed in
        let p : (some_suspend (sites program methods on) ≡ false) × (some_suspend (sites program methods index) ≡ false) = neither_suspends (sites program methods on) (sites program methods index) h in
        neither (expr_suspends leaves on) (expr_suspends leaves index) (quiet on env None (TList ty) here a.0 p.0) (quiet index env None TInt here a.1 p.1)
    quiet (PList at items) env wanted ty here typed h = quiet_list items env (option_and_then element_wanted wanted) at ty here typed h
    quiet (PNeg at a) env wanted ty here typed h = quiet a env None TInt here (typed_number tables env wanted at ty a typed).0 h
    quiet (PPos at a) env wanted ty here typed h = quiet a env None TInt here (typed_number tables env wanted at ty a typed).0 h
    quiet (PNot at a) env wanted ty here typed h = quiet a env None TBool here (condition_ok (place_of a) (type_of tables env None a) ty typed).0 h
    quiet (PChain at first links) env wanted ty here typed h =
        let a : (t : PlainTy) × (type_of tables env None first ≡ Ok t) × (linked tables env t links ≡ Ok ty) = typed_chain tables env wanted at ty first links typed in
        let p : (some_suspend (sites program methods first) ≡ false) × (some_suspend (sites_in_links program methods links) ≡ false) = neither_suspends (sites program methods first) (sites_in_links program methods links) h in
        neither (expr_suspends leaves first) (links_suspend leaves links) (quiet first env None a.0 here a.1 p.0) (quiet_links links env a.0 ty here a.2 p.1)
    quiet (PAnd at items) env wanted ty here typed h = quiet_conditions true items env ty here typed h
    quiet (POr at items) env wanted ty here typed h = quiet_conditions false items env ty here typed h
    quiet (PCompare at op op_at left right) env wanted ty here typed h =
        let a : (s : PlainTy) × (t : PlainTy) × (type_of tables env None left ≡ Ok s) × (type_of tables env None right ≡ Ok t) × (ty ≡ TBool) = typed_compare tables env wanted at ty op op_at left right typed in
        let p : (some_suspend (sites program methods left) ≡ false) × (some_suspend (sites program methods right) ≡ false) = neither_suspends (sites program methods left) (sites program methods right) h in
        neither (expr_suspends leaves left) (expr_suspends leaves right) (quiet left env None a.0 here a.2 p.0) (quiet right env None a.1 here a.3 p.1)
    quiet (PIsNone at a positive) env wanted ty here typed h =
        let t : (t : PlainTy) × (type_of tables env None a ≡ Ok t) × (ty ≡ TBool) = typed_none_test tables env wanted at ty a positive typed in
        quiet a env None t.0 here t.1 h
    quiet (PCond at test a b) env wanted ty here typed h =
        let t : (s : PlainTy) × (t : PlainTy) × (type_of tables env None test ≡ Ok TBool) × (type_of tables (where_test true test env) wanted a ≡ Ok s) × (type_of tables (where_test false test env) wanted b ≡ Ok t) × (join s t ≡ Some ty) = typed_cond tables env wanted at ty test a b typed in
        let p : (some_suspend (sites program methods test ++ sites program methods a) ≡ false) × (some_suspend (sites program methods b) ≡ false) = neither_suspends (sites program methods test ++ sites program methods a) (sites program methods b) h in
        let q : (some_suspend (sites program methods test) ≡ false) × (some_suspend (sites program methods a) ≡ false) = neither_suspends (sites program methods test) (sites program methods a) p.0 in
        neither (expr_suspends leaves test) (expr_suspends leaves a || expr_suspends leaves b) (quiet test env None TBool here t.2 q.0)
        (neither (expr_suspends leaves a) (expr_suspends leaves b) (quiet a (where_test true test env) wanted t.0 here t.3 q.1) (quiet b (where_test false test env) wanted t.1 here t.4 p.1))

    quiet_arguments : (xs : PlainExprs) (env : PlainEnv) (params : List PlainSigParam) (result ty : PlainTy) → env.class ≡ class → count_of xs ≡ length params → arguments tables env xs params result ≡ Ok ty → some_suspend (sites_in program methods xs) ≡ false → exprs_suspend leaves xs ≡ false
    quiet_arguments PNoExpr env params result ty here count typed h = refl
    quiet_arguments (PExpr x xs) env [] result ty here count typed h = absurd (omega (arith, count))
    quiet_arguments (PExpr x xs) env (q ∷ ps) result ty here count typed h =
        let a : (t : PlainTy) × (type_of tables env (Some q.ty) x ≡ Ok t) × (fits t q.ty (place_of x) (arguments tables env xs ps result) ≡ Ok ty) = found_ok (type_of tables env (Some q.ty) x) (λ t. fits t q.ty (place_of x) (arguments tables env xs ps result)) ty typed in
        let b : (assignable a.0 q.ty ≡ true) × (arguments tables env xs ps result ≡ Ok ty) = passes_ok (assignable a.0 q.ty) Mismatch (place_of x) (arguments tables env xs ps result) ty a.2 in
        let p : (some_suspend (sites program methods x) ≡ false) × (some_suspend (sites_in program methods xs) ≡ false) = neither_suspends (sites program methods x) (sites_in program methods xs) h in
        let left : count_of xs ≡ length ps = omega (arith, count) in
        neither (expr_suspends leaves x) (exprs_suspend leaves xs) (quiet x env (Some q.ty) a.0 here a.1 p.0) (quiet_arguments xs env ps result ty here left b.1 p.1)

    quiet_operands : (xs : PlainExprs) (env : PlainEnv) (test : PlainTy → Bool) (result ty : PlainTy) → env.class ≡ class → each_is test tables env xs result ≡ Ok ty → some_suspend (sites_in program methods xs) ≡ false → exprs_suspend leaves xs ≡ false
    quiet_operands PNoExpr env test result ty here typed h = refl
    quiet_operands (PExpr x xs) env test result ty here typed h =
        let a : (t : PlainTy) × (type_of tables env None x ≡ Ok t) × (operand t test (place_of x) (each_is test tables env xs result) ≡ Ok ty) = found_ok (type_of tables env None x) (λ t. operand t test (place_of x) (each_is test tables env xs result)) ty typed in
        let p : (some_suspend (sites program methods x) ≡ false) × (some_suspend (sites_in program methods xs) ≡ false) = neither_suspends (sites program methods x) (sites_in program methods xs) h in
        neither (expr_suspends leaves x) (exprs_suspend leaves xs) (quiet x env None a.0 here a.1 p.0) (quiet_operands xs env test result ty here (operand_ok a.0 test (place_of x) (each_is test tables env xs result) ty a.2).1 p.1)

    quiet_list : (xs : PlainExprs) (env : PlainEnv) (wanted : Option PlainTy) (at : Place) (ty : PlainTy) → env.class ≡ class → list_of tables env wanted at xs ≡ Ok ty → some_suspend (sites_in program methods xs) ≡ false → exprs_suspend leaves xs ≡ false
    quiet_list PNoExpr env wanted at ty here typed h = refl
    quiet_list (PExpr x xs) env None at ty here typed h =
        let a : (t : PlainTy) × (type_of tables env None x ≡ Ok t) × (elements tables env t xs ≡ Ok ty) = found_ok (type_of tables env None x) (λ t. elements tables env t xs) ty typed in
        let p : (some_suspend (sites program methods x) ≡ false) × (some_suspend (sites_in program methods xs) ≡ false) = neither_suspends (sites program methods x) (sites_in program methods xs) h in
        neither (expr_suspends leaves x) (exprs_suspend leaves xs) (quiet x env None a.0 here a.1 p.0) (quiet_elements xs env a.0 ty here a.2 p.1)
    quiet_list (PExpr x xs) env (Some e) at ty here typed h =
        let a : (t : PlainTy) × (type_of tables env (Some e) x ≡ Ok t) × (fits t e (place_of x) (elements tables env e xs) ≡ Ok ty) = found_ok (type_of tables env (Some e) x) (λ t. fits t e (place_of x) (elements tables env e xs)) ty typed in
        let b : (assignable a.0 e ≡ true) × (elements tables env e xs ≡ Ok ty) = passes_ok (assignable a.0 e) Mismatch (place_of x) (elements tables env e xs) ty a.2 in
        let p : (some_suspend (sites program methods x) ≡ false) × (some_suspend (sites_in program methods xs) ≡ false) = neither_suspends (sites program methods x) (sites_in program methods xs) h in
        neither (expr_suspends leaves x) (exprs_suspend leaves xs) (quiet x env (Some e) a.0 here a.1 p.0) (quiet_elements xs env e ty here b.1 p.1)

    quiet_elements : (xs : PlainExprs) (env : PlainEnv) (element ty : PlainTy) → env.class ≡ class → elements tables env element xs ≡ Ok ty → some_suspend (sites_in program methods xs) ≡ false → exprs_suspend leaves xs ≡ false
    quiet_elements PNoExpr env e ty here typed h = refl
    quiet_elements (PExpr x xs) env e ty here typed h =
        let a : (t : PlainTy) × (type_of tables env (Some e) x ≡ Ok t) × (fits t e (place_of x) (elements tables env e xs) ≡ Ok ty) = found_ok (type_of tables env (Some e) x) (λ t. fits t e (place_of x) (elements tables env e xs)) ty typed in
        let b : (assignable a.0 e ≡ true) × (elements tables env e xs ≡ Ok ty) = passes_ok (assignable a.0 e) Mismatch (place_of x) (elements tables env e xs) ty a.2 in
        let p : (some_suspend (sites program methods x) ≡ false) × (some_suspend (sites_in program methods xs) ≡ false) = neither_suspends (sites program methods x) (sites_in program methods xs) h in
        neither (expr_suspends leaves x) (exprs_suspend leaves xs) (quiet x env (Some e) a.0 here a.1 p.0) (quiet_elements xs env e ty here b.1 p.1)

    quiet_links : (ls : PlainLinks) (env : PlainEnv) (left ty : PlainTy) → env.class ≡ class → linked tables env left ls ≡ Ok ty → some_suspend (sites_in_links program methods ls) ≡ false → links_suspend leaves ls ≡ false
    quiet_links PNoLink env left ty here typed h = refl
    quiet_links (PMoreLinks (PLink op at right) ls) env left ty here typed h =
        let then_linked : PlainTy → Result PlainTy RuleFault = λ both. linked tables env both ls in
        let a : (t : PlainTy) × (type_of tables env (right_wanted op left) right ≡ Ok t) × (with_found (combined op at left t) then_linked ≡ Ok ty) = found_ok (type_of tables env (right_wanted op left) right) (λ t. with_found (combined op at left t) then_linked) ty typed in
        let b : (both : PlainTy) × (combined op at left a.0 ≡ Ok both) × (then_linked both ≡ Ok ty) = found_ok (combined op at left a.0) then_linked ty a.2 in
        let p : (some_suspend (sites program methods right) ≡ false) × (some_suspend (sites_in_links program methods ls) ≡ false) = neither_suspends (sites program methods right) (sites_in_links program methods ls) h in
        neither (expr_suspends leaves right) (links_suspend leaves ls) (quiet right env (right_wanted op left) a.0 here a.1 p.0) (quiet_links ls env b.0 ty here b.2 p.1)

    quiet_conditions : (truth : Bool) (xs : PlainExprs) (env : PlainEnv) (ty : PlainTy) → env.class ≡ class → conditions tables env truth xs ≡ Ok ty → some_suspend (sites_in program methods xs) ≡ false → exprs_suspend leaves xs ≡ false
    quiet_conditions truth PNoExpr env ty here typed h = refl
    quiet_conditions truth (PExpr x xs) env ty here typed h =
        let a : (t : PlainTy) × (as_condition (place_of x) (type_of tables env None x) ≡ Ok t) × (conditions tables (where_test truth x env) truth xs ≡ Ok ty) = found_ok (as_condition (place_of x) (type_of tables env None x)) (λ t. conditions tables (where_test truth x env) truth xs) ty typed in
        let p : (some_suspend (sites program methods x) ≡ false) × (some_suspend (sites_in program methods xs) ≡ false) = neither_suspends (sites program methods x) (sites_in program methods xs) h in
        neither (expr_suspends leaves x) (exprs_suspend leaves xs) (quiet x env None TBool here (condition_ok (place_of x) (type_of tables env None x) a.0 a.1).0 p.0) (quiet_conditions truth xs (where_test truth x env) ty here a.2 p.1)

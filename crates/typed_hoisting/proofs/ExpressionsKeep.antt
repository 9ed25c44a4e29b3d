-- Every expression keeps the rules where calls come out of it.
use Rattle.std.proofs.Common.{◌≡◌, ◌≤◌, arith, ℕ, Bool, true, false, not, Option, None, Ok, List, [], refl, sym, ap, ◌∙◌, subst, true≢false}
use Rattle.py_tree.specs.declared.names.Place.{Place}
use Rattle.py_tree.specs.Bounded.{ExprNames, ExprsNames, LinksNames}
use Rattle.py_tree.specs.PlainTypes.{PlainTy, TInt, TBool, TList}
use Rattle.py_tree.specs.PlainProgram.{PlainProgram}
use Rattle.py_tree.specs.Acceptance.{method_named}
use Rattle.py_tree.specs.ClassRules.{is_self}
use Rattle.py_tree.specs.FlowEnvironment.{PlainLocal, has_name, shown, shown_by_each, narrowed, where_test, variable_in}
use Rattle.py_tree.specs.PlainExpressions.{PlainExpr, PInt, PBool, PStr, PNil, PVar, PSelf, PAttr, PCall, PApply, PIndex, PList, PNeg, PPos, PNot, PChain, PAnd, POr, PCompare, PIsNone, PCond, PlainExprs, PNoExpr, PExpr, PlainLinks, PLink, PNoLink, PMoreLinks}
use Rattle.py_tree.specs.ExpressionTypes.{conditions, assignable, type_of}
use Rattle.py_tree.specs.Flow.{Context, env_of, type_at}
use Rattle.call_graph.specs.SuspendingCode.{Leaving, leaving, method_leaves, expr_suspends}
use Rattle.program_meaning.proofs.TypedParts.{not_false, either_false, typed_index, typed_number, typed_none_test, typed_cond, conditions_result}
use Rattle.flat_tree.specs.PlainFlat.{FAnd, FOr, PlainFlatTest}
use Rattle.hoisting.specs.Stages.{Stage, surely, where_shown, ty_at, found_ty}
use Rattle.hoisting.specs.HoistExpressions.{Hoisted, Tested, Forms, by_value, made_of, chosen, truth_of, taken, taken_operands, forms}
use Rattle.typed_hoisting.specs.KnownLocals.{Free}
use Rattle.typed_hoisting.specs.TypedHoisting.{Around, Typed, Good, GoodTest, GoodForms, ExpressionsKeepTheRules, IsTyped, ValueFits, TestFits, FormsFit, ExpressionsFit}
use Rattle.typed_hoisting.proofs.PointLaws.{supplies}
use Rattle.flat_types.specs.FlatTypes.{Nowhere, Supplies}
use Rattle.block_code.specs.PlainVars.{PlainVar}
use Rattle.typed_hoisting.proofs.Assignable.{join_suits}
use Rattle.typed_hoisting.proofs.EnvironmentLaws.{free_narrowed}
use Rattle.typed_hoisting.proofs.GoodParts.{numbered_up, built_good, by_value_good, still_forms, forms_if_good}
use Rattle.typed_hoisting.proofs.GoodTests.{asked_of_each, not_test, no_and, no_or, and_more, or_more, and_test, or_test, chosen_good, truth_good}
use Rattle.typed_hoisting.proofs.TypedKinds.{shows_nothing, none_shows, neg_typed, pos_typed, not_parts, not_typed, none_typed, condition_parts, and_parts, or_parts_of, compare_parts, compare_typed, index_typed, chain_alone, alone_typed}
use Rattle.typed_hoisting.proofs.CallsKeep.{part, GoodExpr, GoodTaken, GoodEach, no_expr, each_step, two_good, Own, call_step}
use Rattle.typed_hoisting.proofs.OthersKeep.{apply_step, list_step, GoodLinks, link_step, chain_step}

module _ (c : Context) (leaves : Leaving) (own : Own leaves) (limit : ℕ) where
  abbrev G : PlainExpr → Type 1
  G e = GoodExpr c leaves limit e

  as_part : (e : PlainExpr) → ExprNames limit e → GoodTaken c leaves limit e → G e
  as_part e named good = forms_if_good c leaves limit e (taken leaves c e) named good

  -- `and` and `or`

  abbrev GoodAnd : PlainExprs → Type 1
  GoodAnd items =
      (h : Stage) → limit ≤ h.next → Free h.next h.locals → conditions c.tables (env_of c h.locals) true items ≡ Ok TBool
      → GoodTest c leaves h (asked_of_each c leaves true (taken_operands leaves c true items h).test) (taken_operands leaves c true items h).next (narrowed (shown_by_each true items) h.locals) h.locals

  abbrev GoodOr : PlainExprs → Type 1
  GoodOr items =
      (h : Stage) → limit ≤ h.next → Free h.next h.locals → conditions c.tables (env_of c h.locals) false items ≡ Ok TBool
      → GoodTest c leaves h (asked_of_each c leaves false (taken_operands leaves c false items h).test) (taken_operands leaves c false items h).next h.locals (narrowed (shown_by_each false items) h.locals)

  and_none : GoodAnd PNoExpr
  unfolding taken
  and_none h below free is = no_and c leaves h

  or_none : GoodOr PNoExpr
  unfolding taken
  or_none h below free is = no_or c leaves h

  and_step : (x : PlainExpr) (xs : PlainExprs) → G x → GoodAnd xs → GoodAnd (PExpr x xs)
  unfolding taken
  and_step x xs first rest h below free is =
      let p = condition_parts c leaves true h.locals x xs is in
      let t : Tested PlainFlatTest = (forms leaves c x).test h in
      let ga = first.test h below free p.0 in
      let on : h.next ≤ t.next = numbered_up h.next ga.made t.next ga.numbered in
      let g : Stage = where_shown true x h.locals t.next in
      and_more c leaves h free x xs t (taken_operands leaves c true xs g) ga (rest g (omega (arith, below, on)) (free_narrowed h.next t.next (shown true x) h.locals on free) p.1)

  or_step : (x : PlainExpr) (xs : PlainExprs) → G x → GoodOr xs → GoodOr (PExpr x xs)
  unfolding taken
  or_step x xs first rest h below free is =
      let p = condition_parts c leaves false h.locals x xs is in
      let t : Tested PlainFlatTest = (forms leaves c x).test h in
      let ga = first.test h below free p.0 in
      let on : h.next ≤ t.next = numbered_up h.next ga.made t.next ga.numbered in
      let g : Stage = where_shown false x h.locals t.next in
      or_more c leaves h free x xs t (taken_operands leaves c false xs g) ga (rest g (omega (arith, below, on)) (free_narrowed h.next t.next (shown false x) h.locals on free) p.1)

  and_good : (at : Place) (items : PlainExprs) → GoodAnd items → GoodTaken c leaves limit (PAnd at items)
  unfolding taken
  and_good at items good = record {
    value = λ wanted h ty below free is.
        let all : conditions c.tables (env_of c h.locals) true items ≡ Ok ty = and_parts c leaves h.locals wanted at items ty is in
        let same : TBool ≡ ty = conditions_result c.tables (env_of c h.locals) true items ty all in
        let t : Tested PlainFlatTest = made_of FAnd (taken_operands leaves c true items h) in
        subst (λ s. Good c leaves h (truth_of at h.locals (PAnd at items) t) (Typed c leaves wanted s)) same (truth_good c leaves h free at (PAnd at items) t wanted (and_test c leaves h at items (taken_operands leaves c true items h) (good h below free (all ∙ ap Ok (sym same)))));
    test = λ h below free is. and_test c leaves h at items (taken_operands leaves c true items h) (good h below free (and_parts c leaves h.locals None at items TBool is));
  }

  or_good : (at : Place) (items : PlainExprs) → GoodOr items → GoodTaken c leaves limit (POr at items)
  unfolding taken
  or_good at items good = record {
    value = λ wanted h ty below free is.
        let all : conditions c.tables (env_of c h.locals) false items ≡ Ok ty = or_parts_of c leaves h.locals wanted at items ty is in
        let same : TBool ≡ ty = conditions_result c.tables (env_of c h.locals) false items ty all in
        let t : Tested PlainFlatTest = made_of FOr (taken_operands leaves c false items h) in
        subst (λ s. Good c leaves h (truth_of at h.locals (POr at items) t) (Typed c leaves wanted s)) same (truth_good c leaves h free at (POr at items) t wanted (or_test c leaves h at items (taken_operands leaves c false items h) (good h below free (all ∙ ap Ok (sym same)))));
    test = λ h below free is. or_test c leaves h at items (taken_operands leaves c false items h) (good h below free (or_parts_of c leaves h.locals None at items TBool is));
  }

  not_good : (at : Place) (a : PlainExpr) → G a → GoodTaken c leaves limit (PNot at a)
  unfolding taken
  not_good at a good = record {
    value = λ wanted h ty below free is.
        let p = not_parts c leaves h.locals wanted at a ty is in
        built_good c leaves h (part c leaves limit a None h) (PNot at) (Typed c leaves wanted ty) (good.value None h TBool below free p.0) (λ there x. not_typed c leaves there wanted at _ ty p.1 x);
    test = λ h below free is. not_test c leaves h at a ((forms leaves c a).test h) (good.test h below free (not_parts c leaves h.locals None at a TBool is).0);
  }

  -- Conditionals

  cond_parts : (locals : List PlainLocal) (wanted : Option PlainTy) (at : Place) (test a b : PlainExpr) (ty : PlainTy) → type_at c locals wanted (PCond at test a b) ≡ Ok ty
      → (s : PlainTy) × (u : PlainTy) × (type_at c locals None test ≡ Ok TBool) × (type_at c (narrowed (shown true test) locals) wanted a ≡ Ok s) × (type_at c (narrowed (shown false test) locals) wanted b ≡ Ok u) × (assignable s ty ≡ true) × (assignable u ty ≡ true)
  unfolding where_test
  cond_parts locals wanted at test a b ty is =
      let p = typed_cond c.tables (env_of c locals) wanted at ty test a b is in
      let fit = join_suits p.0 p.1 ty p.5 in
      (p.0, p.1, p.2, p.3, p.4, fit.0, fit.1)

  cond_value : (at : Place) (test a b : PlainExpr) → G test → G a → G b → (wanted : Option PlainTy) (h : Stage) (ty : PlainTy) → limit ≤ h.next → Free h.next h.locals → type_at c h.locals wanted (PCond at test a b) ≡ Ok ty
      → Good c leaves h (chosen at (ty_at c wanted h.locals (PCond at test a b)) h.locals test ((forms leaves c test).test h) (λ g. part c leaves limit a wanted g) (λ g. part c leaves limit b wanted g)) (Typed c leaves wanted ty)
  cond_value at test a b good_test good_a good_b wanted h ty below free is =
      let p = cond_parts h.locals wanted at test a b ty is in
      let t : Tested PlainFlatTest = (forms leaves c test).test h in
      let gt = good_test.test h below free p.2 in
      let on : h.next ≤ t.next = numbered_up h.next gt.made t.next gt.numbered in
      let y : Stage = where_shown true test h.locals t.next in
      let ga : Good c leaves y (part c leaves limit a wanted y) (Typed c leaves wanted p.0) = good_a.value wanted y p.0 (omega (arith, below, on)) (free_narrowed h.next t.next (shown true test) h.locals on free) p.3 in
      let next : ℕ = (part c leaves limit a wanted y).stage.next in
      let on2 : t.next ≤ next = numbered_up t.next ga.made next ga.numbered in
      let n : Stage = where_shown false test h.locals next in
      let gb : Good c leaves n (part c leaves limit b wanted n) (Typed c leaves wanted p.1) = good_b.value wanted n p.1 (omega (arith, below, on, on2)) (free_narrowed h.next next (shown false test) h.locals (omega (arith, on, on2)) free) p.4 in
      subst (λ s. Good c leaves h (chosen at s h.locals test t (λ g. part c leaves limit a wanted g) (λ g. part c leaves limit b wanted g)) (Typed c leaves wanted ty)) (sym (ap found_ty is))
      (chosen_good c leaves h free at ty test t (λ g. part c leaves limit a wanted g) (λ g. part c leaves limit b wanted g) wanted p.0 p.1 gt ga gb p.5 p.6)

  -- `is None`: a variable stays
  variable_stays : (a : PlainExpr) (h : Stage) (x : ℕ) → has_name (variable_in a) x ≡ true → has_name (variable_in (part c leaves limit a None h).rest) x ≡ true
  unfolding expr_suspends has_name
  variable_stays (PVar at n) h x is = is
  variable_stays _ h x is = absurd (true≢false (sym is))

  -- Signs

  neg_parts : (locals : List PlainLocal) (wanted : Option PlainTy) (at : Place) (a : PlainExpr) (ty : PlainTy) → type_at c locals wanted (PNeg at a) ≡ Ok ty → (type_at c locals None a ≡ Ok TInt) × (ty ≡ TInt)
  unfolding type_of
  neg_parts locals wanted at a ty is = typed_number c.tables (env_of c locals) wanted at ty a is

  pos_parts : (locals : List PlainLocal) (wanted : Option PlainTy) (at : Place) (a : PlainExpr) (ty : PlainTy) → type_at c locals wanted (PPos at a) ≡ Ok ty → (type_at c locals None a ≡ Ok TInt) × (ty ≡ TInt)
  unfolding type_of
  pos_parts locals wanted at a ty is = typed_number c.tables (env_of c locals) wanted at ty a is

  -- an expression by its value, which shows nothing
  silent_good : (e : PlainExpr) (value : Option PlainTy → Stage → Hoisted PlainExpr)
      → ((wanted : Option PlainTy) (h : Stage) (ty : PlainTy) → limit ≤ h.next → Free h.next h.locals → type_at c h.locals wanted e ≡ Ok ty → Good c leaves h (value wanted h) (Typed c leaves wanted ty))
      → ((truth : Bool) → shown truth e ≡ []) → GoodForms c leaves limit e (by_value value)
  silent_good e value good none = by_value_good c leaves limit e value good (λ h. shows_nothing e (value None h).rest none)

  no_links : GoodLinks c leaves limit PNoLink
  unfolding taken
  no_links t ty h at r below typed g = g

  mutual
    unfolding taken ExprNames expr_suspends shown

    taken_keeps : (e : PlainExpr) → ExprNames limit e → GoodTaken c leaves limit e
    taken_keeps (PInt at n) named = still_forms c leaves limit (PInt at n) named refl
    taken_keeps (PBool at n) named = still_forms c leaves limit (PBool at n) named refl
    taken_keeps (PStr at n) named = still_forms c leaves limit (PStr at n) named refl
    taken_keeps (PNil at) named = still_forms c leaves limit (PNil at) named refl
    taken_keeps (PVar at x) named = still_forms c leaves limit (PVar at x) named refl
    taken_keeps (PSelf at) named = still_forms c leaves limit (PSelf at) named refl
    taken_keeps (PAttr at on x x_at) named = still_forms c leaves limit (PAttr at on x x_at) named refl
    taken_keeps (PCall at on name name_at args) named =
        silent_good (PCall at on name name_at args) _ (call_step c leaves limit own at on name name_at args named.2 (as_part on named.0 (taken_keeps on named.0)) (each_keeps args named.2))
        (λ b. refl)
    taken_keeps (PApply at name args) named =
        silent_good (PApply at name args) _ (λ wanted h ty below free is. apply_step c leaves limit at name args named.1 (each_keeps args named.1) wanted h below free ty is)
        (λ b. refl)
    taken_keeps (PIndex at on index) named =
        silent_good (PIndex at on index) _
        (λ wanted h ty below free is.
        let p = typed_index c.tables (env_of c h.locals) wanted at ty on index is in
        two_good c leaves limit h below free on index named.1 (as_part on named.0 (taken_keeps on named.0)) (as_part index named.1 (taken_keeps index named.1)) (TList ty) TInt p.0 p.1 (PIndex at) (Typed c leaves wanted ty)
        (λ there x y a b. index_typed c leaves there wanted at x y ty a b))
        (λ b. refl)
    taken_keeps (PList at items) named = silent_good (PList at items) _ (list_step c leaves limit at items (each_keeps items named)) (λ b. refl)
    taken_keeps (PNeg at a) named =
        silent_good (PNeg at a) _
        (λ wanted h ty below free is.
        let p = neg_parts h.locals wanted at a ty is in
        built_good c leaves h (part c leaves limit a None h) (PNeg at) (Typed c leaves wanted ty) ((as_part a named (taken_keeps a named)).value None h TInt below free p.0) (λ there x. neg_typed c leaves there wanted at _ ty p.1 x))
        (λ b. refl)
    taken_keeps (PPos at a) named =
        silent_good (PPos at a) _
        (λ wanted h ty below free is.
        let p = pos_parts h.locals wanted at a ty is in
        built_good c leaves h (part c leaves limit a None h) (PPos at) (Typed c leaves wanted ty) ((as_part a named (taken_keeps a named)).value None h TInt below free p.0) (λ there x. pos_typed c leaves there wanted at _ ty p.1 x))
        (λ b. refl)
    taken_keeps (PNot at a) named = not_good at a (as_part a named (taken_keeps a named))
    taken_keeps (PChain at first PNoLink) named =
        silent_good (PChain at first PNoLink) _
        (λ wanted h ty below free is.
        built_good c leaves h (part c leaves limit first None h) (λ r. PChain at r PNoLink) (Typed c leaves wanted ty) ((as_part first named.0 (taken_keeps first named.0)).value None h ty below free (chain_alone c leaves h.locals wanted at first ty is))
        (λ there x. alone_typed c leaves there wanted at _ ty x))
        (λ b. refl)
    taken_keeps (PChain at first (PMoreLinks l more)) named =
        silent_good (PChain at first (PMoreLinks l more)) _ (chain_step c leaves limit at first l more (as_part first named.0 (taken_keeps first named.0)) (links_keep (PMoreLinks l more) named.1))
        (λ b. refl)
    taken_keeps (PAnd at items) named = and_good at items (ands_keep items named)
    taken_keeps (POr at items) named = or_good at items (ors_keep items named)
    taken_keeps (PCompare at op op_at left right) named =
        silent_good (PCompare at op op_at left right) _
        (λ wanted h ty below free is.
        let p = compare_parts c leaves h.locals wanted at op op_at left right ty is in
        two_good c leaves limit h below free left right named.1 (as_part left named.0 (taken_keeps left named.0)) (as_part right named.1 (taken_keeps right named.1)) p.0 p.1 p.2 p.3 (PCompare at op op_at) (Typed c leaves wanted ty)
        (λ there x y a b. compare_typed c leaves there wanted at op op_at right x y p.0 p.1 ty p.4 a b))
        (λ b. refl)
    taken_keeps (PIsNone at a positive) named =
        by_value_good c leaves limit (PIsNone at a positive) _
        (λ wanted h ty below free is.
        let p = typed_none_test c.tables (env_of c h.locals) wanted at ty a positive is in
        built_good c leaves h (part c leaves limit a None h) (λ r. PIsNone at r positive) (Typed c leaves wanted ty) ((as_part a named (taken_keeps a named)).value None h p.0 below free p.1) (λ there x. none_typed c leaves there wanted at _ positive p.0 ty p.2 x))
        (λ h. none_shows at a (part c leaves limit a None h).rest positive (variable_stays a h))
    taken_keeps (PCond at test a b) named =
        silent_good (PCond at test a b) _ (cond_value at test a b (as_part test named.0 (taken_keeps test named.0)) (as_part a named.1 (taken_keeps a named.1)) (as_part b named.2 (taken_keeps b named.2)))
        (λ b. refl)

    each_keeps : (es : PlainExprs) → ExprsNames limit es → GoodEach c leaves limit es
    each_keeps PNoExpr named = λ wanted ts h below free typed. no_expr c leaves limit wanted ts h free typed
    each_keeps (PExpr x xs) named = λ wanted ts h below free typed. each_step c leaves limit x xs named.1 (as_part x named.0 (taken_keeps x named.0)) (each_keeps xs named.1) wanted ts h below free typed

    links_keep : (ls : PlainLinks) → LinksNames limit ls → GoodLinks c leaves limit ls
    links_keep PNoLink named = no_links
    links_keep (PMoreLinks (PLink op op_at right) more) named = link_step c leaves limit op op_at right more named.0 (as_part right named.0 (taken_keeps right named.0)) (links_keep more named.1)

    ands_keep : (items : PlainExprs) → ExprsNames limit items → GoodAnd items
    ands_keep PNoExpr named = and_none
    ands_keep (PExpr x xs) named = and_step x xs (as_part x named.0 (taken_keeps x named.0)) (ands_keep xs named.1)

    ors_keep : (items : PlainExprs) → ExprsNames limit items → GoodOr items
    ors_keep PNoExpr named = or_none
    ors_keep (PExpr x xs) named = or_step x xs (as_part x named.0 (taken_keeps x named.0)) (ors_keep xs named.1)

  pub each_expression_keeps : (e : PlainExpr) → ExprNames limit e → GoodForms c leaves limit e (forms leaves c e)
  each_expression_keeps e named = as_part e named (taken_keeps e named)

-- by the marks of a program only calls on `self` stay
pub own_by_marks : (names : List (List ℕ)) (program : PlainProgram) (marks : List (List Bool)) (class : ℕ) → Own (leaving names program marks class)
own_by_marks names program marks class on name h = not_false (is_self on) (either_false (not (is_self on)) (method_leaves marks class (method_named names program class name)) h).0

pub expressions_keep_the_rules : ExpressionsKeepTheRules
expressions_keep_the_rules names program marks class c limit e named = each_expression_keeps c (leaving names program marks class) (own_by_marks names program marks class) limit e named

-- Where there is neither a loop nor a clause around

module _ (c : Context) (leaves : Leaving) (limit : ℕ) (e : PlainExpr) (both : Forms) (good : GoodForms c leaves limit e both) where
  abbrev outside : List PlainVar → Around
  outside variables = record { variables = variables; caught = []; breaks = Nowhere; continues = Nowhere }

  value_fits : (wanted : Option PlainTy) (h : Stage) (ty : PlainTy) → limit ≤ h.next → Free h.next h.locals → type_at c h.locals wanted e ≡ Ok ty → ValueFits c leaves h (both.value wanted h) ty
  value_fits wanted h ty below free is =
      let a : Hoisted PlainExpr = both.value wanted h in
      let g : Good c leaves h a (Typed c leaves wanted ty) = good.value wanted h ty below free is in
      record {
        made = g.made;
        numbered = g.numbered;
        points = g.points;
        fits = λ variables among env stands. g.before (outside variables) among env stands (λ env least. tt) (IsTyped c leaves a.rest ty) (λ after there. record { wanted = wanted; typed = (g.rest after there.alike).0; stays = (g.rest after there.alike).1 });
      }

  test_fits_so : (h : Stage) → limit ≤ h.next → Free h.next h.locals → type_at c h.locals None e ≡ Ok TBool → TestFits c leaves h (both.test h) (narrowed (shown true e) h.locals) (narrowed (shown false e) h.locals)
  test_fits_so h below free is =
      let g = good.test h below free is in
      record {
        made = g.made;
        numbered = g.numbered;
        points = g.points;
        fits = λ variables among env stands. g.sides (outside variables) among env stands (λ env least. tt) (Supplies (surely (narrowed (shown true e) h.locals))) (Supplies (surely (narrowed (shown false e) h.locals)))
            (λ after least. supplies variables h.next (narrowed (shown true e) h.locals) after (free_narrowed h.next h.next (shown true e) h.locals (omega arith) free) least)
            (λ after least. supplies variables h.next (narrowed (shown false e) h.locals) after (free_narrowed h.next h.next (shown false e) h.locals (omega arith) free) least);
      }

  pub forms_fit : FormsFit c leaves limit e both
  forms_fit = (value_fits, test_fits_so)

pub expressions_fit : ExpressionsFit
expressions_fit names program marks class c limit e named =
    let leaves : Leaving = leaving names program marks class in
    forms_fit c leaves limit e (forms leaves c e) (expressions_keep_the_rules names program marks class c limit e named)

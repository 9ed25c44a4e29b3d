-- Callees and created classes in hoisted expressions and tests have what is asked of them, where the expression has a type: what is
-- asked holds of each method and of each class that the class tables have.
use Rattle.std.proofs.Common.{◌≡◌, ℕ, Bool, true, false, Option, Some, None, Ok, List, [], ◌∷◌, length, refl, sym, ap, ◌∙◌, subst}
use Rattle.std.specs.Prelude.{⊤, is_none, option_and_then}
use Rattle.std.specs.declared.result.Result.{Result}
use Rattle.std.proofs.lemmas.Bool.{eqb-true}
use Rattle.py_tree.specs.declared.names.Place.{Place}
use Rattle.py_tree.specs.declared.rule.RuleFault.{RuleFault}
use Rattle.py_tree.specs.declared.expr.BinOp.{BinOp}
use Rattle.py_tree.specs.Bounded.{ExprNames, ExprsNames, LinksNames}
use Rattle.py_tree.specs.PlainTypes.{PlainTy, TBool, TEntity}
use Rattle.py_tree.specs.ClassRules.{PlainTable, PlainSig}
use Rattle.py_tree.specs.FlowEnvironment.{PlainLocal, shown, narrowed, where_test}
use Rattle.py_tree.specs.PlainExpressions.{PlainExpr, PInt, PBool, PStr, PNil, PVar, PSelf, PAttr, PCall, PApply, PIndex, PList, PNeg, PPos, PNot, PChain, PAnd, POr, PCompare, PIsNone, PCond, PlainExprs, PNoExpr, PExpr, PlainLink, PLink, PlainLinks, PNoLink, PMoreLinks}
use Rattle.py_tree.specs.ExpressionTypes.{Function, place_of, count_of, right_wanted, element_wanted, table_named, method_of, function_of, applied, each_is, arguments, list_of, elements, linked, conditions, type_of}
use Rattle.py_tree.specs.Flow.{Context, env_of, type_at}
use Rattle.call_graph.specs.SuspendingCode.{Leaving, expr_suspends, exprs_suspend}
use Rattle.program_meaning.proofs.TypedParts.{found_ok, typed_call, typed_apply, typed_function, typed_creation, typed_index, typed_number, typed_compare, typed_none_test, typed_chain, typed_cond, type_given, conditions_result}
use Rattle.flat_tree.specs.declared.tree.Callee.{Callee}
use Rattle.flat_tree.specs.declared.tree.Created.{Created}
use Rattle.flat_tree.specs.PlainFlat.{FCall, FMake, PlainFlatTest, FAnd, FOr}
use Rattle.method_splitter.specs.Callees.{Each, EachInOperands}
use Rattle.hoisting.specs.Stages.{Stage, surely, with_temporary, where_shown, ty_at, found_ty, callee_of, created_of, method_params}
use Rattle.hoisting.specs.HoistExpressions.{Hoisted, Tested, if_suspends, in_turn, kept, settled_unless, lasts, made_of, with_args, call_of, apply_of, by_params, by_function, by_elements, first_wanted, others_wanted, chain_of, ChainPart, so_far, linked_on, begun_anew, either, chosen, taken, taken_each, taken_links, taken_operands, forms}
use Rattle.typed_hoisting.proofs.TypedLists.{TypedEach, from_arguments, from_each, from_elements}
use Rattle.typed_hoisting.proofs.TypedKinds.{not_parts, condition_parts, and_parts, or_parts_of, link_parts}
use Rattle.typed_hoisting.proofs.OthersKeep.{run_of}
use Rattle.hoisted_callees.proofs.NamedParts.{Behind, IsTyped, has_type, typed_behind, Named, NamedForms, still_named, built_named, turn_named, taken_named, settled_unless_named, kept_named, if_named, chosen_named, truth_named, by_value_named, still_forms, forms_if_named}

module _ (P : Callee → Type 0) (Q : Created → Type 0) (c : Context) (leaves : Leaving) (limit : ℕ) where
  -- P holds of each method of the class tables, and Q of each class
  pub record Stand : Type 0 where
    pub called : (class name : ℕ) (sig : PlainSig) → method_of c.tables class name ≡ Some sig → P (callee_of c (TEntity class) name)
    pub created : (name : ℕ) (table : PlainTable) → table_named c.tables name ≡ Some table → Q (created_of c name)

  -- Lists of expressions that have types

  abbrev pub EachTyped : List PlainLocal → PlainExprs → Type 0
  EachTyped locals PNoExpr = ⊤
  EachTyped locals (PExpr x xs) = IsTyped c locals x × EachTyped locals xs

  abbrev pub RightsTyped : List PlainLocal → PlainLinks → Type 0
  RightsTyped locals PNoLink = ⊤
  RightsTyped locals (PMoreLinks (PLink o at right) more) = IsTyped c locals right × RightsTyped locals more

  each_behind : (h g : Stage) (es : PlainExprs) → ExprsNames limit es → Behind h g → EachTyped h.locals es → EachTyped g.locals es
  unfolding ExprNames
  each_behind h g PNoExpr named b t = tt
  each_behind h g (PExpr x xs) named b t = (typed_behind c limit h g x named.0 b t.0, each_behind h g xs named.1 b t.1)

  from_typed : (wanted : List (Option PlainTy)) (ts : List PlainTy) (locals : List PlainLocal) (es : PlainExprs) → TypedEach c wanted ts locals es → EachTyped locals es
  from_typed wanted ts locals PNoExpr h = tt
  from_typed wanted [] locals (PExpr x xs) h = absurd h
  from_typed wanted (t ∷ ts) locals (PExpr x xs) h = (has_type c locals x (first_wanted wanted) t h.0, from_typed (others_wanted wanted) ts locals xs h.1)

  from_links : (t ty : PlainTy) (locals : List PlainLocal) (ls : PlainLinks) → linked c.tables (env_of c locals) t ls ≡ Ok ty → RightsTyped locals ls
  from_links t ty locals PNoLink h = tt
  from_links t ty locals (PMoreLinks (PLink o at right) more) h =
      let p = link_parts c leaves t ty locals o at right more h in
      (has_type c locals right (right_wanted o t) p.0 p.1, from_links t ty locals more p.3)

  elements_typed : (locals : List PlainLocal) (element ty : PlainTy) (items : PlainExprs) → elements c.tables (env_of c locals) element items ≡ Ok ty → EachTyped locals items
  elements_typed locals element ty items h = let p = from_elements c element locals items ty h in from_typed _ p.0 locals items p.1

  list_typed : (o : Option PlainTy) (locals : List PlainLocal) (at : Place) (items : PlainExprs) (ty : PlainTy) → list_of c.tables (env_of c locals) o at items ≡ Ok ty → EachTyped locals items
  unfolding type_of
  list_typed o locals at PNoExpr ty h = tt
  list_typed (Some element) locals at (PExpr x xs) ty h = elements_typed locals element ty (PExpr x xs) h
  list_typed None locals at (PExpr x xs) ty h =
      let p : (u : PlainTy) × (type_at c locals None x ≡ Ok u) × (elements c.tables (env_of c locals) u xs ≡ Ok ty) = found_ok (type_at c locals None x) (λ u. elements c.tables (env_of c locals) u xs) ty h in
      (has_type c locals x None p.0 p.1, elements_typed locals p.0 ty xs p.2)

  items_typed : (locals : List PlainLocal) (wanted : Option PlainTy) (at : Place) (items : PlainExprs) (ty : PlainTy) → type_at c locals wanted (PList at items) ≡ Ok ty → EachTyped locals items
  unfolding type_of
  items_typed locals wanted at items ty h = list_typed (option_and_then element_wanted wanted) locals at items ty h

  -- arguments, and that the class is there which is created
  record Applies (locals : List PlainLocal) (name : ℕ) (o : Option Function) (args : PlainExprs) : Type 0 where
    args_typed : EachTyped locals args
    class_there : is_none o ≡ true → (table : PlainTable) × (table_named c.tables name ≡ Some table)

  applies : (locals : List PlainLocal) (wanted : Option PlainTy) (at : Place) (name : ℕ) (args : PlainExprs) (ty : PlainTy) → type_at c locals wanted (PApply at name args) ≡ Ok ty → Applies locals name (function_of name) args
  applies locals wanted at name args ty h = by (function_of name) (typed_apply c.tables (env_of c locals) wanted at ty name args h)
    where
      operands : (PlainTy → Bool) → PlainTy → Result PlainTy RuleFault
      operands test result = each_is test c.tables (env_of c locals) args result

      by : (o : Option Function) → applied o (table_named c.tables name) at (count_of args) operands (λ params result. arguments c.tables (env_of c locals) args params result) ≡ Ok ty → Applies locals name o args
      by (Some f) h =
          let p = typed_function (table_named c.tables name) at (count_of args) operands (λ params result. arguments c.tables (env_of c locals) args params result) ty f h in
          let q = from_each c p.0 locals args (type_given f) ty p.1 in
          record { args_typed = from_typed [] q.0 locals args q.1; class_there = λ none. absurd (some_is f none) }
        where
          some_is : (f : Function) → is_none (Some f) ≡ true → ⊥
          some_is f e = cc
      by None h =
          let p = typed_creation (table_named c.tables name) at (count_of args) operands (λ params result. arguments c.tables (env_of c locals) args params result) ty h in
          let q = from_arguments c locals args p.0.init (TEntity p.0.name) ty (eqb-true (count_of args) (length p.0.init) p.2) p.3 in
          record { args_typed = from_typed (by_params p.0.init) q.0 locals args q.1; class_there = λ none. (p.0, p.1) }

  module _ (stand : Stand) where
    abbrev N : {R : Type 0} → Stage → Hoisted R → Type 0
    N h a = Named P Q h a

    abbrev part : PlainExpr → Option PlainTy → Stage → Hoisted PlainExpr
    part e wanted h = (forms leaves c e).value wanted h

    abbrev parts : List (Option PlainTy) → PlainExprs → Stage → Hoisted PlainExprs
    parts wanted es h = if_suspends (exprs_suspend leaves es) es h (taken_each leaves c wanted es h)

    abbrev pub NamedExpr : PlainExpr → Type 0
    NamedExpr e = NamedForms P Q c e (forms leaves c e)

    abbrev NamedTaken : PlainExpr → Type 0
    NamedTaken e = NamedForms P Q c e (taken leaves c e)

    abbrev NamedEach : PlainExprs → Type 0
    NamedEach es = (wanted : List (Option PlainTy)) (h : Stage) → EachTyped h.locals es → N h (taken_each leaves c wanted es h)

    abbrev NamedRun : Stage → ChainPart → Type 0
    NamedRun h r = N h (run_of c leaves limit r)

    abbrev NamedLinks : PlainLinks → Type 0
    NamedLinks ls = (at : Place) (ty : PlainTy) (h : Stage) (r : ChainPart) → RightsTyped h.locals ls → NamedRun h r → NamedRun h (taken_links leaves c at ty ls r)

    abbrev NamedOperands : PlainExprs → Type 0
    NamedOperands items =
        (truth : Bool) (h : Stage) → conditions c.tables (env_of c h.locals) truth items ≡ Ok TBool
        → EachInOperands P Q (taken_operands leaves c truth items h).test

    -- Lists

    no_expr : NamedEach PNoExpr
    unfolding taken
    no_expr wanted h t = still_named P Q h PNoExpr

    parts_named : (es : PlainExprs) → NamedEach es → (wanted : List (Option PlainTy)) (h : Stage) → EachTyped h.locals es → N h (parts wanted es h)
    parts_named es named wanted h t = if_named P Q (exprs_suspend leaves es) h es (taken_each leaves c wanted es h) (named wanted h t)

    more_exprs : (x : PlainExpr) (xs : PlainExprs) → ExprsNames limit xs → NamedExpr x → NamedEach xs → NamedEach (PExpr x xs)
    unfolding taken
    more_exprs x xs names first rest wanted h t =
        let w : Option PlainTy = first_wanted wanted in
        let k : Hoisted PlainExpr = kept (exprs_suspend leaves xs) (lasts leaves x) (place_of x) (ty_at c w h.locals x) (part x w h) in
        let nk : N h k = kept_named P Q (exprs_suspend leaves xs) (lasts leaves x) h (part x w h) (place_of x) (ty_at c w h.locals x) (first.value w h t.0) in
        turn_named P Q h PExpr k (λ g. parts (others_wanted wanted) xs g) nk (parts_named xs rest (others_wanted wanted) k.stage (each_behind h k.stage xs names nk.behind t.1))

    -- Two parts

    two_parts : (h : Stage) → (a b : PlainExpr) → ExprNames limit b → NamedExpr a → NamedExpr b → IsTyped c h.locals a → IsTyped c h.locals b → (f : PlainExpr → PlainExpr → PlainExpr)
        → N h (in_turn f (kept (expr_suspends leaves b) (lasts leaves a) (place_of a) (ty_at c None h.locals a) (part a None h)) (λ g. part b None g))
    two_parts h a b names first second is_a is_b f =
        let k : Hoisted PlainExpr = kept (expr_suspends leaves b) (lasts leaves a) (place_of a) (ty_at c None h.locals a) (part a None h) in
        let nk : N h k = kept_named P Q (expr_suspends leaves b) (lasts leaves a) h (part a None h) (place_of a) (ty_at c None h.locals a) (first.value None h is_a) in
        turn_named P Q h f k (λ g. part b None g) nk (second.value None k.stage (typed_behind c limit h k.stage b names nk.behind is_b))

    -- Calls and creations

    call_named : (b : Bool) (h : Stage) (at : Place) (ty on_ty : PlainTy) (name : ℕ) (name_at : Place) (a : Hoisted (PlainExpr × PlainExprs)) → N h a → P (callee_of c on_ty name) → N h (call_of c b at ty on_ty name name_at a)
    unfolding Each
    call_named true h at ty on_ty name name_at a n p = taken_named P Q h a at ty (λ r t. FCall r.0 (callee_of c on_ty name) r.1 t (surely (with_temporary ty a.stage).locals)) n p
    call_named false h at ty on_ty name name_at a n p = built_named P Q h a (λ r. PCall at r.0 name name_at r.1) n

    call_step : (at : Place) (on : PlainExpr) (name : ℕ) (name_at : Place) (args : PlainExprs) → ExprsNames limit args → NamedExpr on → NamedEach args → (wanted : Option PlainTy) (h : Stage) → IsTyped c h.locals (PCall at on name name_at args)
        → N h (call_of c (leaves on name) at (ty_at c wanted h.locals (PCall at on name name_at args)) (ty_at c None h.locals on) name name_at
        (in_turn with_args (kept (exprs_suspend leaves args) (lasts leaves on) (place_of on) (ty_at c None h.locals on) (part on None h)) (λ g. parts (by_params (method_params c (ty_at c None h.locals on) name)) args g)))
    call_step at on name name_at args names named_on named_args wanted h t =
        let p = typed_call c.tables (env_of c h.locals) t.wanted at t.ty on name name_at args t.typed in
        let q = from_arguments c h.locals args p.1.params p.1.result t.ty (eqb-true (count_of args) (length p.1.params) p.4) p.5 in
        let on_ty : PlainTy = ty_at c None h.locals on in
        let a : Hoisted PlainExpr = kept (exprs_suspend leaves args) (lasts leaves on) (place_of on) on_ty (part on None h) in
        let na : N h a = kept_named P Q (exprs_suspend leaves args) (lasts leaves on) h (part on None h) (place_of on) on_ty (named_on.value None h (has_type c h.locals on None (TEntity p.0) p.2)) in
        let wants : List (Option PlainTy) = by_params (method_params c on_ty name) in
        let nb : N a.stage (parts wants args a.stage) =
        parts_named args named_args wants a.stage (each_behind h a.stage args names na.behind (from_typed (by_params p.1.params) q.0 h.locals args q.1)) in
        let callee : P (callee_of c on_ty name) = subst (λ u. P (callee_of c u name)) (sym (ap found_ty p.2)) (stand.called p.0 name p.1 p.3) in
        call_named (leaves on name) h at _ on_ty name name_at (in_turn with_args a (λ g. parts wants args g)) (turn_named P Q h with_args a (λ g. parts wants args g) na nb) callee

    apply_named : (b : Bool) (h : Stage) (at : Place) (ty : PlainTy) (name : ℕ) (a : Hoisted PlainExprs) → N h a → (b ≡ true → Q (created_of c name)) → N h (apply_of c b at ty name a)
    unfolding Each
    apply_named true h at ty name a n q = taken_named P Q h a at ty (λ r t. FMake (created_of c name) r t (surely (with_temporary ty a.stage).locals)) n (q refl)
    apply_named false h at ty name a n q = built_named P Q h a (PApply at name) n

    apply_step : (at : Place) (name : ℕ) (args : PlainExprs) → NamedEach args → (wanted : Option PlainTy) (h : Stage) → IsTyped c h.locals (PApply at name args)
        → N h (apply_of c (is_none (function_of name)) at (ty_at c wanted h.locals (PApply at name args)) name (parts (by_function c (function_of name) name) args h))
    apply_step at name args named_args wanted h t =
        let p : Applies h.locals name (function_of name) args = applies h.locals t.wanted at name args t.ty t.typed in
        apply_named (is_none (function_of name)) h at _ name (parts (by_function c (function_of name) name) args h) (parts_named args named_args (by_function c (function_of name) name) h p.args_typed) (λ none.
        let class = p.class_there none in
        stand.created name class.0 class.1)

    -- Runs of operators

    run_so_far : (h : Stage) (at : Place) (r : ChainPart) → NamedRun h r → N h (so_far at r)
    run_so_far h at r n = record { each = n.each; behind = n.behind }

    no_link : NamedLinks PNoLink
    unfolding taken
    no_link at ty h r t n = n

    more_links : (o : BinOp) (op_at : Place) (right : PlainExpr) (more : PlainLinks) → ExprNames limit right → NamedExpr right → NamedLinks more → NamedLinks (PMoreLinks (PLink o op_at right) more)
    unfolding taken
    more_links o op_at right more names named rest at ty h r t n = rest at ty h _ t.1 (by (expr_suspends leaves right))
      where
        a : Hoisted PlainExpr
        a = settled_unless r.lasting at ty (so_far at r)

        na : N h a
        na = settled_unless_named P Q r.lasting h (so_far at r) at ty (run_so_far h at r n)

        b : Hoisted PlainExpr
        b = part right (right_wanted o ty) a.stage

        nb : N a.stage b
        nb = named.value (right_wanted o ty) a.stage (typed_behind c limit h a.stage right names na.behind t.0)

        by : (s : Bool) → NamedRun h (either s (begun_anew a (PLink o op_at) b) (linked_on r (PLink o op_at right)))
        by true = let both = turn_named P Q h (λ x y. x) a (λ g. part right (right_wanted o ty) g) na nb in record { each = both.each; behind = both.behind }
        by false = record { each = n.each; behind = n.behind }

    chain_step : (at : Place) (first : PlainExpr) (l : PlainLink) (more : PlainLinks) → NamedExpr first → NamedLinks (PMoreLinks l more) → (wanted : Option PlainTy) (h : Stage) → IsTyped c h.locals (PChain at first (PMoreLinks l more))
        → N h (so_far at (taken_links leaves c at (ty_at c None h.locals first) (PMoreLinks l more) (chain_of (lasts leaves first) (part first None h))))
    chain_step at first l more named links wanted h t =
        let p = typed_chain c.tables (env_of c h.locals) t.wanted at t.ty first (PMoreLinks l more) t.typed in
        let n : N h (part first None h) = named.value None h (has_type c h.locals first None p.0 p.1) in
        let start : ChainPart = chain_of (lasts leaves first) (part first None h) in
        run_so_far h at (taken_links leaves c at (ty_at c None h.locals first) (PMoreLinks l more) start)
        (links at (ty_at c None h.locals first) h start (from_links p.0 t.ty h.locals (PMoreLinks l more) p.2) (record { each = n.each; behind = n.behind }))

    -- Operands

    no_operand : NamedOperands PNoExpr
    unfolding taken Each
    no_operand truth h is = tt

    more_operands : (x : PlainExpr) (xs : PlainExprs) → NamedExpr x → NamedOperands xs → NamedOperands (PExpr x xs)
    unfolding taken Each
    more_operands x xs first rest truth h is =
        let p = condition_parts c leaves truth h.locals x xs is in
        let t : Tested PlainFlatTest = (forms leaves c x).test h in
        let n = first.test h (has_type c h.locals x None TBool p.0) in
        let m = rest truth (where_shown truth x h.locals t.next) p.1 in
        (n, m)

    and_named : (at : Place) (items : PlainExprs) → NamedOperands items → NamedTaken (PAnd at items)
    unfolding taken Each
    and_named at items named = record {
      value = λ wanted h t. truth_named P Q h at (PAnd at items) (made_of FAnd (taken_operands leaves c true items h)) (operands h t);
      test = λ h t. operands h t;
    }
      where
        operands : (h : Stage) → IsTyped c h.locals (PAnd at items) → EachInOperands P Q (taken_operands leaves c true items h).test
        operands h t =
            let p = and_parts c leaves h.locals t.wanted at items t.ty t.typed in
            named true h (p ∙ ap Ok (sym (conditions_result c.tables (env_of c h.locals) true items t.ty p)))

    or_named : (at : Place) (items : PlainExprs) → NamedOperands items → NamedTaken (POr at items)
    unfolding taken Each
    or_named at items named = record {
      value = λ wanted h t. truth_named P Q h at (POr at items) (made_of FOr (taken_operands leaves c false items h)) (operands h t);
      test = λ h t. operands h t;
    }
      where
        operands : (h : Stage) → IsTyped c h.locals (POr at items) → EachInOperands P Q (taken_operands leaves c false items h).test
        operands h t =
            let p = or_parts_of c leaves h.locals t.wanted at items t.ty t.typed in
            named false h (p ∙ ap Ok (sym (conditions_result c.tables (env_of c h.locals) false items t.ty p)))

    -- One part

    numbered : (locals : List PlainLocal) (wanted : Option PlainTy) (at : Place) (a : PlainExpr) (ty : PlainTy) → type_at c locals wanted (PNeg at a) ≡ Ok ty → IsTyped c locals a
    unfolding type_of
    numbered locals wanted at a ty h = has_type c locals a None _ (typed_number c.tables (env_of c locals) wanted at ty a h).0

    plus_numbered : (locals : List PlainLocal) (wanted : Option PlainTy) (at : Place) (a : PlainExpr) (ty : PlainTy) → type_at c locals wanted (PPos at a) ≡ Ok ty → IsTyped c locals a
    unfolding type_of
    plus_numbered locals wanted at a ty h = has_type c locals a None _ (typed_number c.tables (env_of c locals) wanted at ty a h).0

    not_typed : (h : Stage) (at : Place) (a : PlainExpr) → IsTyped c h.locals (PNot at a) → IsTyped c h.locals a
    not_typed h at a t = has_type c h.locals a None TBool (not_parts c leaves h.locals t.wanted at a t.ty t.typed).0

    not_named : (at : Place) (a : PlainExpr) → NamedExpr a → NamedTaken (PNot at a)
    unfolding taken Each
    not_named at a named = record {
      value = λ wanted h t. built_named P Q h (part a None h) (PNot at) (named.value None h (not_typed h at a t));
      test = λ h t. named.test h (not_typed h at a t);
    }

    -- Conditionals

    cond_parts : (locals : List PlainLocal) (wanted : Option PlainTy) (at : Place) (test a b : PlainExpr) (ty : PlainTy) → type_at c locals wanted (PCond at test a b) ≡ Ok ty
        → IsTyped c locals test × IsTyped c (narrowed (shown true test) locals) a × IsTyped c (narrowed (shown false test) locals) b
    unfolding where_test
    cond_parts locals wanted at test a b ty is =
        let p = typed_cond c.tables (env_of c locals) wanted at ty test a b is in
        (has_type c locals test None TBool p.2, has_type c _ a wanted p.0 p.3, has_type c _ b wanted p.1 p.4)

    cond_step : (at : Place) (test a b : PlainExpr) → NamedExpr test → NamedExpr a → NamedExpr b → (wanted : Option PlainTy) (h : Stage) → IsTyped c h.locals (PCond at test a b)
        → N h (chosen at (ty_at c wanted h.locals (PCond at test a b)) h.locals test ((forms leaves c test).test h) (λ g. part a wanted g) (λ g. part b wanted g))
    cond_step at test a b named_test named_a named_b wanted h t =
        let p = cond_parts h.locals t.wanted at test a b t.ty t.typed in
        let tested : Tested PlainFlatTest = (forms leaves c test).test h in
        let n = named_test.test h p.0 in
        let yes' : Stage = where_shown true test h.locals tested.next in
        let na : N yes' (part a wanted yes') = named_a.value wanted yes' p.1 in
        let no' : Stage = where_shown false test h.locals (part a wanted yes').stage.next in
        let nb : N no' (part b wanted no') = named_b.value wanted no' p.2 in
        chosen_named P Q h at _ test tested (λ g. part a wanted g) (λ g. part b wanted g) n na nb

    as_part : (e : PlainExpr) → NamedTaken e → NamedExpr e
    as_part e named = forms_if_named P Q c (expr_suspends leaves e) e (taken leaves c e) named

    mutual
      unfolding taken ExprNames

      taken_is_named : (e : PlainExpr) → ExprNames limit e → NamedTaken e
      taken_is_named (PInt at n) names = still_forms P Q c (PInt at n)
      taken_is_named (PBool at n) names = still_forms P Q c (PBool at n)
      taken_is_named (PStr at n) names = still_forms P Q c (PStr at n)
      taken_is_named (PNil at) names = still_forms P Q c (PNil at)
      taken_is_named (PVar at x) names = still_forms P Q c (PVar at x)
      taken_is_named (PSelf at) names = still_forms P Q c (PSelf at)
      taken_is_named (PAttr at on x x_at) names = still_forms P Q c (PAttr at on x x_at)
      taken_is_named (PCall at on name name_at args) names = by_value_named P Q c (PCall at on name name_at args) _ (call_step at on name name_at args names.2 (as_part on (taken_is_named on names.0)) (each_named args names.2))
      taken_is_named (PApply at name args) names = by_value_named P Q c (PApply at name args) _ (apply_step at name args (each_named args names.1))
      taken_is_named (PIndex at on index) names =
          by_value_named P Q c (PIndex at on index) _ (λ wanted h t.
          let p = typed_index c.tables (env_of c h.locals) t.wanted at t.ty on index t.typed in
          two_parts h on index names.1 (as_part on (taken_is_named on names.0)) (as_part index (taken_is_named index names.1)) (has_type c h.locals on None _ p.0) (has_type c h.locals index None _ p.1) (PIndex at))
      taken_is_named (PList at items) names =
          by_value_named P Q c (PList at items) _ (λ wanted h t.
          built_named P Q h _ (PList at) (each_named items names (by_elements c (option_and_then element_wanted wanted) h.locals items) h (items_typed h.locals t.wanted at items t.ty t.typed)))
      taken_is_named (PNeg at a) names = by_value_named P Q c (PNeg at a) _ (λ wanted h t. built_named P Q h _ (PNeg at) ((as_part a (taken_is_named a names)).value None h (numbered h.locals t.wanted at a t.ty t.typed)))
      taken_is_named (PPos at a) names = by_value_named P Q c (PPos at a) _ (λ wanted h t. built_named P Q h _ (PPos at) ((as_part a (taken_is_named a names)).value None h (plus_numbered h.locals t.wanted at a t.ty t.typed)))
      taken_is_named (PNot at a) names = not_named at a (as_part a (taken_is_named a names))
      taken_is_named (PChain at first PNoLink) names =
          by_value_named P Q c (PChain at first PNoLink) _ (λ wanted h t.
          let p = typed_chain c.tables (env_of c h.locals) t.wanted at t.ty first PNoLink t.typed in
          built_named P Q h _ (λ r. PChain at r PNoLink) ((as_part first (taken_is_named first names.0)).value None h (has_type c h.locals first None p.0 p.1)))
      taken_is_named (PChain at first (PMoreLinks l more)) names = by_value_named P Q c (PChain at first (PMoreLinks l more)) _ (chain_step at first l more (as_part first (taken_is_named first names.0)) (links_named (PMoreLinks l more) names.1))
      taken_is_named (PAnd at items) names = and_named at items (operands_named items names)
      taken_is_named (POr at items) names = or_named at items (operands_named items names)
      taken_is_named (PCompare at o o_at left right) names =
          by_value_named P Q c (PCompare at o o_at left right) _ (λ wanted h t.
          let p = typed_compare c.tables (env_of c h.locals) t.wanted at t.ty o o_at left right t.typed in
          two_parts h left right names.1 (as_part left (taken_is_named left names.0)) (as_part right (taken_is_named right names.1)) (has_type c h.locals left None p.0 p.2) (has_type c h.locals right None p.1 p.3) (PCompare at o o_at))
      taken_is_named (PIsNone at a positive) names =
          by_value_named P Q c (PIsNone at a positive) _ (λ wanted h t.
          let p = typed_none_test c.tables (env_of c h.locals) t.wanted at t.ty a positive t.typed in
          built_named P Q h _ (λ r. PIsNone at r positive) ((as_part a (taken_is_named a names)).value None h (has_type c h.locals a None p.0 p.1)))
      taken_is_named (PCond at test a b) names = by_value_named P Q c (PCond at test a b) _ (cond_step at test a b (as_part test (taken_is_named test names.0)) (as_part a (taken_is_named a names.1)) (as_part b (taken_is_named b names.2)))

      each_named : (es : PlainExprs) → ExprsNames limit es → NamedEach es
      each_named PNoExpr names = no_expr
      each_named (PExpr x xs) names = more_exprs x xs names.1 (as_part x (taken_is_named x names.0)) (each_named xs names.1)

      links_named : (ls : PlainLinks) → LinksNames limit ls → NamedLinks ls
      links_named PNoLink names = no_link
      links_named (PMoreLinks (PLink o op_at right) more) names = more_links o op_at right more names.0 (as_part right (taken_is_named right names.0)) (links_named more names.1)

      operands_named : (items : PlainExprs) → ExprsNames limit items → NamedOperands items
      operands_named PNoExpr names = no_operand
      operands_named (PExpr x xs) names = more_operands x xs (as_part x (taken_is_named x names.0)) (operands_named xs names.1)

    -- each expression, as a value and as a test
    pub expression_named : (e : PlainExpr) → ExprNames limit e → NamedExpr e
    expression_named e names = as_part e (taken_is_named e names)

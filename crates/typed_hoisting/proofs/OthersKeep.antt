-- Functions, creations, lists and runs of operators, of parts that keep the rules.
use Rattle.std.proofs.Common.{◌≡◌, ◌≤◌, arith, ℕ, Bool, true, false, Option, Some, None, Ok, List, [], ◌∷◌, ◌++◌, length, refl, sym, ap, ◌∙◌, subst}
use Rattle.std.specs.Prelude.{⊤, is_none, option_and_then}
use Rattle.std.specs.declared.result.Result.{Result}
use Rattle.std.proofs.lemmas.Bool.{eqb-true, or_from}
use Rattle.py_tree.specs.declared.names.Place.{Place}
use Rattle.py_tree.specs.declared.rule.RuleFault.{RuleFault}
use Rattle.py_tree.specs.declared.expr.BinOp.{BinOp}
use Rattle.py_tree.specs.Bounded.{ExprNames, ExprsNames}
use Rattle.py_tree.specs.PlainTypes.{PlainTy, TNil, TList, TEntity}
use Rattle.py_tree.specs.ClassRules.{PlainTable}
use Rattle.py_tree.specs.FlowEnvironment.{PlainLocal}
use Rattle.py_tree.specs.PlainExpressions.{PlainExpr, PApply, PList, PChain, PlainExprs, PNoExpr, PExpr, PlainLink, PLink, PlainLinks, PNoLink, PMoreLinks}
use Rattle.py_tree.specs.ExpressionTypes.{Function, count_of, right_wanted, element_wanted, combined, table_named, function_of, applied, each_is, arguments, list_of, elements, linked, with_found, type_of}
use Rattle.py_tree.specs.Flow.{Context, env_of, type_at}
use Rattle.call_graph.specs.SuspendingCode.{Leaving, expr_suspends, exprs_suspend}
use Rattle.program_meaning.proofs.TypedParts.{found_ok, arguments_result, each_result, elements_result, typed_creation, type_given}
use Rattle.flat_tree.specs.PlainFlat.{FMake}
use Rattle.flat_types.specs.FlatTypes.{stmt_fits}
use Rattle.hoisting.specs.Stages.{Stage, surely, temporary, with_temporary, ty_at, found_ty, created_of, init_params}
use Rattle.hoisting.specs.HoistExpressions.{Hoisted, built, settled_unless, lasts, apply_of, by_params, by_function, by_elements, each_wanted, chain, ChainPart, chain_of, so_far, linked_on, begun_anew, either, taken, taken_each, taken_links}
use Rattle.typed_hoisting.specs.KnownLocals.{Alike, Free}
use Rattle.typed_hoisting.specs.TypedHoisting.{Typed, Good}
use Rattle.typed_hoisting.proofs.EnvironmentLaws.{alike_on, kept_at}
use Rattle.method_splitter.specs.Points.{PointsPass}
use Rattle.typed_hoisting.proofs.PassingPoints.{point_passes}
use Rattle.typed_hoisting.proofs.GuardedItems.{guards_at, none_guarded}
use Rattle.typed_hoisting.proofs.GoodParts.{up, built_good, turn_good, taken_good, settled_unless_good}
use Rattle.typed_hoisting.proofs.TypedLists.{TypedEach, SuitElement, ArgumentTypes, OperandTypes, ElementTypes, as_many, params_as_many, from_arguments, to_arguments, from_each, to_each, from_elements, to_elements}
use Rattle.typed_hoisting.proofs.TypedKinds.{FunctionTakes, function_takes, created_stands, RunTyped, no_link_typed, one_link_typed, more_links_typed, run_typed, run_stays, link_parts, last_link}
use Rattle.typed_hoisting.proofs.CallsKeep.{stored_behind, part, parts, GoodExpr, StayTyped, GoodEach, parts_good}

module _ (c : Context) (leaves : Leaving) (limit : ℕ) where
  -- Functions and creations

  apply_stays : (at : Place) (name : ℕ) (args : PlainExprs) → exprs_suspend leaves args ≡ false → is_none (function_of name) ≡ false → expr_suspends leaves (PApply at name args) ≡ false
  unfolding expr_suspends
  apply_stays at name args a b = or_from _ _ a b

  apply_is : (there : List PlainLocal) (wanted : Option PlainTy) (at : Place) (name : ℕ) (args : PlainExprs)
      → type_at c there wanted (PApply at name args) ≡ applied (function_of name) (table_named c.tables name) at (count_of args) (λ test result. each_is test c.tables (env_of c there) args result) (λ params result. arguments c.tables (env_of c there) args params result)
  unfolding type_of
  apply_is there wanted at name args = refl

  module _ (at : Place) (name : ℕ) (args : PlainExprs) (named : ExprsNames limit args) (good_args : GoodEach c leaves limit args) (wanted : Option PlainTy) (h : Stage) (below : limit ≤ h.next) (free : Free h.next h.locals) where
    abbrev pieces : Option Function → Hoisted PlainExprs
    pieces o = parts c leaves limit (by_function c o name) args h

    abbrev Applied : Option Function → ℕ → List PlainLocal → PlainExprs → Result PlainTy RuleFault
    Applied o count there r = applied o (table_named c.tables name) at count (λ test result. each_is test c.tables (env_of c there) r result) (λ params result. arguments c.tables (env_of c there) r params result)

    function_good : (f : Function) (s ty : PlainTy) → function_of name ≡ Some f → Applied (Some f) (count_of args) h.locals args ≡ Ok ty → Good c leaves h (apply_of c false at s name (pieces (Some f))) (Typed c leaves wanted ty)
    function_good f s ty is typed =
        let takes : FunctionTakes c leaves f (table_named c.tables name) at (count_of args) (λ test result. each_is test c.tables (env_of c h.locals) args result) ty =
        function_takes c leaves f (table_named c.tables name) at (count_of args) (λ test result. each_is test c.tables (env_of c h.locals) args result) (λ params result. arguments c.tables (env_of c h.locals) args params result) ty typed in
        let all : OperandTypes c takes.test h.locals args = from_each c takes.test h.locals args (type_given f) ty takes.passes in
        let result : type_given f ≡ ty = each_result c.tables takes.test (env_of c h.locals) args (type_given f) ty takes.passes in
        let g : Good c leaves h (pieces (Some f)) (StayTyped c leaves limit [] all.0) = parts_good c leaves limit args named good_args [] all.0 h below free all.1 in
        built_good c leaves h (pieces (Some f)) (PApply at name) (Typed c leaves wanted ty) g (λ there x.
        let r : PlainExprs = (pieces (Some f)).rest in
        let count : count_of args ≡ count_of r = as_many c [] all.0 h.locals args all.1 ∙ sym (as_many c [] all.0 there r x.0) in (
          apply_is there wanted at name r ∙ ap (λ o. Applied o (count_of r) there r) is ∙ ap (λ n. Applied (Some f) n there r) (sym count)
              ∙ takes.again (λ test result. each_is test c.tables (env_of c there) r result) (λ params result. arguments c.tables (env_of c there) r params result) (to_each c takes.test there all.0 r (type_given f) x.0 all.2) ∙ ap Ok result,
          apply_stays at name r x.1 (ap is_none is),
        ))

    creation_good : (ty : PlainTy) → Applied None (count_of args) h.locals args ≡ Ok ty → Good c leaves h (apply_of c true at ty name (pieces None)) (Typed c leaves wanted ty)
    unfolding stmt_fits PointsPass
    creation_good ty typed =
        let p = typed_creation (table_named c.tables name) at (count_of args) (λ test result. each_is test c.tables (env_of c h.locals) args result) (λ params result. arguments c.tables (env_of c h.locals) args params result) ty typed in
        let table : PlainTable = p.0 in
        let all : ArgumentTypes c h.locals args table.init = from_arguments c h.locals args table.init (TEntity table.name) ty (eqb-true (count_of args) (length table.init) p.2) p.3 in
        let wants : List (Option PlainTy) = by_params table.init in
        let result : TEntity table.name ≡ ty = arguments_result c.tables (env_of c h.locals) args table.init (TEntity table.name) ty p.3 in
        let a : Hoisted PlainExprs = parts c leaves limit wants args h in
        let g : Good c leaves h a (StayTyped c leaves limit wants all.0) = parts_good c leaves limit args named good_args wants all.0 h below free all.1 in
        let whole : Good c leaves h (apply_of c true at (TEntity table.name) name a) (Typed c leaves wanted (TEntity table.name)) =
        taken_good c leaves h a at (TEntity table.name) wanted (λ r t. FMake (created_of c name) r t (surely (with_temporary (TEntity table.name) a.stage).locals)) g (λ m env stands guard is x goal goes.
        let behind = stored_behind m a.stage.next a.stage.locals (TEntity table.name) env g.free stands is goal goes in (
          record {
            table = table;
            has_table = (created_stands c name table p.1).0;
            args_fit = record { count = as_many c wants all.0 env a.rest x.0 ∙ params_as_many c all.0 table.init all.2; typed = to_arguments c env all.0 a.rest table.init TNil x.0 all.2; stay = x.1 };
            takes = behind.0;
          },
          behind.1,
          none_guarded c m.caught env (guards_at m a.stage.next a.stage.locals env guard stands),
        )) (λ variables free typed. point_passes variables (a.stage.locals ++ temporary a.stage.next (TEntity table.name) ∷ []) free.once typed) in
        subst (λ o. Good c leaves h (apply_of c true at ty name (parts c leaves limit (by_params (init_params o)) args h)) (Typed c leaves wanted ty)) (sym p.1)
        (subst (λ t. Good c leaves h (apply_of c true at t name a) (Typed c leaves wanted t)) result whole)

    pub apply_step : (ty : PlainTy) → type_at c h.locals wanted (PApply at name args) ≡ Ok ty
        → Good c leaves h (apply_of c (is_none (function_of name)) at (ty_at c wanted h.locals (PApply at name args)) name (parts c leaves limit (by_function c (function_of name) name) args h)) (Typed c leaves wanted ty)
    apply_step ty is =
        subst (λ s. Good c leaves h (apply_of c (is_none (function_of name)) at s name (pieces (function_of name))) (Typed c leaves wanted ty)) (sym (ap found_ty is))
        (by (function_of name) refl (sym (apply_is h.locals wanted at name args) ∙ is))
      where
        by : (o : Option Function) → function_of name ≡ o → Applied o (count_of args) h.locals args ≡ Ok ty → Good c leaves h (apply_of c (is_none o) at ty name (pieces o)) (Typed c leaves wanted ty)
        by None e typed = creation_good ty typed
        by (Some f) e typed = function_good f ty ty e typed

  -- Lists

  list_is : (there : List PlainLocal) (wanted : Option PlainTy) (at : Place) (items : PlainExprs) → type_at c there wanted (PList at items) ≡ list_of c.tables (env_of c there) (option_and_then element_wanted wanted) at items
  unfolding type_of
  list_is there wanted at items = refl

  list_stays : (at : Place) (items : PlainExprs) → exprs_suspend leaves items ≡ false → expr_suspends leaves (PList at items) ≡ false
  unfolding expr_suspends
  list_stays at items h = h

  empty_again : (o : Option PlainTy) (at : Place) (here there : List PlainLocal) → list_of c.tables (env_of c here) o at PNoExpr ≡ list_of c.tables (env_of c there) o at PNoExpr
  unfolding type_of
  empty_again o at here there = refl

  -- by what is wanted of the elements
  abbrev ListGood : Option PlainTy → Place → PlainTy → PlainExprs → Stage → Type 1
  ListGood o at ty items h = Good c leaves h (taken_each leaves c (by_elements c o h.locals items) items h) (λ there r. (list_of c.tables (env_of c there) o at r ≡ Ok ty) × (exprs_suspend leaves r ≡ false))

  as_made : {h : Stage} {a : Hoisted PlainExprs} {RA RB : List PlainLocal → PlainExprs → Type 0} → Good c leaves h a RA → ((there : List PlainLocal) → RA there a.rest → RB there a.rest) → Good c leaves h a RB
  as_made g f = record { made = g.made; numbered = g.numbered; free = g.free; adds = g.adds; alike = g.alike; rest = λ there alike. f there (g.rest there alike); before = g.before; points = g.points }

  list_again : (there : List PlainLocal) (element : PlainTy) (at : Place) (source : PlainExprs) (ts : List PlainTy) (r : PlainExprs) → count_of source ≡ length ts → TypedEach c (each_wanted (Some element) source) ts there r → SuitElement element ts → list_of c.tables (env_of c there) (Some element) at r ≡ Ok (TList element)
  unfolding type_of
  list_again there element at source ts PNoExpr e typed suit = refl
  list_again there element at source ts (PExpr x xs) e typed suit = same x xs ∙ to_elements c element there source ts (PExpr x xs) e typed suit
    where
      same : (x : PlainExpr) (xs : PlainExprs) → list_of c.tables (env_of c there) (Some element) at (PExpr x xs) ≡ elements c.tables (env_of c there) element (PExpr x xs)
      same x xs = refl

  as_elements : (here : List PlainLocal) (element : PlainTy) (at : Place) (x : PlainExpr) (xs : PlainExprs) → elements c.tables (env_of c here) element (PExpr x xs) ≡ list_of c.tables (env_of c here) (Some element) at (PExpr x xs)
  unfolding type_of
  as_elements here element at x xs = refl

  first_parts : (here : List PlainLocal) (at : Place) (x : PlainExpr) (xs : PlainExprs) (ty : PlainTy) → list_of c.tables (env_of c here) None at (PExpr x xs) ≡ Ok ty → (u : PlainTy) × (type_at c here None x ≡ Ok u) × (elements c.tables (env_of c here) u xs ≡ Ok ty)
  unfolding type_of
  first_parts here at x xs ty h = found_ok (type_at c here None x) (λ u. elements c.tables (env_of c here) u xs) ty h

  first_again : (there : List PlainLocal) (at : Place) (u ty : PlainTy) (source : PlainExprs) (ts : List PlainTy) (r : PlainExprs) → TList u ≡ ty → count_of source ≡ length ts → TypedEach c (None ∷ each_wanted (Some u) source) (u ∷ ts) there r → SuitElement u ts → list_of c.tables (env_of c there) None at r ≡ Ok ty
  unfolding type_of
  first_again there at u ty source ts PNoExpr e n typed suit = absurd typed
  first_again there at u ty source ts (PExpr x xs) e n typed suit = ap (λ q. with_found q (λ t. elements c.tables (env_of c there) t xs)) typed.0 ∙ to_elements c u there source ts xs n typed.1 suit ∙ ap Ok e

  list_good : (o : Option PlainTy) (at : Place) (ty : PlainTy) (items : PlainExprs) → GoodEach c leaves limit items → (h : Stage) → limit ≤ h.next → Free h.next h.locals → list_of c.tables (env_of c h.locals) o at items ≡ Ok ty → ListGood o at ty items h
  list_good None at ty PNoExpr good h below free is = as_made (good [] [] h below free tt) (λ there x. (none_left there _ x.0, x.1))
    where
      none_left : (there : List PlainLocal) (r : PlainExprs) → TypedEach c [] [] there r → list_of c.tables (env_of c there) None at r ≡ Ok ty
      none_left there PNoExpr typed = empty_again None at there h.locals ∙ is
      none_left there (PExpr x xs) typed = absurd typed
  list_good (Some element) at ty PNoExpr good h below free is = as_made (good (each_wanted (Some element) PNoExpr) [] h below free tt) (λ there x. (none_left there _ x.0, x.1))
    where
      none_left : (there : List PlainLocal) (r : PlainExprs) → TypedEach c (each_wanted (Some element) PNoExpr) [] there r → list_of c.tables (env_of c there) (Some element) at r ≡ Ok ty
      none_left there PNoExpr typed = empty_again (Some element) at there h.locals ∙ is
      none_left there (PExpr x xs) typed = absurd typed
  list_good (Some element) at ty (PExpr x xs) good h below free is =
      let typed : elements c.tables (env_of c h.locals) element (PExpr x xs) ≡ Ok ty = as_elements h.locals element at x xs ∙ is in
      let all : ElementTypes c element h.locals (PExpr x xs) = from_elements c element h.locals (PExpr x xs) ty typed in
      let wants : List (Option PlainTy) = each_wanted (Some element) (PExpr x xs) in
      let count : count_of (PExpr x xs) ≡ length all.0 = as_many c wants all.0 h.locals (PExpr x xs) all.1 in
      as_made (good wants all.0 h below free all.1) (λ there y. (list_again there element at (PExpr x xs) all.0 _ count y.0 all.2 ∙ ap Ok (elements_result c.tables (env_of c h.locals) element (PExpr x xs) ty typed) ∙ refl, y.1))
  list_good None at ty (PExpr x xs) good h below free is =
      let p : (u : PlainTy) × (type_at c h.locals None x ≡ Ok u) × (elements c.tables (env_of c h.locals) u xs ≡ Ok ty) = first_parts h.locals at x xs ty is in
      let u : PlainTy = p.0 in
      let all : ElementTypes c u h.locals xs = from_elements c u h.locals xs ty p.2 in
      let wants : List (Option PlainTy) = each_wanted (Some u) xs in
      let count : count_of xs ≡ length all.0 = as_many c wants all.0 h.locals xs all.1 in
      subst (λ t. Good c leaves h (taken_each leaves c (None ∷ each_wanted (Some t) xs) (PExpr x xs) h) (λ there r. (list_of c.tables (env_of c there) None at r ≡ Ok ty) × (exprs_suspend leaves r ≡ false))) (sym (ap found_ty p.1))
      (as_made (good (None ∷ wants) (u ∷ all.0) h below free (p.1, all.1)) (λ there y. (first_again there at u ty xs all.0 _ (elements_result c.tables (env_of c h.locals) u xs ty p.2) count y.0 all.2, y.1)))

  pub list_step : (at : Place) (items : PlainExprs) → GoodEach c leaves limit items → (wanted : Option PlainTy) (h : Stage) (ty : PlainTy) → limit ≤ h.next → Free h.next h.locals → type_at c h.locals wanted (PList at items) ≡ Ok ty
      → Good c leaves h (built (PList at) (taken_each leaves c (by_elements c (option_and_then element_wanted wanted) h.locals items) items h)) (Typed c leaves wanted ty)
  list_step at items good wanted h ty below free is =
      built_good c leaves h _ (PList at) (Typed c leaves wanted ty) (list_good (option_and_then element_wanted wanted) at ty items good h below free (sym (list_is h.locals wanted at items) ∙ is)) (λ there x. (list_is there wanted at _ ∙ x.0, list_stays at _ x.1))

  -- Runs of operators

  -- the operand and the links of a run so far
  abbrev pub run_of : ChainPart → Hoisted (PlainExpr × List PlainLink)
  run_of r = record { before = r.before; rest = (r.left, r.links); stage = r.stage }

  abbrev pub GoodRun : PlainTy → Stage → ChainPart → Type 1
  GoodRun t h r = Good c leaves h (run_of r) (RunTyped c leaves t)

  pub so_far_good : (t : PlainTy) (h : Stage) (at : Place) (r : ChainPart) → GoodRun t h r → Good c leaves h (so_far at r) (Typed c leaves None t)
  so_far_good t h at r g = built_good c leaves h (run_of r) (λ p. chain at p.0 p.1) (Typed c leaves None t) g (λ there x. (run_typed c leaves t there None at r.left r.links x, run_stays c leaves t there at r.left r.links x))

  run_step : (t : PlainTy) (h : Stage) (at : Place) (o : BinOp) (op_at : Place) (right : PlainExpr) (u : PlainTy) (r : ChainPart) → ExprNames limit right → GoodExpr c leaves limit right → limit ≤ h.next
      → type_at c h.locals (right_wanted o t) right ≡ Ok u → combined o op_at t u ≡ Ok t → GoodRun t h r
      → GoodRun t h (either (expr_suspends leaves right)
      (let a = settled_unless r.lasting at t (so_far at r) in begun_anew a (PLink o op_at) (part c leaves limit right (right_wanted o t) a.stage))
      (linked_on r (PLink o op_at right)))
  run_step t h at o op_at right u r named good below is both g = by (expr_suspends leaves right) refl
    where
      a : Hoisted PlainExpr
      a = settled_unless r.lasting at t (so_far at r)

      ga : Good c leaves h a (Typed c leaves None t)
      ga = settled_unless_good c leaves r.lasting h (so_far at r) at None t t refl (so_far_good t h at r g)

      gb : Good c leaves a.stage (part c leaves limit right (right_wanted o t) a.stage) (Typed c leaves (right_wanted o t) u)
      gb = good.value (right_wanted o t) a.stage u (omega (arith, below, up c leaves h a ga)) ga.free (kept_at c limit h.next h.locals a.stage.locals below ga.alike (right_wanted o t) right u named is)

      by : (b : Bool) → expr_suspends leaves right ≡ b → GoodRun t h (either b (begun_anew a (PLink o op_at) (part c leaves limit right (right_wanted o t) a.stage)) (linked_on r (PLink o op_at right)))
      by true e = turn_good c leaves h (λ x y. (x, PLink o op_at y ∷ [])) a (λ k. part c leaves limit right (right_wanted o t) k) (RunTyped c leaves t) ga gb (λ there x y. (x, one_link_typed c leaves t u there o op_at (part c leaves limit right (right_wanted o t) a.stage).rest both y))
      by false e = record {
        made = g.made;
        numbered = g.numbered;
        free = g.free;
        adds = g.adds;
        alike = g.alike;
        rest = λ there alike.
            let x : RunTyped c leaves t there (r.left, r.links) = g.rest there alike in
            let same : Alike h.next h.locals there = alike_on h.next r.stage.next h.locals r.stage.locals there (up c leaves h (run_of r) g) g.alike alike in
            (x.0, more_links_typed c leaves t there r.links (PLink o op_at right) x.1 (one_link_typed c leaves t u there o op_at right both (kept_at c limit h.next h.locals there below same (right_wanted o t) right u named is, e)));
        before = g.before;
        points = g.points;
      }

  -- a list of links, of which each right side keeps the rules
  abbrev pub GoodLinks : PlainLinks → Type 1
  GoodLinks ls = (t ty : PlainTy) (h : Stage) (at : Place) (r : ChainPart) → limit ≤ h.next → linked c.tables (env_of c h.locals) t ls ≡ Ok ty → GoodRun t h r → GoodRun t h (taken_links leaves c at t ls r)

  pub link_step : (o : BinOp) (op_at : Place) (right : PlainExpr) (more : PlainLinks) → ExprNames limit right → GoodExpr c leaves limit right → GoodLinks more → GoodLinks (PMoreLinks (PLink o op_at right) more)
  unfolding taken
  link_step o op_at right more named good rest t ty h at r below typed g =
      let p = link_parts c leaves t ty h.locals o op_at right more typed in
      rest t ty h at _ below p.3 (run_step t h at o op_at right p.0 r named good below p.1 p.2 g)

  pub same_type : (t ty : PlainTy) (locals : List PlainLocal) (ls : PlainLinks) → linked c.tables (env_of c locals) t ls ≡ Ok ty → t ≡ ty
  same_type t ty locals PNoLink h = last_link c leaves t ty locals h
  same_type t ty locals (PMoreLinks (PLink o op_at right) more) h = same_type t ty locals more (link_parts c leaves t ty locals o op_at right more h).3

  chain_parts : (locals : List PlainLocal) (wanted : Option PlainTy) (at : Place) (first : PlainExpr) (links : PlainLinks) (ty : PlainTy) → type_at c locals wanted (PChain at first links) ≡ Ok ty → (t : PlainTy) × (type_at c locals None first ≡ Ok t) × (linked c.tables (env_of c locals) t links ≡ Ok ty)
  unfolding type_of
  chain_parts locals wanted at first links ty h = found_ok (type_at c locals None first) (λ t. linked c.tables (env_of c locals) t links) ty h

  -- a run with a link has its type whatever is wanted
  abbrev pub HasLink : List PlainLink → Type 0
  HasLink [] = ⊥
  HasLink (l ∷ ls) = ⊤

  run_wanted : (there : List PlainLocal) (wanted : Option PlainTy) (t : PlainTy) (at : Place) (left : PlainExpr) (ls : List PlainLink) → HasLink ls → RunTyped c leaves t there (left, ls) → type_at c there wanted (chain at left ls) ≡ Ok t
  unfolding type_of
  run_wanted there wanted t at left [] some h = absurd some
  run_wanted there wanted t at left (l ∷ ls) some h = run_typed c leaves t there None at left (l ∷ ls) h

  link_behind : (ls : List PlainLink) (l : PlainLink) → HasLink (ls ++ l ∷ [])
  link_behind [] l = tt
  link_behind (k ∷ ls) l = tt

  either_link : (b : Bool) (r : ChainPart) (a : Hoisted PlainExpr) (f : PlainExpr → PlainLink) (q : Hoisted PlainExpr) (l : PlainLink) → HasLink (either b (begun_anew a f q) (linked_on r l)).links
  either_link true r a f q l = tt
  either_link false r a f q l = link_behind r.links l

  abbrev next_run : Place → PlainTy → BinOp → Place → PlainExpr → ChainPart → ChainPart
  next_run at t o op_at right r =
      either (expr_suspends leaves right)
      (let a = settled_unless r.lasting at t (so_far at r) in begun_anew a (PLink o op_at) (part c leaves limit right (right_wanted o t) a.stage))
      (linked_on r (PLink o op_at right))

  next_link : (at : Place) (t : PlainTy) (o : BinOp) (op_at : Place) (right : PlainExpr) (r : ChainPart) → HasLink (next_run at t o op_at right r).links
  next_link at t o op_at right r =
      let a : Hoisted PlainExpr = settled_unless r.lasting at t (so_far at r) in
      either_link (expr_suspends leaves right) r a (PLink o op_at) (part c leaves limit right (right_wanted o t) a.stage) (PLink o op_at right)

  links_left : (ls : PlainLinks) (at : Place) (t : PlainTy) (r : ChainPart) → HasLink r.links → HasLink (taken_links leaves c at t ls r).links
  unfolding taken
  links_left PNoLink at t r some = some
  links_left (PMoreLinks (PLink o op_at right) more) at t r some = links_left more at t (next_run at t o op_at right r) (next_link at t o op_at right r)

  some_left : (l : PlainLink) (more : PlainLinks) (at : Place) (t : PlainTy) (r : ChainPart) → HasLink (taken_links leaves c at t (PMoreLinks l more) r).links
  unfolding taken
  some_left (PLink o op_at right) more at t r = links_left more at t (next_run at t o op_at right r) (next_link at t o op_at right r)

  pub chain_step : (at : Place) (first : PlainExpr) (l : PlainLink) (more : PlainLinks) → GoodExpr c leaves limit first → GoodLinks (PMoreLinks l more) → (wanted : Option PlainTy) (h : Stage) (ty : PlainTy) → limit ≤ h.next → Free h.next h.locals → type_at c h.locals wanted (PChain at first (PMoreLinks l more)) ≡ Ok ty
      → Good c leaves h (so_far at (taken_links leaves c at (ty_at c None h.locals first) (PMoreLinks l more) (chain_of (lasts leaves first) (part c leaves limit first None h)))) (Typed c leaves wanted ty)
  chain_step at first l more good links wanted h ty below free is =
      let p : (t : PlainTy) × (type_at c h.locals None first ≡ Ok t) × (linked c.tables (env_of c h.locals) t (PMoreLinks l more) ≡ Ok ty) = chain_parts h.locals wanted at first (PMoreLinks l more) ty is in
      let t : PlainTy = p.0 in
      let a : Hoisted PlainExpr = part c leaves limit first None h in
      let start : ChainPart = chain_of (lasts leaves first) a in
      let g : GoodRun t h start = built_good c leaves h a (λ e. (e, [])) (RunTyped c leaves t) (good.value None h t below free p.1) (λ there x. (x, no_link_typed c leaves t there)) in
      let r : ChainPart = taken_links leaves c at t (PMoreLinks l more) start in
      let all : GoodRun t h r = links t ty h at start below p.2 g in
      let same : t ≡ ty = same_type t ty h.locals (PMoreLinks l more) p.2 in
      let whole : Good c leaves h (so_far at r) (Typed c leaves wanted t) = built_good c leaves h (run_of r) (λ p. chain at p.0 p.1) (Typed c leaves wanted t) all (λ there x. (run_wanted there wanted t at r.left r.links (some_left l more at t start) x, run_stays c leaves t there at r.left r.links x)) in
      subst (λ s. Good c leaves h (so_far at (taken_links leaves c at s (PMoreLinks l more) start)) (Typed c leaves wanted ty)) (sym (ap found_ty p.1)) (subst (λ s. Good c leaves h (so_far at r) (Typed c leaves wanted s)) same whole)

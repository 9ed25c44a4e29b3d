-- Lists of expressions, two expressions in turn, and calls, of parts that keep the rules.
use Rattle.std.proofs.Common.{◌≡◌, ◌≤◌, ◌+◌, arith, ℕ, Bool, true, false, Option, Some, None, Ok, List, [], ◌∷◌, ◌++◌, length, refl, sym, ap, ◌∙◌, subst, true≢false}
use Rattle.std.proofs.lemmas.Bool.{eqb-true, or_from}
use Rattle.py_tree.specs.declared.names.Place.{Place}
use Rattle.py_tree.specs.Bounded.{ExprNames, ExprsNames}
use Rattle.py_tree.specs.PlainTypes.{PlainTy, TNil, TEntity}
use Rattle.py_tree.specs.ClassRules.{PlainSig, is_self}
use Rattle.py_tree.specs.FlowEnvironment.{PlainLocal}
use Rattle.py_tree.specs.PlainExpressions.{PlainExpr, PSelf, PCall, PlainExprs, PNoExpr, PExpr}
use Rattle.py_tree.specs.ExpressionTypes.{place_of, count_of, method_of}
use Rattle.py_tree.specs.Flow.{Context, env_of, type_at, with_local}
use Rattle.call_graph.specs.SuspendingCode.{Leaving, expr_suspends, exprs_suspend}
use Rattle.program_meaning.proofs.TypedParts.{typed_call, arguments_result}
use Rattle.block_code.specs.GraphFits.{Asked, at_start, Takes}
use Rattle.flat_tree.specs.PlainFlat.{FCall}
use Rattle.flat_types.specs.FlatTypes.{Supplies, stmt_fits}
use Rattle.hoisting.specs.Stages.{Stage, surely, temporary, with_temporary, ty_at, found_ty, callee_of, method_params, params_of_sig}
use Rattle.hoisting.specs.HoistExpressions.{Hoisted, still, if_suspends, in_turn, kept, lasts, with_args, call_of, by_params, first_wanted, others_wanted, taken, taken_each, forms}
use Rattle.typed_hoisting.specs.KnownLocals.{Free, Stands}
use Rattle.typed_hoisting.specs.TypedHoisting.{Around, Typed, Good, GoodForms}
use Rattle.typed_hoisting.proofs.Assignable.{assigned_itself}
use Rattle.typed_hoisting.proofs.EnvironmentLaws.{kept_at, more_free, as_least}
use Rattle.typed_hoisting.proofs.PointLaws.{IsVariable, supplies, stands_behind}
use Rattle.method_splitter.specs.Points.{PointsPass}
use Rattle.typed_hoisting.proofs.PassingPoints.{point_passes}
use Rattle.typed_hoisting.proofs.StoredLaws.{takes, stored_stands}
use Rattle.typed_hoisting.proofs.GuardedItems.{guards_at, none_guarded}
use Rattle.typed_hoisting.proofs.GoodParts.{up, still_good, built_good, turn_good, taken_good, kept_good}
use Rattle.typed_hoisting.proofs.TypedLists.{TypedEach, SuitParams, ArgumentTypes, each_stay_typed, as_many, params_as_many, from_arguments, to_arguments}
use Rattle.typed_hoisting.proofs.TypedKinds.{CalleeStands, callee_stands, call_typed}

-- only calls on `self` stay
abbrev pub Own : Leaving → Type 0
Own leaves = (on : PlainExpr) (name : ℕ) → leaves on name ≡ false → is_self on ≡ true

-- behind a call or a creation, whose value is stored, more is known
pub stored_behind : (m : Around) (n : ℕ) (locals : List PlainLocal) (ty : PlainTy) (env : List PlainLocal) → Free n locals → Stands m.variables n locals env → IsVariable m.variables n ty
    → (goal : Asked) → ((after : List PlainLocal) → Stands m.variables (n + 1) (locals ++ temporary n ty ∷ []) after → goal after)
    → Takes env n ty (Supplies (surely (locals ++ temporary n ty ∷ []))) × goal (at_start m.variables (surely (locals ++ temporary n ty ∷ [])))
stored_behind m n locals ty env free stands is goal goes =
    let more : List PlainLocal = locals ++ temporary n ty ∷ [] in
    let after : List PlainLocal = with_local n ty ty env in
    let least = as_least m.variables (n + 1) more after (stored_stands m.variables n ty env locals free stands is) in (
      takes m.variables n ty ty env stands.are is (assigned_itself ty) (Supplies (surely more)) (supplies m.variables (n + 1) more after (more_free n locals ty free) least),
      goes (at_start m.variables (surely more)) (stands_behind m.variables (n + 1) more after (more_free n locals ty free) least (n + 1)),
    )

module _ (c : Context) (leaves : Leaving) (limit : ℕ) where
  abbrev pub part : PlainExpr → Option PlainTy → Stage → Hoisted PlainExpr
  part e wanted h = (forms leaves c e).value wanted h

  abbrev pub parts : List (Option PlainTy) → PlainExprs → Stage → Hoisted PlainExprs
  parts wanted es h = if_suspends (exprs_suspend leaves es) es h (taken_each leaves c wanted es h)

  abbrev pub GoodExpr : PlainExpr → Type 1
  GoodExpr e = GoodForms c leaves limit e (forms leaves c e)

  abbrev pub GoodTaken : PlainExpr → Type 1
  GoodTaken e = GoodForms c leaves limit e (taken leaves c e)

  -- Lists

  -- expressions of these types, of which none suspends
  abbrev pub StayTyped : List (Option PlainTy) → List PlainTy → List PlainLocal → PlainExprs → Type 0
  StayTyped wanted ts there es = TypedEach c wanted ts there es × (exprs_suspend leaves es ≡ false)

  abbrev pub GoodEach : PlainExprs → Type 1
  GoodEach es = (wanted : List (Option PlainTy)) (ts : List PlainTy) (h : Stage) → limit ≤ h.next → Free h.next h.locals → TypedEach c wanted ts h.locals es → Good c leaves h (taken_each leaves c wanted es h) (StayTyped wanted ts)

  pub parts_good : (es : PlainExprs) → ExprsNames limit es → GoodEach es → (wanted : List (Option PlainTy)) (ts : List PlainTy) (h : Stage) → limit ≤ h.next → Free h.next h.locals → TypedEach c wanted ts h.locals es → Good c leaves h (parts wanted es h) (StayTyped wanted ts)
  parts_good es named good wanted ts h below free typed = by (exprs_suspend leaves es) refl
    where
      by : (b : Bool) → exprs_suspend leaves es ≡ b → Good c leaves h (if_suspends b es h (taken_each leaves c wanted es h)) (StayTyped wanted ts)
      by true is = good wanted ts h below free typed
      by false is = still_good c leaves h es (StayTyped wanted ts) free (λ there alike. (each_stay_typed c limit h.next h.locals there below alike wanted ts es named typed, is))

  pub no_expr : (wanted : List (Option PlainTy)) (ts : List PlainTy) (h : Stage) → Free h.next h.locals → TypedEach c wanted ts h.locals PNoExpr → Good c leaves h (still PNoExpr h) (StayTyped wanted ts)
  unfolding expr_suspends
  no_expr wanted [] h free typed = still_good c leaves h PNoExpr (StayTyped wanted []) free (λ there alike. (tt, refl))
  no_expr wanted (t ∷ ts) h free typed = absurd typed

  both_stay : (x : PlainExpr) (xs : PlainExprs) → expr_suspends leaves x ≡ false → exprs_suspend leaves xs ≡ false → exprs_suspend leaves (PExpr x xs) ≡ false
  unfolding expr_suspends
  both_stay x xs a b = or_from _ _ a b

  pub each_step : (x : PlainExpr) (xs : PlainExprs) → ExprsNames limit xs → GoodExpr x → GoodEach xs → (wanted : List (Option PlainTy)) (ts : List PlainTy) (h : Stage) → limit ≤ h.next → Free h.next h.locals → TypedEach c wanted ts h.locals (PExpr x xs)
      → Good c leaves h (in_turn PExpr (kept (exprs_suspend leaves xs) (lasts leaves x) (place_of x) (ty_at c (first_wanted wanted) h.locals x) (part x (first_wanted wanted) h)) (λ g. parts (others_wanted wanted) xs g)) (StayTyped wanted ts)
  each_step x xs named first rest wanted [] h below free typed = absurd typed
  each_step x xs named first rest wanted (t ∷ ts) h below free typed =
      let w : Option PlainTy = first_wanted wanted in
      let k : Hoisted PlainExpr = kept (exprs_suspend leaves xs) (lasts leaves x) (place_of x) (ty_at c w h.locals x) (part x w h) in
      let ga : Good c leaves h k (Typed c leaves w t) = kept_good c leaves (exprs_suspend leaves xs) (lasts leaves x) h (part x w h) (place_of x) w (ty_at c w h.locals x) t (ap found_ty typed.0) (first.value w h t below free typed.0) in
      let at : limit ≤ k.stage.next = omega (arith, below, up c leaves h k ga) in
      let gb : Good c leaves k.stage (parts (others_wanted wanted) xs k.stage) (StayTyped (others_wanted wanted) ts) =
      parts_good xs named rest (others_wanted wanted) ts k.stage at ga.free (each_stay_typed c limit h.next h.locals k.stage.locals below ga.alike (others_wanted wanted) ts xs named typed.1) in
      turn_good c leaves h PExpr k (λ g. parts (others_wanted wanted) xs g) (StayTyped wanted (t ∷ ts)) ga gb (λ there a b. ((a.0, b.0), both_stay k.rest (parts (others_wanted wanted) xs k.stage).rest a.1 b.1))

  -- Two parts

  pub two_good : (h : Stage) → limit ≤ h.next → Free h.next h.locals → (a b : PlainExpr) → ExprNames limit b → GoodExpr a → GoodExpr b → (s t : PlainTy) → type_at c h.locals None a ≡ Ok s → type_at c h.locals None b ≡ Ok t
      → (f : PlainExpr → PlainExpr → PlainExpr) (RC : List PlainLocal → PlainExpr → Type 0) → ((there : List PlainLocal) (x y : PlainExpr) → Typed c leaves None s there x → Typed c leaves None t there y → RC there (f x y))
      → Good c leaves h (in_turn f (kept (expr_suspends leaves b) (lasts leaves a) (place_of a) (ty_at c None h.locals a) (part a None h)) (λ g. part b None g)) RC
  two_good h below free a b named first second s t is_a is_b f RC both =
      let k : Hoisted PlainExpr = kept (expr_suspends leaves b) (lasts leaves a) (place_of a) (ty_at c None h.locals a) (part a None h) in
      let ga : Good c leaves h k (Typed c leaves None s) = kept_good c leaves (expr_suspends leaves b) (lasts leaves a) h (part a None h) (place_of a) None (ty_at c None h.locals a) s (ap found_ty is_a) (first.value None h s below free is_a) in
      let gb : Good c leaves k.stage (part b None k.stage) (Typed c leaves None t) = second.value None k.stage t (omega (arith, below, up c leaves h k ga)) ga.free (kept_at c limit h.next h.locals k.stage.locals below ga.alike None b t named is_b) in
      turn_good c leaves h f k (λ g. part b None g) RC ga gb (λ there x y. both there k.rest (part b None k.stage).rest x y)

  -- Calls

  abbrev CallParts : ℕ → PlainSig → List PlainTy → List PlainLocal → PlainExpr × PlainExprs → Type 0
  CallParts class sig ts there r = Typed c leaves None (TEntity class) there r.0 × StayTyped (by_params sig.params) ts there r.1

  call_stays : (at : Place) (on : PlainExpr) (name : ℕ) (name_at : Place) (args : PlainExprs) → expr_suspends leaves on ≡ false → exprs_suspend leaves args ≡ false → leaves on name ≡ false → expr_suspends leaves (PCall at on name name_at args) ≡ false
  unfolding expr_suspends
  call_stays at on name name_at args a b d = or_from _ _ (or_from _ _ a b) d

  call_good : (b : Bool) (h : Stage) (at : Place) (name : ℕ) (name_at : Place) (wanted : Option PlainTy) (class : ℕ) (sig : PlainSig) (ts : List PlainTy) (a : Hoisted (PlainExpr × PlainExprs)) → method_of c.tables class name ≡ Some sig → SuitParams ts sig.params
      → (b ≡ false → leaves a.rest.0 name ≡ false) → Good c leaves h a (CallParts class sig ts) → Good c leaves h (call_of c b at sig.result (TEntity class) name name_at a) (Typed c leaves wanted sig.result)
  unfolding stmt_fits PointsPass
  call_good false h at name name_at wanted class sig ts a found suit stays g =
      built_good c leaves h a (λ r. PCall at r.0 name name_at r.1) (Typed c leaves wanted sig.result) g (λ there x.
      (call_typed c leaves there wanted at name name_at class sig ts a.rest.0 a.rest.1 found x.0.0 x.1.0 suit, call_stays at a.rest.0 name name_at a.rest.1 x.0.1 x.1.1 (stays refl)))
  call_good true h at name name_at wanted class sig ts a found suit stays g =
      let s : CalleeStands c class name sig = callee_stands c class name sig found in
      taken_good c leaves h a at sig.result wanted (λ r t. FCall r.0 (callee_of c (TEntity class) name) r.1 t (surely (with_temporary sig.result a.stage).locals)) g (λ m env stands guard is x goal goes.
      let behind = stored_behind m a.stage.next a.stage.locals sig.result env g.free stands is goal goes in (
        record {
          table = s.table;
          has_table = s.has_table;
          sig = sig;
          has_method = s.has_method;
          on = record { wanted = None; typed = x.0.0 ∙ ap (λ n. Ok (TEntity n)) (sym s.named); stays = x.0.1 };
          args_fit = record { count = as_many c (by_params sig.params) ts env a.rest.1 x.1.0 ∙ params_as_many c ts sig.params suit; typed = to_arguments c env ts a.rest.1 sig.params TNil x.1.0 suit; stay = x.1.1 };
          takes = behind.0;
        },
        behind.1,
        none_guarded c m.caught env (guards_at m a.stage.next a.stage.locals env guard stands),
      )) (λ variables free typed. point_passes variables (a.stage.locals ++ temporary a.stage.next sig.result ∷ []) free.once typed)

  -- a receiver that is `self` stays
  self_stays : (later : Bool) (at : Place) (ty : PlainTy) (on : PlainExpr) (h : Stage) → is_self on ≡ true → (kept later (lasts leaves on) at ty (part on None h)).rest ≡ on
  unfolding expr_suspends
  self_stays true at ty (PSelf p) h is = refl
  self_stays false at ty (PSelf p) h is = refl
  self_stays later at ty _ h is = absurd (true≢false (sym is))

  own_stays : Own leaves → (later : Bool) (at : Place) (ty : PlainTy) (on : PlainExpr) (name : ℕ) (h : Stage) → leaves on name ≡ false → leaves (kept later (lasts leaves on) at ty (part on None h)).rest name ≡ false
  own_stays own later at ty on name h is = ap (λ e. leaves e name) (self_stays later at ty on h (own on name is)) ∙ is

  pub call_step : Own leaves → (at : Place) (on : PlainExpr) (name : ℕ) (name_at : Place) (args : PlainExprs) → ExprsNames limit args → GoodExpr on → GoodEach args → (wanted : Option PlainTy) (h : Stage) (ty : PlainTy) → limit ≤ h.next → Free h.next h.locals → type_at c h.locals wanted (PCall at on name name_at args) ≡ Ok ty
      → Good c leaves h (call_of c (leaves on name) at (ty_at c wanted h.locals (PCall at on name name_at args)) (ty_at c None h.locals on) name name_at
      (in_turn with_args (kept (exprs_suspend leaves args) (lasts leaves on) (place_of on) (ty_at c None h.locals on) (part on None h)) (λ g. parts (by_params (method_params c (ty_at c None h.locals on) name)) args g))) (Typed c leaves wanted ty)
  call_step own at on name name_at args named good_on good_args wanted h ty below free is =
      let p = typed_call c.tables (env_of c h.locals) wanted at ty on name name_at args is in
      let class : ℕ = p.0 in
      let sig : PlainSig = p.1 in
      let later : Bool = exprs_suspend leaves args in
      let k : PlainTy → Hoisted PlainExpr = λ on_ty. kept later (lasts leaves on) (place_of on) on_ty (part on None h) in
      let a : Hoisted PlainExpr = k (TEntity class) in
      let ga : Good c leaves h a (Typed c leaves None (TEntity class)) = kept_good c leaves later (lasts leaves on) h (part on None h) (place_of on) None (TEntity class) (TEntity class) refl (good_on.value None h (TEntity class) below free p.2) in
      let all : ArgumentTypes c h.locals args sig.params = from_arguments c h.locals args sig.params sig.result ty (eqb-true (count_of args) (length sig.params) p.4) p.5 in
      let wants : List (Option PlainTy) = by_params sig.params in
      let gb : Good c leaves a.stage (parts wants args a.stage) (StayTyped wants all.0) =
      parts_good args named good_args wants all.0 a.stage (omega (arith, below, up c leaves h a ga)) ga.free (each_stay_typed c limit h.next h.locals a.stage.locals below ga.alike wants all.0 args named all.1) in
      let both : Good c leaves h (in_turn with_args a (λ g. parts wants args g)) (CallParts class sig all.0) = turn_good c leaves h with_args a (λ g. parts wants args g) (CallParts class sig all.0) ga gb (λ there x y. (x, y)) in
      let whole = call_good (leaves on name) h at name name_at wanted class sig all.0 (in_turn with_args a (λ g. parts wants args g)) p.3 all.2 (own_stays own later (place_of on) (TEntity class) on name h) both in
      let F : PlainTy → PlainTy → List (Option PlainTy) → Type 1 = λ t on_ty ws. Good c leaves h (call_of c (leaves on name) at t on_ty name name_at (in_turn with_args (k on_ty) (λ g. parts ws args g))) (Typed c leaves wanted ty) in
      let result : sig.result ≡ ty = arguments_result c.tables (env_of c h.locals) args sig.params sig.result ty p.5 in
      let step1 : F ty (TEntity class) wants = subst (λ t. Good c leaves h (call_of c (leaves on name) at t (TEntity class) name name_at (in_turn with_args a (λ g. parts wants args g))) (Typed c leaves wanted t)) result whole in
      let step2 : F (ty_at c wanted h.locals (PCall at on name name_at args)) (TEntity class) wants = subst (λ t. F t (TEntity class) wants) (sym (ap found_ty is)) step1 in
      let step3 : F (ty_at c wanted h.locals (PCall at on name name_at args)) (TEntity class) (by_params (method_params c (TEntity class) name)) = subst (λ ps. F (ty_at c wanted h.locals (PCall at on name name_at args)) (TEntity class) (by_params ps)) (sym (ap params_of_sig p.3)) step2 in
      subst (λ t. F (ty_at c wanted h.locals (PCall at on name name_at args)) t (by_params (method_params c t name))) (sym (ap found_ty p.2)) step3

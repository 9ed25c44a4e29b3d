-- What is known before statements stays known, but that names which they assign may be None again.
use Rattle.std.proofs.Common.{◌≡◌, ℕ, Bool, true, false, not, cond, Option, Some, None, Result, Ok, List, [], ◌∷◌, ◌++◌, refl, sym, ap, ◌∙◌, subst, true≢false}
use Rattle.std.specs.Prelude.{◌&&◌, ◌||◌, ◌==◌, option_map, unwrap_or}
use Rattle.std.proofs.lemmas.Bool.{eqb-true}
use Rattle.std.proofs.lemmas.Option.{none-some}
use Rattle.py_tree.specs.declared.names.Place.{Place}
use Rattle.py_tree.specs.declared.rule.Rule.TheVariants.{LoopWord, UnknownField, KeyAssigned, InitForm}
use Rattle.py_tree.specs.declared.rule.RuleFault.{RuleFault}
use Rattle.py_tree.specs.declared.stmt.Target.{Target}
use Rattle.py_tree.specs.declared.stmt.Target.TheVariants.{Local, Field}
use Rattle.py_tree.specs.PlainTypes.{PlainTy, PlainWritten, type_of as type_written}
use Rattle.py_tree.specs.PlainExpressions.{PlainExpr}
use Rattle.py_tree.specs.PlainStatements.{PlainStmt, PPass, PBreak, PContinue, PDo, PReturn, PRaise, PAssert, PAssign, PAugment, PIf, PWhile, PFor, PlainStmts, PNoStmt, PStmt, PArm, PlainArms, PNoArm, PMoreArms}
use Rattle.py_tree.specs.FlowEnvironment.{PlainLocal, local_of, has_name, shown, narrowed}
use Rattle.py_tree.specs.ExpressionTypes.{refuse_if, with_found, field_of}
use Rattle.py_tree.specs.Reachability.{goes_on, all_go_on, is_true, local_assigned, assigns, assigned_in, assigned_in_arms}
use Rattle.py_tree.specs.Flow.{Context, type_at, condition_at, within_loop, Known, known_at, settled, meet, way, behind_ways, with_local, at_head, value_as, needs_none, return_fault, message_fault, is_key_field, field_assigned, field_declared, assigned, augmentation, combined_stored, Way, on, begun, broken_off, after_while, after_for, for_head, named_at, flow, flow_all, flow_arms}
use Rattle.program_meaning.proofs.LocalShapes.{shapes, type_found, Grows, alike_grows, grows_on, grows_same, local_grows, shapes_narrowed, shapes_settled, shapes_behind}
use Rattle.program_meaning.proofs.TypedParts.{done, same_ok, found_ok, refuse_ok, needs_ok}
use Rattle.program_meaning.proofs.FlowParts.{no_need, stored_ok, local_ok, Augments, augments_ok, put_local_ok, put_field_ok}
use Rattle.program_meaning.proofs.FlowGrows.{follows, follows_all, WhileParts, while_parts, ForParts, for_parts, all_parts, last_parts, ArmParts, arm_parts}
use Rattle.typed_hoisting.specs.KnownLocals.{Seen, is_optional, seen_of, seen, Under}
use Rattle.typed_hoisting.proofs.LocalLaws.{narrowed_seen, under_narrowed, has_either}
use Rattle.typed_methods.proofs.KnownWays.{MetAbove, above_both, above_grown, above_here, above_behind, known_before, under_then}
use Rattle.typed_methods.proofs.StoredKnown.{AllUnder, forget_if, head_seen, type_or, stored_seen, given_as}

-- what is known here of any of these names is no more than its type
abbrev pub Forgets : List PlainLocal → List ℕ → Type 0
Forgets floor names = (x : ℕ) (s : Seen) → has_name names x ≡ true → seen floor x ≡ Some s → s.less ≡ false

either_left : (a b : Bool) → a ≡ true → (a || b) ≡ true
either_left true b h = refl
either_left false b h = absurd (true≢false (sym h))

either_right : (a b : Bool) → b ≡ true → (a || b) ≡ true
either_right true b h = refl
either_right false b h = h

pub forgets_first : (floor : List PlainLocal) (a b : List ℕ) → Forgets floor (a ++ b) → Forgets floor a
forgets_first floor a b f x s h e = f x s (has_either a b x ∙ either_left (has_name a x) (has_name b x) h) e

pub forgets_rest : (floor : List PlainLocal) (a b : List ℕ) → Forgets floor (a ++ b) → Forgets floor b
forgets_rest floor a b f x s h e = f x s (has_either a b x ∙ either_right (has_name a x) (has_name b x) h) e

module _ (floor : List PlainLocal) where
  -- at least as much is known on a way as here, and where it has been left
  pub record Above (w : Way) : Type 0 where
    pub under : AllUnder floor w.locals
    pub breaks : MetAbove floor (shapes w.locals) w.breaks

  pub begun_above : (ls : List PlainLocal) → AllUnder floor ls → Above (begun ls)
  begun_above ls under = record { under = under; breaks = tt }

  pub on_above : (w : Way) (ls : List PlainLocal) → Above w → Grows w.locals ls → AllUnder floor ls → Above (on w ls)
  on_above w ls a g under = record { under = under; breaks = above_grown floor w.locals ls w.breaks g a.breaks }

  -- Where a value is stored

  seen_typed : (o : Option PlainLocal) (s : Seen) → seen_of o ≡ Some s → option_map (λ (l : PlainLocal). l.ty) o ≡ Some s.ty
  seen_typed None s h = absurd (none-some s h)
  seen_typed (Some l) s h = by l.assigned h
    where
      by : (b : Bool) → cond b (Some (record { ty = l.ty; less = is_optional l.ty && l.not_none })) None ≡ Some s → Some l.ty ≡ Some s.ty
      by true h = ap (option_map (λ (t : Seen). t.ty)) h
      by false h = absurd (none-some s h)

  pub stored_above : (x : ℕ) (first ty : PlainTy) (ls : List PlainLocal) → Forgets floor (x ∷ []) → AllUnder floor ls → AllUnder floor (with_local x first ty ls)
  unfolding has_name
  stored_above x first ty ls forgets under y = subst (Under (seen floor y)) (sym (stored_seen x first ty ls y)) (by (x == y) refl (seen floor y) refl (under y))
    where
      typed : (k t : Seen) → seen ls y ≡ Some t → (x == y) ≡ true → t.ty ≡ type_or ls x first
      typed k t e f =
          ap (λ o. unwrap_or o first) (sym (sym (type_found ls y) ∙ seen_typed (local_of ls y) t e) ∙ refl) ∙ ap (λ z. type_or ls z first) (sym (eqb-true x y f))

      here : (k : Seen) → seen floor y ≡ Some k → (x == y) ≡ true → (o : Option Seen) → seen ls y ≡ o → Under (Some k) o → Under (Some k) (Some (given_as (type_or ls x first) ty))
      here k e f None g u = absurd u
      here k e f (Some t) g u = (u.0 ∙ typed k t g f, λ h. absurd (true≢false (sym h ∙ forgets y k (either_left (x == y) false f) e)))

      by : (b : Bool) → (x == y) ≡ b → (o : Option Seen) → seen floor y ≡ o → Under o (seen ls y) → Under o (cond b (Some (given_as (type_or ls x first) ty)) (seen ls y))
      by true f None e u = tt
      by true f (Some k) e u = here k e f (seen ls y) refl u
      by false f o e u = u

  pub narrowed_above : (names : List ℕ) (ls : List PlainLocal) → AllUnder floor ls → AllUnder floor (narrowed names ls)
  narrowed_above names ls under x =
      under_then (seen floor x) (seen ls x) (seen (narrowed names ls) x) (under x) (subst (Under (seen ls x)) (sym (narrowed_seen names ls x)) (under_narrowed (has_name names x) (seen ls x)))

  pub head_above : (names : List ℕ) (ls : List PlainLocal) → Forgets floor names → AllUnder floor ls → AllUnder floor (at_head names ls)
  head_above names ls forgets under x = subst (Under (seen floor x)) (sym (head_seen names ls x)) (by (has_name names x) refl (seen floor x) refl (seen ls x) (under x))
    where
      by : (b : Bool) → has_name names x ≡ b → (o : Option Seen) → seen floor x ≡ o → (q : Option Seen) → Under o q → Under o (option_map (forget_if b) q)
      by b f None e q u = tt
      by b f (Some k) e None u = absurd u
      by true f (Some k) e (Some t) u = (u.0, λ h. absurd (true≢false (sym h ∙ forgets x k f e)))
      by false f (Some k) e (Some t) u = u

  pub before_above : (before after : List PlainLocal) → Grows before after → AllUnder floor before → AllUnder floor (settled after (known_at before))
  before_above before after g under x = subst (Under (seen floor x)) (sym (known_before before after x g)) (under x)

  -- Statements

  assigned_above : (d : Context) (ls : List PlainLocal) (at : Place) (x : Target) (ty : Option PlainWritten) (e : PlainExpr) (after : List PlainLocal) → Forgets floor (local_assigned x) → AllUnder floor ls → assigned d ls at x ty e ≡ Ok after → AllUnder floor after
  unfolding assigned field_assigned field_declared
  assigned_above d ls at (Local x) ty e after forgets under h = let p = local_ok d ls at x ty e after h in subst (λ ms. AllUnder floor ms) p.is (stored_above x.name.0 p.first p.ty ls forgets under)
  assigned_above d ls at (Field f) None e after forgets under h =
      let value : PlainTy → Result (List PlainLocal) RuleFault = λ ty. with_found (value_as d ls ty e) (λ given. Ok ls) in
      let key : PlainTy → Result (List PlainLocal) RuleFault = λ ty. refuse_if (is_key_field d f.name.0) KeyAssigned at (value ty) in
      let p : (ty : PlainTy) × (field_of d.tables d.class f.name.0 ≡ Some ty) × (key ty ≡ Ok after) = needs_ok (field_of d.tables d.class f.name.0) UnknownField f.place key after h in
      let q : (given : PlainTy) × (value_as d ls p.0 e ≡ Ok given) × (done ls ≡ Ok after) = found_ok (value_as d ls p.0 e) (λ given. Ok ls) after (refuse_ok (is_key_field d f.name.0) KeyAssigned at (value p.0) after p.2).1 in
      subst (λ ms. AllUnder floor ms) (same_ok ls after q.2) under
  assigned_above d ls at (Field f) (Some w) e after forgets under h =
      let q : (given : PlainTy) × (value_as d ls (type_written w) e ≡ Ok given) × (done ls ≡ Ok after) = found_ok (value_as d ls (type_written w) e) (λ given. Ok ls) after (refuse_ok _ InitForm at (with_found (value_as d ls (type_written w) e) (λ given. Ok ls)) after h).1 in
      subst (λ ms. AllUnder floor ms) (same_ok ls after q.2) under

  put_above : (d : Context) (ls : List PlainLocal) (x : Target) (ty : PlainTy) (after : List PlainLocal) → Forgets floor (local_assigned x) → AllUnder floor ls → combined_stored d ls x ty ≡ Ok after → AllUnder floor after
  put_above d ls (Local x) ty after forgets under h = subst (λ ms. AllUnder floor ms) (put_local_ok d ls x ty after h).1 (stored_above x.name.0 ty ty ls forgets under)
  put_above d ls (Field f) ty after forgets under h = subst (λ ms. AllUnder floor ms) (put_field_ok d ls f ty after h) under

  same_above : (w next : Way) → w ≡ next → Above w → Above next
  same_above w next e a = subst Above e a

  behind_while : (test : PlainExpr) (head : List PlainLocal) (end : Way) → AllUnder floor head → Grows head end.locals → Above end → AllUnder floor (after_while test head end)
  unfolding after_while
  behind_while test head end under g a =
      let ls : List PlainLocal = narrowed (shown false test) head in
      let to_end : Grows ls end.locals = grows_same head ls end.locals end.locals (sym (shapes_narrowed (shown false test) head)) refl g in
      above_behind floor end.locals (meet (way (not (is_true test)) ls) end.breaks) a.under
      (above_both floor (shapes end.locals) (way (not (is_true test)) ls) end.breaks (above_grown floor ls end.locals (way (not (is_true test)) ls) to_end (above_here floor (not (is_true test)) ls (narrowed_above (shown false test) head under))) a.breaks)

  behind_for : (head : List PlainLocal) (end : Way) → AllUnder floor head → Grows head end.locals → Above end → AllUnder floor (after_for head end)
  unfolding after_for
  behind_for head end under g a =
      above_behind floor end.locals (meet (way true head) end.breaks) a.under
      (above_both floor (shapes end.locals) (way true head) end.breaks (above_grown floor head end.locals (way true head) g (above_here floor true head under)) a.breaks)

  pub head_of_for : (names : List ℕ) (ls named : List PlainLocal) → Forgets floor names → Grows ls named → AllUnder floor ls → AllUnder floor (for_head names ls named)
  unfolding for_head
  head_of_for names ls named forgets g under = head_above names (settled named (known_at ls)) forgets (before_above ls named g under)

  mutual
    unfolding flow assigns

    pub stmt_above : (x : PlainStmt) (d : Context) (w next : Way) → Forgets floor (assigns x) → Above w → flow d w x ≡ Ok next → Above next
    stmt_above (PPass at) d w next forgets a h = same_above w next (same_ok w next h) a
    stmt_above (PBreak at) d w next forgets a h =
        same_above (broken_off w) next (same_ok (broken_off w) next (refuse_ok (not d.in_loop) LoopWord at (Ok (broken_off w)) next h).1)
        (record { under = a.under; breaks = above_both floor (shapes w.locals) w.breaks (way true w.locals) a.breaks (above_here floor true w.locals a.under) })
    stmt_above (PContinue at) d w next forgets a h = same_above w next (same_ok w next (refuse_ok (not d.in_loop) LoopWord at (Ok w) next h).1) a
    stmt_above (PDo at e) d w next forgets a h = same_above w next (same_ok w next (found_ok (type_at d w.locals None e) (λ ty. Ok w) next h).2) a
    stmt_above (PReturn at e) d w next forgets a h = same_above w next (same_ok w next (no_need (return_fault d w.locals at e) (Ok w) next h).1) a
    stmt_above (PRaise at kind e) d w next forgets a h = same_above w next (same_ok w next (no_need (message_fault d w.locals e) (Ok w) next h).1) a
    stmt_above (PAssert at test e) d w next forgets a h =
        let ls : List PlainLocal = narrowed (shown true test) w.locals in
        let rest : PlainTy → Result Way RuleFault = λ ty. needs_none (message_fault d w.locals e) (Ok (on w ls)) in
        let p : (ty : PlainTy) × (condition_at d w.locals test ≡ Ok ty) × (rest ty ≡ Ok next) = found_ok (condition_at d w.locals test) rest next h in
        same_above (on w ls) next (same_ok (on w ls) next (no_need (message_fault d w.locals e) (Ok (on w ls)) next p.2).1)
        (on_above w ls a (alike_grows w.locals ls (shapes_narrowed (shown true test) w.locals)) (narrowed_above (shown true test) w.locals a.under))
    stmt_above (PAssign at x ty e) d w next forgets a h =
        let p : (ls : List PlainLocal) × (assigned d w.locals at x ty e ≡ Ok ls) × (done (on w ls) ≡ Ok next) = found_ok (assigned d w.locals at x ty e) (λ ls. Ok (on w ls)) next h in
        let is : on w p.0 ≡ next = same_ok (on w p.0) next p.2 in
        same_above (on w p.0) next is (on_above w p.0 a (subst (λ (n : Way). Grows w.locals n.locals) (sym is) (follows (PAssign at x ty e) d w next h).grows) (assigned_above d w.locals at x ty e p.0 forgets a.under p.1))
    stmt_above (PAugment at x op op_at e) d w next forgets a h =
        let p : (ls : List PlainLocal) × (augmentation d w.locals at x op op_at e ≡ Ok ls) × (done (on w ls) ≡ Ok next) = found_ok (augmentation d w.locals at x op op_at e) (λ ls. Ok (on w ls)) next h in
        let is : on w p.0 ≡ next = same_ok (on w p.0) next p.2 in
        let q : Augments d w.locals at x op op_at e p.0 = augments_ok d w.locals at x op op_at e p.0 p.1 in
        same_above (on w p.0) next is (on_above w p.0 a (subst (λ (n : Way). Grows w.locals n.locals) (sym is) (follows (PAugment at x op op_at e) d w next h).grows) (put_above d w.locals x q.before p.0 forgets a.under q.put))
    stmt_above (PIf at arms other) d w next forgets a h =
        arms_above arms d w next None (all_go_on other) (λ last. flow_all d last other) (forgets_first floor (assigned_in_arms arms) (assigned_in other) forgets)
        (λ w2 last a2 e. all_above other d w2 last (forgets_rest floor (assigned_in_arms arms) (assigned_in other) forgets) a2 e) (λ w2 last e. (follows_all other d w2 last e).grows) tt a h
    stmt_above (PWhile at test body) d w next forgets a h =
        let p : WhileParts d w next test body = while_parts d w next at test body h in
        let head : List PlainLocal = at_head (assigned_in body) w.locals in
        let start : List PlainLocal = narrowed (shown true test) head in
        let under : AllUnder floor head = head_above (assigned_in body) w.locals forgets a.under in
        let end : Above p.end = all_above body (within_loop d) (begun start) p.end forgets (begun_above start (narrowed_above (shown true test) head under)) p.turn in
        let to_end : Grows head p.end.locals = grows_same start head p.end.locals p.end.locals (shapes_narrowed (shown true test) head) refl (follows_all body (within_loop d) (begun start) p.end p.turn).grows in
        same_above (on w (after_while test head p.end)) next p.is
        (on_above w (after_while test head p.end) a (subst (λ (n : Way). Grows w.locals n.locals) (sym p.is) (follows (PWhile at test body) d w next h).grows) (behind_while test head p.end under to_end end))
    stmt_above (PFor at name name_at over body) d w next forgets a h =
        let p : ForParts d w next name name_at over body = for_parts d w next at name name_at over body h in
        let all : List ℕ = name ∷ assigned_in body in
        let put : with_local name p.item p.item w.locals ≡ p.named = (stored_ok d w.locals (named_at name name_at) p.item p.named p.names).1 in
        let to_named : Grows w.locals p.named = subst (λ ls. Grows w.locals ls) put (local_grows name p.item p.item w.locals) in
        let head : List PlainLocal = for_head all w.locals p.named in
        let start : List PlainLocal = with_local name p.item p.item head in
        let under : AllUnder floor head = head_of_for all w.locals p.named forgets to_named a.under in
        let end : Above p.end = all_above body (within_loop d) (begun start) p.end (forgets_rest floor (name ∷ []) (assigned_in body) forgets) (begun_above start (stored_above name p.item p.item head (forgets_first floor (name ∷ []) (assigned_in body) forgets) under)) p.turn in
        let to_end : Grows head p.end.locals = grows_on head start p.end.locals (local_grows name p.item p.item head) (follows_all body (within_loop d) (begun start) p.end p.turn).grows in
        same_above (on w (after_for head p.end)) next p.is
        (on_above w (after_for head p.end) a (subst (λ (n : Way). Grows w.locals n.locals) (sym p.is) (follows (PFor at name name_at over body) d w next h).grows) (behind_for head p.end under to_end end))

    pub all_above : (xs : PlainStmts) (d : Context) (w next : Way) → Forgets floor (assigned_in xs) → Above w → flow_all d w xs ≡ Ok next → Above next
    all_above PNoStmt d w next forgets a h = same_above w next (same_ok w next h) a
    all_above (PStmt x xs) d w next forgets a h =
        let p : (mid : Way) × (flow d w x ≡ Ok mid) × (cond (goes_on x) (flow_all d mid xs) (done mid) ≡ Ok next) = all_parts d w next x xs h in
        by (goes_on x) p.0 p.2 (forgets_rest floor (assigns x) (cond (goes_on x) (assigned_in xs) []) forgets) (stmt_above x d w p.0 (forgets_first floor (assigns x) (cond (goes_on x) (assigned_in xs) []) forgets) a p.1)
        (λ f b e. all_above xs d p.0 next f b e)
      where
        by : (go : Bool) (mid : Way) → cond go (flow_all d mid xs) (done mid) ≡ Ok next → Forgets floor (cond go (assigned_in xs) []) → Above mid → (Forgets floor (assigned_in xs) → Above mid → flow_all d mid xs ≡ Ok next → Above next) → Above next
        by true mid h f b k = k f b h
        by false mid h f b k = same_above mid next (same_ok mid next h) b

    arms_above : (arms : PlainArms) (d : Context) (w next : Way) (ended : Option (List Known)) (go : Bool) (other : Way → Result Way RuleFault) → Forgets floor (assigned_in_arms arms) → ((w last : Way) → Above w → other w ≡ Ok last → Above last)
        → ((w last : Way) → other w ≡ Ok last → Grows w.locals last.locals) → MetAbove floor (shapes w.locals) ended → Above w → flow_arms d w ended arms go other ≡ Ok next → Above next
    arms_above PNoArm d w next ended go other forgets above grows met a h =
        let p : (last : Way) × (other w ≡ Ok last) × (on last (behind_ways last.locals (meet ended (way go last.locals))) ≡ next) = last_parts d w next ended go other h in
        let b : Above p.0 = above w p.0 a p.1 in
        let behind : List PlainLocal = behind_ways p.0.locals (meet ended (way go p.0.locals)) in
        let met_last : MetAbove floor (shapes p.0.locals) (meet ended (way go p.0.locals)) = above_both floor (shapes p.0.locals) ended (way go p.0.locals) (above_grown floor w.locals p.0.locals ended (grows w p.0 p.1) met) (above_here floor go p.0.locals b.under) in
        same_above (on p.0 behind) next p.2 (on_above p.0 behind b (alike_grows p.0.locals behind (shapes_behind p.0.locals (meet ended (way go p.0.locals)))) (above_behind floor p.0.locals (meet ended (way go p.0.locals)) b.under met_last))
    arms_above (PMoreArms (PArm test body) more) d w next ended go other forgets above grows met a h =
        let p : ArmParts d w next ended go other test body more = arm_parts d w next ended go other test body more h in
        let start : Way = on w (narrowed (shown true test) w.locals) in
        let left : List PlainLocal = narrowed (shown false test) w.locals in
        let rest : List PlainLocal = settled p.end.locals (known_at left) in
        let b : Above start = on_above w start.locals a (alike_grows w.locals start.locals (shapes_narrowed (shown true test) w.locals)) (narrowed_above (shown true test) w.locals a.under) in
        let end : Above p.end = all_above body d start p.end (forgets_first floor (assigned_in body) (assigned_in_arms more) forgets) b p.arm in
        let to_end : Grows w.locals p.end.locals = grows_same start.locals w.locals p.end.locals p.end.locals (shapes_narrowed (shown true test) w.locals) refl (follows_all body d start p.end p.arm).grows in
        let left_end : Grows left p.end.locals = grows_same w.locals left p.end.locals p.end.locals (sym (shapes_narrowed (shown false test) w.locals)) refl to_end in
        let rest_same : shapes rest ≡ shapes p.end.locals = shapes_settled p.end.locals (known_at left) in
        let met_end : MetAbove floor (shapes p.end.locals) (meet ended (way (all_go_on body) p.end.locals)) =
        above_both floor (shapes p.end.locals) ended (way (all_go_on body) p.end.locals) (above_grown floor w.locals p.end.locals ended to_end met) (above_here floor (all_go_on body) p.end.locals end.under) in
        arms_above more d (on p.end rest) next (meet ended (way (all_go_on body) p.end.locals)) go other (forgets_rest floor (assigned_in body) (assigned_in_arms more) forgets) above grows
        (subst (λ ss. MetAbove floor ss (meet ended (way (all_go_on body) p.end.locals))) (sym rest_same) met_end)
        (on_above p.end rest end (alike_grows p.end.locals rest rest_same) (before_above left p.end.locals left_end (narrowed_above (shown false test) w.locals a.under))) p.rest

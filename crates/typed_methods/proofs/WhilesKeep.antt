-- `while` keeps the rules where calls come out of it, if its body does.
use Rattle.std.proofs.Common.{◌≡◌, ◌≤◌, arith, ℕ, Bool, true, false, not, Option, Some, None, Ok, List, [], ◌++◌, refl, sym, ap, ◌∙◌, subst, true≢false}
use Rattle.std.specs.Prelude.{⊤, ◌||◌, ◌&&◌, option_map}
use Rattle.py_tree.specs.declared.names.Place.{Place}
use Rattle.py_tree.specs.Bounded.{ExprNames}
use Rattle.py_tree.specs.PlainExpressions.{PlainExpr, PBool}
use Rattle.py_tree.specs.PlainStatements.{PlainStmt, PWhile, PlainStmts}
use Rattle.py_tree.specs.FlowEnvironment.{PlainLocal, has_name, shown, narrowed}
use Rattle.py_tree.specs.Reachability.{all_go_on, goes_on, breaks, break_in, is_true, assigned_in}
use Rattle.py_tree.specs.Flow.{Context, meet, way, at_head, Way, begun, after_while, flow}
use Rattle.call_graph.specs.SuspendingCode.{Leaving, expr_suspends}
use Rattle.program_meaning.proofs.LocalShapes.{shapes, shapes_narrowed, shapes_at_head}
use Rattle.program_meaning.proofs.FlowGrows.{WhileParts, while_parts}
use Rattle.block_code.specs.PlainVars.{PlainVar}
use Rattle.block_code.specs.GraphFits.{Asked, at_start}
use Rattle.flat_tree.specs.PlainFlat.{Point, PlainFlatTest, FLeaf, FNot, FAnd, FOr, FNoStmt, FStmt, flat_stmts_of}
use Rattle.method_splitter.specs.Points.{PointsPass}
use Rattle.flat_types.specs.FlatTypes.{is_point, Supplies, Ends, Behind, LoopFits, stmts_fit, test_fits}
use Rattle.flat_types.proofs.FlowStays.{EachTyped, all_stay, stmt_stays}
use Rattle.method_splitter.specs.Split.{always}
use Rattle.hoisting.specs.Stages.{Stage, surely, locals_behind, point_behind}
use Rattle.hoisting.specs.HoistExpressions.{Tested, forms}
use Rattle.hoisting.specs.HoistStatements.{opened, flat_all}
use Rattle.typed_hoisting.specs.KnownLocals.{Seen, seen, Kept, Under, Free, AreVariables, AtLeast}
use Rattle.typed_hoisting.specs.TypedHoisting.{AreAmong, Around, GuardsHold, asked_of, code_fits, GoodTest}
use Rattle.typed_hoisting.proofs.LocalLaws.{kept_same, narrowed_more, narrowed_seen}
use Rattle.typed_hoisting.proofs.EnvironmentLaws.{free_later, free_narrowed}
use Rattle.typed_hoisting.proofs.PointLaws.{supplies}
use Rattle.typed_hoisting.proofs.GuardedItems.{none_guarded, mark_guarded}
use Rattle.typed_hoisting.proofs.GoodParts.{numbered_up, numbered_both, among_first, among_rest}
use Rattle.typed_hoisting.proofs.CallsKeep.{Own}
use Rattle.typed_methods.proofs.KnownWays.{MetUnder, met_left, met_right, met_here, met_behind}
use Rattle.typed_methods.proofs.StoredKnown.{all_itself, AllKept, AllUnder, all_under, forget_if, head_seen, under_free, free_same}
use Rattle.typed_methods.proofs.KeptParts.{in_loop_if}
use Rattle.typed_methods.proofs.FlowKept.{or_left, or_right}
use Rattle.typed_methods.proofs.KnownStays.{begun_above, all_above, Forgets, narrowed_above}
use Rattle.typed_methods.proofs.Floors.{Floors, inside_loop, EachForgets, EachUnder, each_narrowed, each_at_head}
use Rattle.typed_methods.proofs.CodeLaws.{stage, At, TypedAs, WaysLead, guards_above, supplied_at, all_under_on, to_stands, supplies_all, point_at, typed_same, are_typed, surely_passes, GoodCode}
use Rattle.typed_methods.proofs.SimpleKeep.{EachVariable, Begins, forms_good, GoodOpened}
use Rattle.typed_methods.proofs.PointsBehind.{behind_is, ends_behind, behind_passes, behind_end}
use Rattle.typed_methods.proofs.ArmsKeep.{GoodAll}

-- The head of a loop

-- it is no more than what is known before the loop
pub head_under : (names : List ℕ) (ls : List PlainLocal) → AllUnder (at_head names ls) ls
head_under names ls x = subst (λ o. Under o (seen ls x)) (sym (head_seen names ls x)) (by (has_name names x) (seen ls x))
  where
    less : (b : Bool) (l : Bool) → (not b && l) ≡ true → l ≡ true
    less true l h = absurd (true≢false (sym h))
    less false l h = h

    by : (b : Bool) (o : Option Seen) → Under (option_map (forget_if b) o) o
    by b None = tt
    by b (Some s) = (refl, less b s.less)

-- nor more than the types of the names that the body assigns
pub head_forgets : (names : List ℕ) (ls : List PlainLocal) → Forgets (at_head names ls) names
head_forgets names ls x s has h = by (seen ls x) (has_name names x) has (sym (head_seen names ls x) ∙ h)
  where
    less_of : (l : Seen) → Some (forget_if true l) ≡ Some s → s.less ≡ false
    less_of l e = sym (ap (λ (o : Option Seen). less_or o) e)
      where
        less_or : Option Seen → Bool
        less_or None = false
        less_or (Some t) = t.less

    by : (o : Option Seen) (b : Bool) → b ≡ true → option_map (forget_if b) o ≡ Some s → s.less ≡ false
    by None b e h = absurd cc
    by (Some l) true e h = less_of l h
    by (Some l) false e h = absurd (true≢false (sym e))

-- Tests that always hold

more_or_same : (b : Bool) (o : Option Seen) → Under (option_map (narrowed_more b) o) o → Kept (option_map (narrowed_more b) o) o
more_or_same b None h = tt
more_or_same b (Some s) h = ap (λ l. Some (record { ty = s.ty; less = l })) (by ((narrowed_more b s).less) s.less h.1 (either_true_too _ s.less))
  where
    either_true_too : (a l : Bool) → l ≡ true → (a || l) ≡ true
    either_true_too true l e = refl
    either_true_too false l e = e

    by : (a l : Bool) → (a ≡ true → l ≡ true) → (l ≡ true → a ≡ true) → l ≡ a
    by true l f g = f refl
    by false true f g = sym (g refl)
    by false false f g = refl

-- where just so much is known, and at least as much as where names are narrowed, narrowing them adds nothing
pub narrowed_already : (names : List ℕ) (ls env : List PlainLocal) → AllKept ls env → AllUnder (narrowed names ls) env → AllKept (narrowed names ls) env
narrowed_already names ls env kept under x =
    subst (λ o. Kept o (seen env x)) (sym (narrowed_seen names ls x)) (by (seen ls x) (seen env x) (kept x) (subst (λ o. Under o (seen env x)) (narrowed_seen names ls x) (under x)))
  where
    by : (o q : Option Seen) → Kept o q → Under (option_map (narrowed_more (has_name names x)) o) q → Kept (option_map (narrowed_more (has_name names x)) o) q
    by None q k u = tt
    by (Some s) q k u = k ∙ more_or_same (has_name names x) (Some s) (subst (Under (Some (narrowed_more (has_name names x) s))) k u)

unnarrowed : (env : List PlainLocal) → AllKept (narrowed [] env) env
unfolding has_name
unnarrowed env x = kept_same (seen (narrowed [] env) x) (seen env x) (narrowed_seen [] env x ∙ by (seen env x))
  where
    by : (o : Option Seen) → option_map (narrowed_more false) o ≡ o
    by None = refl
    by (Some s) = refl

module _ (c : Context) (leaves : Leaving) where
  literal_always : (test : PlainExpr) (h : Stage) → is_true test ≡ true → always ((forms leaves c test).test h).test ≡ true
  unfolding expr_suspends
  literal_always (PBool at true) h e = refl
  literal_always _ h e = absurd (true≢false (sym e))

  holds_only : (e : PlainExpr) (yes' no' : Asked) (env : List PlainLocal) → is_true e ≡ true → yes' (narrowed (shown true e) env) → yes' (narrowed [] env)
  unfolding shown
  holds_only (PBool at b) yes' no' env e h = h
  holds_only _ yes' no' env e h = absurd (true≢false (sym e))

  -- a test that always holds leads to where it holds
  always_leads : (m : Around) (test : PlainFlatTest) (yes' no' : Asked) (env : List PlainLocal) → always test ≡ true → (asked_of c leaves test).fits m yes' no' env → yes' (narrowed [] env)
  unfolding test_fits
  always_leads m (FLeaf FNoStmt e) yes' no' env is h = holds_only e yes' no' env is h.0.1
  always_leads m (FLeaf (FStmt x xs) e) yes' no' env is h = absurd (true≢false (sym is))
  always_leads m (FNot test) yes' no' env is h = absurd (true≢false (sym is))
  always_leads m (FAnd operands) yes' no' env is h = absurd (true≢false (sym is))
  always_leads m (FOr operands) yes' no' env is h = absurd (true≢false (sym is))

not_literal : (b : Bool) → (b ≡ true → ⊥) → not b ≡ true
not_literal true h = absurd (h refl)
not_literal false h = refl

-- a loop keeps the rules by whether its test always holds
loops : (variables : List PlainVar) (head start : Point) (after : Option Point) (test : Asked → Asked → Asked) (body : Asked) (b : Bool) → (b ≡ true → Behind variables head body)
    → (b ≡ false → Behind variables head (test (Supplies start) (Ends after)) × Behind variables start body) → (o : Bool) → b ≡ o → LoopFits variables o head start after test body
loops variables head start after test body b yes' no' true e = yes' e
loops variables head start after test body b yes' no' false e = no' e

module _ (c : Context) (leaves : Leaving) (own : Own leaves) (limit : ℕ) where
  pub while_good : (at : Place) (test : PlainExpr) (body : PlainStmts) → ExprNames limit test → GoodAll c leaves own limit body → (looping : Bool) (floor : Floors) (w : Way) (n : ℕ) (end : Way) → Begins limit floor w n → EachVariable w.locals (assigned_in body) → EachForgets floor.clauses (assigned_in body)
      → flow (in_loop_if c looping) w (PWhile at test body) ≡ Ok end → GoodOpened c leaves own limit (PWhile at test body) looping floor w n end
  unfolding opened stmts_fit goes_on breaks after_while assigned_in PointsPass
  while_good at test body named good_body looping floor w n end b variables forgets h =
      let x : PlainStmt = PWhile at test body in
      let d : Context = in_loop_if c looping in
      let p : WhileParts d w end test body = while_parts d w end at test body h in
      let hs : List PlainLocal = at_head (assigned_in body) w.locals in
      let ss : List PlainLocal = narrowed (shown true test) hs in
      let ns : List PlainLocal = narrowed (shown false test) hs in
      let to_hs : shapes hs ≡ shapes w.locals = shapes_at_head (assigned_in body) w.locals in
      let to_ss : shapes ss ≡ shapes w.locals = shapes_narrowed (shown true test) hs ∙ to_hs in
      let to_ns : shapes ns ≡ shapes w.locals = shapes_narrowed (shown false test) hs ∙ to_hs in
      let free_h : Free n hs = free_same n w.locals hs to_hs b.free in
      let t : Tested PlainFlatTest = (forms leaves c test).test (stage (begun hs) n) in
      let gt : GoodTest c leaves (stage (begun hs) n) (asked_of c leaves t.test) t.next ss ns = (forms_good c leaves own limit test named).test (stage (begun hs) n) b.below free_h p.condition in
      let up : n ≤ t.next = numbered_up n gt.made t.next gt.numbered in
      let inner : Floors = inside_loop hs floor in
      let above_start : AllUnder hs ss = narrowed_above hs (shown true test) hs (all_under hs hs (all_itself hs)) in
      let clauses_head : EachUnder floor.clauses hs = each_at_head floor.clauses (assigned_in body) w.locals forgets b.above.1 in
      let clauses_start : EachUnder floor.clauses ss = each_narrowed floor.clauses (shown true test) hs clauses_head in
      let in_body : EachVariable ss (assigned_in body) = subst (λ ks. EachTyped ks (assigned_in body)) (sym to_ss) variables in
      let begins : Begins limit inner (begun ss) t.next = record { below = omega (arith, b.below, up); free = free_narrowed n t.next (shown true test) hs up free_h; above = (above_start, clauses_start) } in
      let f = flat_all leaves c body (stage (begun ss) t.next) in
      let gb : GoodCode c leaves true inner (begun ss) t.next f.code f.next p.end (all_go_on body) (break_in body) = good_body true inner (begun ss) t.next p.end begins in_body (head_forgets (assigned_in body) w.locals, forgets) p.turn in
      let up2 : t.next ≤ f.next = numbered_up t.next gb.made f.next gb.numbered in
      let end_above : AllUnder hs p.end.locals = (all_above hs body (in_loop_if c true) (begun ss) p.end (head_forgets (assigned_in body) w.locals) (begun_above hs ss above_start) p.turn).under in
      let end_shapes : shapes p.end.locals ≡ shapes ss = (all_stay body (in_loop_if c true) (begun ss) p.end p.turn).same in_body in
      let locals_end : after_while test hs p.end ≡ end.locals = ap (λ (v : Way). v.locals) p.is in
      let ls : List PlainLocal = locals_behind c x w.locals in
      let is : ls ≡ end.locals = behind_is c looping w end x h in
      let same : shapes end.locals ≡ shapes w.locals = (stmt_stays x d w end h).same variables in
      let free : Free f.next end.locals = free_same f.next w.locals end.locals same (free_later n f.next w.locals (omega (arith, up, up2)) b.free) in
      let goes_here : Bool = not (is_true test) || break_in body in
      let behind_met : (env : List PlainLocal) → MetUnder (shapes p.end.locals) (meet (way (not (is_true test)) ns) p.end.breaks) env → AllUnder end.locals env = λ env met.
      subst (λ ks. AllUnder ks env) locals_end (met_behind p.end.locals (meet (way (not (is_true test)) ns) p.end.breaks) env met) in
      record {
        made = gt.made ++ gb.made;
        numbered = numbered_both n gt.made gb.made t.next f.next gt.numbered gb.numbered;
        points = λ variables among typed.
            let typed_h : TypedAs variables hs = typed_same variables w.locals hs to_hs typed in
            let typed_s : TypedAs variables ss = typed_same variables w.locals ss to_ss typed in (
              tt,
              (
                (
                  surely_passes variables n hs free_h typed_h,
                  gt.points variables (among_first variables gt.made gb.made among) (are_typed variables hs typed_h),
                  surely_passes variables t.next ss begins.free typed_s,
                  gb.points variables (among_rest variables gt.made gb.made among) typed_s,
                  behind_passes goes_here ls variables (subst (λ ks. is_point variables (surely ks) ≡ true) (sym is) (surely_passes variables f.next end.locals free (typed_same variables w.locals end.locals same typed))),
                ),
                tt,
              ),
            );
        fits = λ m among typed env at' ways goal go_on.
            let typed_h : TypedAs m.variables hs = typed_same m.variables w.locals hs to_hs typed in
            let typed_s : TypedAs m.variables ss = typed_same m.variables w.locals ss to_ss typed in
            let typed_end : TypedAs m.variables end.locals = typed_same m.variables w.locals end.locals same typed in
            let after : Option Point = point_behind c x w.locals in
            let head : Point = surely hs in
            let env_h : List PlainLocal = at_start m.variables head in
            let env_s : List PlainLocal = at_start m.variables (surely ss) in
            let at_h : At m.variables hs env_h = point_at m.variables n hs free_h typed_h in
            let at_s : At m.variables ss env_s = point_at m.variables t.next ss begins.free typed_s in
            let ends : (there : List PlainLocal) → goes_here ≡ true → AreVariables m.variables there → AllUnder end.locals there → Ends after there = λ there go are under.
            ends_behind goes_here ls there go (subst (λ ks. Supplies (surely ks) there) (sym is) (supplies_all m.variables f.next end.locals there free are under)) in
            let inside : Around = record { variables = m.variables; caught = m.caught; breaks = Ends after; continues = Supplies head } in
            let ways_body : WaysLead inside inner true (break_in body) p.end = record {
              at_break = λ left there are met.
                  ends there (or_right (not (is_true test)) (break_in body) left) are (behind_met there (met_right (shapes p.end.locals) there (way (not (is_true test)) ns) p.end.breaks met));
              at_continue = λ loops there are under. supplies_all m.variables n hs there free_h are under;
              at_caught = ways.at_caught;
            } in
            let body_fits : (start : List PlainLocal) → At m.variables ss start → code_fits c leaves inside f.code (Supplies head) start = λ start there.
            gb.fits inside (among_rest m.variables gt.made gb.made among) typed_s start there ways_body (Supplies head)
            (λ go last at_last. supplies_all m.variables n hs last free_h at_last.are (all_under_on hs p.end.locals last end_above (all_under p.end.locals last at_last.kept))) in
            let guard : GuardsHold m n hs = guards_above m floor.clauses ways.at_caught hs clauses_head n free_h in
            let among1 : AreAmong m.variables gt.made = among_first m.variables gt.made gb.made among in
            let always_fits : always t.test ≡ true → At m.variables ss env_h = λ yes'.
            let least : AtLeast m.variables n ss (narrowed [] env_h) = always_leads c leaves m t.test (AtLeast m.variables n ss) (λ there. ⊤) env_h yes'
            (gt.sides m among1 env_h (to_stands m.variables n hs env_h at_h) guard (AtLeast m.variables n ss) (λ there. ⊤) (λ there least. least) (λ there least. tt)) in
            record {
              are = at_h.are;
              kept = narrowed_already (shown true test) hs env_h at_h.kept
                  (all_under_on ss (narrowed [] env_h) env_h (under_free n m.variables ss (narrowed [] env_h) (free_narrowed n n (shown true test) hs (omega arith) free_h) least) (all_under (narrowed [] env_h) env_h (unnarrowed env_h)));
            } in
            let failing : always t.test ≡ false → (there : List PlainLocal) → AtLeast m.variables n ns there → Ends after there = λ no' there least.
            let open' : not (is_true test) ≡ true = not_literal (is_true test) (λ e. true≢false (sym (literal_always c leaves test (stage (begun hs) n) e) ∙ no')) in
            let under : AllUnder ns there = under_free n m.variables ns there (free_narrowed n n (shown false test) hs (omega arith) free_h) least in
            let met : MetUnder (shapes p.end.locals) (way (not (is_true test)) ns) there =
            subst (λ ks. MetUnder ks (way (not (is_true test)) ns) there) (to_ns ∙ sym to_ss ∙ sym end_shapes) (subst (λ o. MetUnder (shapes ns) (way o ns) there) (sym open') (met_here ns there under)) in
            ends there (or_left (not (is_true test)) (break_in body) open') least.are (behind_met there (met_left (shapes p.end.locals) there (way (not (is_true test)) ns) p.end.breaks met)) in
            let loop : (o : Bool) → always t.test ≡ o → LoopFits m.variables o head (surely ss) after (λ yes' no' locals. test_fits c leaves m.variables m.caught m.breaks m.continues t.test yes' no' locals)
            (λ locals. stmts_fit c leaves m.variables m.caught (Ends after) (Supplies head) (flat_stmts_of f.code) (Supplies head) locals) =
            loops m.variables head (surely ss) after _ _ (always t.test) (λ yes'. body_fits env_h (always_fits yes'))
            (λ no'. (
              gt.sides m among1 env_h (to_stands m.variables n hs env_h at_h) guard (Supplies (surely ss)) (Ends after)
                  (λ there least. supplies m.variables n ss there (free_narrowed n n (shown true test) hs (omega arith) free_h) least) (failing no'),
              body_fits env_s at_s,
            )) in (
              (
                supplies_all m.variables n hs env free_h at'.are (all_under_on hs w.locals env (head_under (assigned_in body) w.locals) (all_under w.locals env at'.kept)),
                loop (always t.test) refl,
                behind_end goes_here ls m.variables goal
                    (λ go. go_on go (at_start m.variables (surely ls)) (subst (λ ks. At m.variables end.locals (at_start m.variables (surely ks))) (sym is) (point_at m.variables f.next end.locals free typed_end))),
                none_guarded c m.caught env_h (supplied_at m floor.clauses ways.at_caught hs clauses_head env_h at_h),
                none_guarded c m.caught env_s (supplied_at m floor.clauses ways.at_caught ss clauses_start env_s at_s),
              ),
              mark_guarded c m.caught env (supplied_at m floor.clauses ways.at_caught w.locals b.above.1 env at'),
            );
      }

-- `if` keeps the rules where calls come out of it, if its arms do and what follows them.
use Rattle.std.proofs.Common.{◌≡◌, ◌≤◌, arith, ℕ, Bool, true, false, Option, None, Result, Ok, List, [], ◌++◌, refl, sym, ap, ◌∙◌, subst}
use Rattle.std.specs.Prelude.{◌||◌}
use Rattle.py_tree.specs.declared.names.Place.{Place}
use Rattle.py_tree.specs.declared.rule.RuleFault.{RuleFault}
use Rattle.py_tree.specs.Bounded.{ExprNames}
use Rattle.py_tree.specs.PlainExpressions.{PlainExpr}
use Rattle.py_tree.specs.PlainStatements.{PIf, PlainStmts, PArm, PlainArms, PNoArm, PMoreArms}
use Rattle.py_tree.specs.FlowEnvironment.{PlainLocal, shown, narrowed}
use Rattle.py_tree.specs.Reachability.{goes_on, all_go_on, an_arm_goes_on, breaks, break_in, break_in_arm, assigned_in, assigned_in_arms}
use Rattle.py_tree.specs.Flow.{Context, Known, known_at, settled, meet, way, behind_ways, Way, on, flow, flow_all, flow_arms}
use Rattle.call_graph.specs.SuspendingCode.{Leaving}
use Rattle.program_meaning.proofs.LocalShapes.{shapes, Grows, shapes_narrowed, shapes_behind}
use Rattle.program_meaning.proofs.FlowGrows.{follows_all, last_parts, ArmParts, arm_parts}
use Rattle.block_code.specs.PlainVars.{PlainVar}
use Rattle.block_code.specs.GraphFits.{Asked, at_start}
use Rattle.flat_tree.specs.PlainFlat.{PlainFlatStmt, PlainFlatArms, PlainFlatTest, flat_stmts_of}
use Rattle.method_splitter.specs.Points.{PointsPass, PointsPassInArms}
use Rattle.flat_types.specs.FlatTypes.{is_point, Supplies, Ends, stmts_fit, arms_fit}
use Rattle.flat_types.proofs.FlowStays.{EachTyped, all_stay, stmt_stays, first_typed, later_typed}
use Rattle.hoisting.specs.Stages.{Stage, surely, locals_behind, point_behind}
use Rattle.hoisting.specs.HoistExpressions.{Tested, forms}
use Rattle.hoisting.specs.HoistStatements.{Flattened, opened, flat_all, flat_arms, other_stage}
use Rattle.typed_hoisting.specs.KnownLocals.{Free, AreVariables}
use Rattle.typed_hoisting.specs.TypedHoisting.{Numbered, AreAmong, CodePasses, Around, asked_of, GoodTest}
use Rattle.typed_hoisting.proofs.EnvironmentLaws.{free_later, free_narrowed}
use Rattle.typed_hoisting.proofs.PointLaws.{supplies}
use Rattle.typed_hoisting.proofs.GuardedItems.{mark_guarded}
use Rattle.typed_hoisting.proofs.GoodParts.{numbered_up, numbered_both, among_first, among_rest}
use Rattle.typed_hoisting.proofs.CallsKeep.{Own}
use Rattle.typed_methods.proofs.KnownWays.{MetUnder, met_right, met_here, met_behind}
use Rattle.typed_methods.proofs.StoredKnown.{AllUnder, all_under, free_same}
use Rattle.typed_methods.proofs.KeptParts.{in_loop_if}
use Rattle.typed_methods.proofs.FlowKept.{or_left, or_right}
use Rattle.typed_methods.proofs.WaysOn.{LeftUnder, arms_left_on, all_left_on, ended_on}
use Rattle.typed_methods.proofs.Floors.{Floors, all_floors, EachForgets, EachUnder, each_first, each_rest, each_narrowed}
use Rattle.typed_methods.proofs.CodeLaws.{stage, At, TypedAs, WaysLead, guards_above, supplied_at, to_stands, at_as, supplies_all, point_at, typed_same, are_typed, surely_passes, GoodCode}
use Rattle.typed_methods.proofs.SimpleKeep.{EachVariable, Begins, forms_good, GoodOpened}
use Rattle.typed_methods.proofs.PointsBehind.{settled_same, behind_is, ends_behind, behind_passes, behind_end}

module _ (c : Context) (leaves : Leaving) (own : Own leaves) (limit : ℕ) where
  abbrev pub flattened : PlainStmts → Way → ℕ → Flattened (List PlainFlatStmt)
  flattened xs w n = flat_all leaves c xs (stage w n)

  -- statements keep the rules wherever they break none
  abbrev pub GoodAll : PlainStmts → Type 1
  GoodAll xs =
      (looping : Bool) (floor : Floors) (w : Way) (n : ℕ) (end : Way) → Begins limit floor w n → EachVariable w.locals (assigned_in xs) → EachForgets (all_floors floor) (assigned_in xs) → flow_all (in_loop_if c looping) w xs ≡ Ok end
      → GoodCode c leaves looping floor w n (flattened xs w n).code (flattened xs w n).next end (all_go_on xs) (break_in xs)

  -- so do arms, if what follows them is so where all their tests are False
  pub record ArmsFit (looping : Bool) (floor : Floors) (w : Way) (n : ℕ) (arms : PlainFlatArms) (next : ℕ) (end : Way) (goes left : Bool) (rest : List PlainLocal) : Type 1 where
    pub made : List PlainVar
    pub numbered : Numbered n made next
    pub points : (variables : List PlainVar) → AreAmong variables made → TypedAs variables w.locals → PointsPassInArms (is_point variables) arms
    pub fits : (m : Around) → AreAmong m.variables made → TypedAs m.variables w.locals → (env : List PlainLocal) → At m.variables w.locals env → WaysLead m floor looping left end → (goal other : Asked)
        → (goes ≡ true → (after : List PlainLocal) → AreVariables m.variables after → AllUnder end.locals after → goal after) → ((after : List PlainLocal) → At m.variables rest after → other after)
        → arms_fit c leaves m.variables m.caught m.breaks m.continues arms goal other env

  abbrev pub Other : Type 0
  Other = Way → Result Way RuleFault

  -- what follows arms grows the locals, and adds to what is known where a loop has been left
  pub record GoesOn (other : Other) : Type 0 where
    pub grows : (w last : Way) → other w ≡ Ok last → Grows w.locals last.locals
    pub left : (env : List PlainLocal) (w last : Way) → other w ≡ Ok last → LeftUnder env w → LeftUnder env last

  abbrev pub GoodArms : PlainArms → Type 1
  GoodArms arms =
      (looping : Bool) (floor : Floors) (w : Way) (n : ℕ) (end : Way) → Begins limit floor w n → EachVariable w.locals (assigned_in_arms arms) → EachForgets (all_floors floor) (assigned_in_arms arms)
      → (ended : Option (List Known)) (go : Bool) (other : Other) → GoesOn other → flow_arms (in_loop_if c looping) w ended arms go other ≡ Ok end
      → ArmsFit looping floor w n (flat_arms leaves c arms (stage w n)).code (flat_arms leaves c arms (stage w n)).next end (an_arm_goes_on arms) (break_in_arm arms) (other_stage leaves c arms (stage w n)).locals

  other_locals : (arms : PlainArms) (ls : List PlainLocal) (a b : ℕ) → (other_stage leaves c arms (record { locals = ls; next = a })).locals ≡ (other_stage leaves c arms (record { locals = ls; next = b })).locals
  unfolding opened
  other_locals PNoArm ls a b = refl
  other_locals (PMoreArms (PArm test body) more) ls a b = other_locals more (narrowed (shown false test) ls) a b

  pub no_arms : GoodArms PNoArm
  unfolding opened stmts_fit PointsPass
  no_arms looping floor w n end b variables forgets ended go other goes h = record { made = []; numbered = refl; points = λ variables among typed. tt; fits = λ m among typed env at ways goal other go_on rest. rest env at }

  -- behind an arm
  module _ (looping : Bool) (w : Way) (test : PlainExpr) (body : PlainStmts) (last : Way) (variables : EachVariable w.locals (assigned_in body)) (arm : flow_all (in_loop_if c looping) (on w (narrowed (shown true test) w.locals)) body ≡ Ok last) where
    abbrev yes' : Way
    yes' = on w (narrowed (shown true test) w.locals)

    abbrev no' : Way
    no' = on last (narrowed (shown false test) w.locals)

    to_last : shapes last.locals ≡ shapes w.locals
    to_last =
        (all_stay body (in_loop_if c looping) yes' last arm).same (subst (λ ss. EachTyped ss (assigned_in body)) (sym (shapes_narrowed (shown true test) w.locals)) variables) ∙ shapes_narrowed (shown true test) w.locals

    to_no : shapes no'.locals ≡ shapes last.locals
    to_no = shapes_narrowed (shown false test) w.locals ∙ sym to_last

    is_no : settled last.locals (known_at (narrowed (shown false test) w.locals)) ≡ narrowed (shown false test) w.locals
    is_no = settled_same last.locals (narrowed (shown false test) w.locals) (sym to_no)

  pub arm_step : (test : PlainExpr) (body : PlainStmts) (more : PlainArms) → ExprNames limit test → GoodAll body → GoodArms more → GoodArms (PMoreArms (PArm test body) more)
  unfolding opened stmts_fit PointsPass assigned_in goes_on breaks
  arm_step test body more named good_body good_more looping floor w n end b variables forgets ended go other others h =
      let d : Context = in_loop_if c looping in
      let p : ArmParts d w end ended go other test body more = arm_parts d w end ended go other test body more h in
      let in_body : EachVariable w.locals (assigned_in body) = first_typed (shapes w.locals) (assigned_in body) (assigned_in_arms more) variables in
      let in_more : EachVariable w.locals (assigned_in_arms more) = later_typed (shapes w.locals) (assigned_in body) (assigned_in_arms more) variables in
      let ls : List PlainLocal = narrowed (shown true test) w.locals in
      let rs : List PlainLocal = narrowed (shown false test) w.locals in
      let w1 : Way = on w ls in
      let w2 : Way = on p.end rs in
      let shapes1 : shapes ls ≡ shapes w.locals = shapes_narrowed (shown true test) w.locals in
      let shapes2 : shapes rs ≡ shapes w.locals = shapes_narrowed (shown false test) w.locals in
      let rest_flow : flow_arms d w2 (meet ended (way (all_go_on body) p.end.locals)) more go other ≡ Ok end =
      subst (λ ks. flow_arms d (on p.end ks) (meet ended (way (all_go_on body) p.end.locals)) more go other ≡ Ok end) (is_no looping w test body p.end in_body p.arm) p.rest in
      let here : Stage = stage w n in
      let t : Tested PlainFlatTest = (forms leaves c test).test here in
      let gt : GoodTest c leaves here (asked_of c leaves t.test) t.next ls rs = (forms_good c leaves own limit test named).test here b.below b.free p.condition in
      let up : n ≤ t.next = numbered_up n gt.made t.next gt.numbered in
      let begins1 : Begins limit floor w1 t.next = record { below = omega (arith, b.below, up); free = free_narrowed n t.next (shown true test) w.locals up b.free; above = each_narrowed (all_floors floor) (shown true test) w.locals b.above } in
      let f = flattened body w1 t.next in
      let gb : GoodCode c leaves looping floor w1 t.next f.code f.next p.end (all_go_on body) (break_in body) =
      good_body looping floor w1 t.next p.end begins1 (subst (λ ss. EachTyped ss (assigned_in body)) (sym shapes1) in_body) (each_first (all_floors floor) (assigned_in body) (assigned_in_arms more) forgets) p.arm in
      let up2 : t.next ≤ f.next = numbered_up t.next gb.made f.next gb.numbered in
      let begins2 : Begins limit floor w2 f.next = record { below = omega (arith, b.below, up, up2); free = free_narrowed n f.next (shown false test) w.locals (omega (arith, up, up2)) b.free; above = each_narrowed (all_floors floor) (shown false test) w.locals b.above } in
      let g = flat_arms leaves c more (stage w2 f.next) in
      let gm : ArmsFit looping floor w2 f.next g.code g.next end (an_arm_goes_on more) (break_in_arm more) (other_stage leaves c more (stage w2 f.next)).locals =
      good_more looping floor w2 f.next end begins2 (subst (λ ss. EachTyped ss (assigned_in_arms more)) (sym shapes2) in_more) (each_rest (all_floors floor) (assigned_in body) (assigned_in_arms more) forgets) (meet ended (way (all_go_on body) p.end.locals)) go other others rest_flow in
      let no_same : shapes rs ≡ shapes p.end.locals = to_no looping w test body p.end in_body p.arm in
      record {
        made = gt.made ++ (gb.made ++ gm.made);
        numbered = numbered_both n gt.made (gb.made ++ gm.made) t.next g.next gt.numbered (numbered_both t.next gb.made gm.made f.next g.next gb.numbered gm.numbered);
        points = λ variables among typed.
            let among2 : AreAmong variables (gb.made ++ gm.made) = among_rest variables gt.made (gb.made ++ gm.made) among in
            let typed1 : TypedAs variables ls = typed_same variables w.locals ls shapes1 typed in
            let typed2 : TypedAs variables rs = typed_same variables w.locals rs shapes2 typed in (
              gt.points variables (among_first variables gt.made (gb.made ++ gm.made) among) (are_typed variables w.locals typed),
              surely_passes variables t.next ls begins1.free typed1,
              gb.points variables (among_first variables gb.made gm.made among2) typed1,
              surely_passes variables f.next rs begins2.free typed2,
              gm.points variables (among_rest variables gb.made gm.made among2) typed2,
            );
        fits = λ m among typed env at ways goal other' go_on rest.
            let among2 : AreAmong m.variables (gb.made ++ gm.made) = among_rest m.variables gt.made (gb.made ++ gm.made) among in
            let typed1 : TypedAs m.variables ls = typed_same m.variables w.locals ls shapes1 typed in
            let typed2 : TypedAs m.variables rs = typed_same m.variables w.locals rs shapes2 typed in
            let ways1 : WaysLead m floor looping (break_in body) p.end = record {
              at_break = λ left after are met.
                  ways.at_break (or_left (break_in body) (break_in_arm more) left) after are
                  (arms_left_on after more d w2 end (meet ended (way (all_go_on body) p.end.locals)) go other (others.left after) rest_flow (subst (λ ss. MetUnder ss p.end.breaks after) (sym no_same) met));
              at_continue = ways.at_continue;
              at_caught = ways.at_caught;
            } in
            let ways2 : WaysLead m floor looping (break_in_arm more) end = record { at_break = λ left after are met. ways.at_break (or_right (break_in body) (break_in_arm more) left) after are met; at_continue = ways.at_continue; at_caught = ways.at_caught } in
            let behind : all_go_on body ≡ true → (after : List PlainLocal) → At m.variables p.end.locals after → goal after = λ go_body after there.
            go_on (or_left (all_go_on body) (an_arm_goes_on more) go_body) after there.are
            (ended_on after more d w2 end (meet ended (way (all_go_on body) p.end.locals)) go other others.grows rest_flow
            (subst (λ ss. MetUnder ss (meet ended (way (all_go_on body) p.end.locals)) after) (sym no_same)
            (met_right (shapes p.end.locals) after ended (way (all_go_on body) p.end.locals) (subst (λ o. MetUnder (shapes p.end.locals) (way o p.end.locals) after) (sym go_body) (met_here p.end.locals after (all_under p.end.locals after there.kept)))))) in (
              gt.sides m (among_first m.variables gt.made (gb.made ++ gm.made) among) env (to_stands m.variables n w.locals env at) (guards_above m floor.clauses ways.at_caught w.locals b.above.1 n b.free) (Supplies (surely ls)) (Supplies (surely rs))
                  (λ after least. supplies m.variables n ls after (free_narrowed n n (shown true test) w.locals (omega arith) b.free) least)
                  (λ after least. supplies m.variables n rs after (free_narrowed n n (shown false test) w.locals (omega arith) b.free) least),
              gb.fits m (among_first m.variables gb.made gm.made among2) typed1 (at_start m.variables (surely ls)) (point_at m.variables t.next ls begins1.free typed1) ways1 goal behind,
              gm.fits m (among_rest m.variables gb.made gm.made among2) typed2 (at_start m.variables (surely rs)) (point_at m.variables f.next rs begins2.free typed2) ways2 goal other'
                  (λ go_more after are under. go_on (or_right (all_go_on body) (an_arm_goes_on more) go_more) after are under)
                  (λ after there. rest after (at_as m.variables _ _ after (other_locals more rs f.next n) there)),
            );
      }

  -- Where all tests are False, and behind what follows then

  pub record ArmsEnd (w : Way) (end : Way) (go : Bool) (other : Other) (rest : List PlainLocal) : Type 0 where
    pub mid : Way
    pub at : mid.locals ≡ rest
    pub last : Way
    pub is : other mid ≡ Ok last
    pub same : shapes rest ≡ shapes w.locals
    pub behind : (env : List PlainLocal) → go ≡ true → AllUnder last.locals env → AllUnder end.locals env
    pub left : (env : List PlainLocal) → LeftUnder env last → LeftUnder env end

  pub arms_end : (arms : PlainArms) (looping : Bool) (w : Way) (n : ℕ) (end : Way) (ended : Option (List Known)) (go : Bool) (other : Other) → EachVariable w.locals (assigned_in_arms arms) → flow_arms (in_loop_if c looping) w ended arms go other ≡ Ok end
      → ArmsEnd w end go other (other_stage leaves c arms (stage w n)).locals
  unfolding opened assigned_in
  arms_end PNoArm looping w n end ended go other variables h =
      let p : (last : Way) × (other w ≡ Ok last) × (on last (behind_ways last.locals (meet ended (way go last.locals))) ≡ end) = last_parts (in_loop_if c looping) w end ended go other h in
      let met : Option (List Known) = meet ended (way go p.0.locals) in
      record {
        mid = w;
        at = refl;
        last = p.0;
        is = p.1;
        same = refl;
        behind = λ env go_on under.
            subst (λ (v : Way). AllUnder v.locals env) p.2
            (met_behind p.0.locals met env (met_right (shapes p.0.locals) env ended (way go p.0.locals) (subst (λ o. MetUnder (shapes p.0.locals) (way o p.0.locals) env) (sym go_on) (met_here p.0.locals env under))));
        left = λ env m. subst (λ v. LeftUnder env v) p.2 (subst (λ ss. MetUnder ss p.0.breaks env) (sym (shapes_behind p.0.locals met)) m);
      }
  arms_end (PMoreArms (PArm test body) more) looping w n end ended go other variables h =
      let d : Context = in_loop_if c looping in
      let p : ArmParts d w end ended go other test body more = arm_parts d w end ended go other test body more h in
      let in_body : EachVariable w.locals (assigned_in body) = first_typed (shapes w.locals) (assigned_in body) (assigned_in_arms more) variables in
      let rs : List PlainLocal = narrowed (shown false test) w.locals in
      let shapes2 : shapes rs ≡ shapes w.locals = shapes_narrowed (shown false test) w.locals in
      let q : ArmsEnd (on p.end rs) end go other (other_stage leaves c more (stage (on p.end rs) n)).locals =
      arms_end more looping (on p.end rs) n end (meet ended (way (all_go_on body) p.end.locals)) go other (subst (λ ss. EachTyped ss (assigned_in_arms more)) (sym shapes2) (later_typed (shapes w.locals) (assigned_in body) (assigned_in_arms more) variables))
      (subst (λ ks. flow_arms d (on p.end ks) (meet ended (way (all_go_on body) p.end.locals)) more go other ≡ Ok end) (is_no looping w test body p.end in_body p.arm) p.rest) in
      record { mid = q.mid; at = q.at; last = q.last; is = q.is; same = q.same ∙ shapes2; behind = q.behind; left = q.left }

  other_above : (fs : List (List PlainLocal)) (arms : PlainArms) (w : Way) (n : ℕ) → EachUnder fs w.locals → EachUnder fs (other_stage leaves c arms (stage w n)).locals
  unfolding opened
  other_above fs PNoArm w n under = under
  other_above fs (PMoreArms (PArm test body) more) w n under = other_above fs more (on w (narrowed (shown false test) w.locals)) n (each_narrowed fs (shown false test) w.locals under)

  pub if_good : (at : Place) (arms : PlainArms) (other : PlainStmts) → GoodArms arms → GoodAll other → (looping : Bool) (floor : Floors) (w : Way) (n : ℕ) (end : Way) → Begins limit floor w n
      → EachVariable w.locals (assigned_in_arms arms ++ assigned_in other) → EachForgets (all_floors floor) (assigned_in_arms arms ++ assigned_in other) → flow (in_loop_if c looping) w (PIf at arms other) ≡ Ok end → GoodOpened c leaves own limit (PIf at arms other) looping floor w n end
  unfolding opened stmts_fit PointsPass flow goes_on breaks assigned_in
  if_good at arms other good_arms good_other looping floor w n end b variables forgets h =
      let d : Context = in_loop_if c looping in
      let others : Other = λ last. flow_all d last other in
      let goes : GoesOn others = record { grows = λ v last e. (follows_all other d v last e).grows; left = λ env v last e m. all_left_on env other d v last e m } in
      let in_arms : EachVariable w.locals (assigned_in_arms arms) = first_typed (shapes w.locals) (assigned_in_arms arms) (assigned_in other) variables in
      let in_other : EachVariable w.locals (assigned_in other) = later_typed (shapes w.locals) (assigned_in_arms arms) (assigned_in other) variables in
      let f = flat_arms leaves c arms (stage w n) in
      let rest : List PlainLocal = (other_stage leaves c arms (stage w n)).locals in
      let ga : ArmsFit looping floor w n f.code f.next end (an_arm_goes_on arms) (break_in_arm arms) rest =
      good_arms looping floor w n end b in_arms (each_first (all_floors floor) (assigned_in_arms arms) (assigned_in other) forgets) None (all_go_on other) others goes h in
      let q : ArmsEnd w end (all_go_on other) others rest = arms_end arms looping w n end None (all_go_on other) others in_arms h in
      let up : n ≤ f.next = numbered_up n ga.made f.next ga.numbered in
      let same : shapes q.mid.locals ≡ shapes w.locals = ap shapes q.at ∙ q.same in
      let begins : Begins limit floor q.mid f.next = record {
        below = omega (arith, b.below, up);
        free = free_same f.next w.locals q.mid.locals same (free_later n f.next w.locals up b.free);
        above = subst (EachUnder (all_floors floor)) (sym q.at) (other_above (all_floors floor) arms w n b.above);
      } in
      let go : GoodCode c leaves looping floor q.mid f.next (flattened other q.mid f.next).code (flattened other q.mid f.next).next q.last (all_go_on other) (break_in other) =
      good_other looping floor q.mid f.next q.last begins (subst (λ ss. EachTyped ss (assigned_in other)) (sym same) in_other) (each_rest (all_floors floor) (assigned_in_arms arms) (assigned_in other) forgets) q.is in
      let code : List PlainLocal → Flattened (List PlainFlatStmt) = λ ls. flat_all leaves c other (record { locals = ls; next = f.next }) in
      let ls : List PlainLocal = locals_behind c (PIf at arms other) w.locals in
      let is : ls ≡ end.locals = behind_is c looping w end (PIf at arms other) h in
      let end_same : shapes end.locals ≡ shapes w.locals = (stmt_stays (PIf at arms other) d w end h).same variables in
      let next : ℕ = (code rest).next in
      let numbered : Numbered f.next go.made next = subst (λ ks. Numbered f.next go.made (code ks).next) q.at go.numbered in
      let free : Free next end.locals = free_same next w.locals end.locals end_same (free_later n next w.locals (omega (arith, up, numbered_up f.next go.made next numbered)) b.free) in
      let goes_here : Bool = an_arm_goes_on arms || all_go_on other in
      record {
        made = ga.made ++ go.made;
        numbered = numbered_both n ga.made go.made f.next next ga.numbered numbered;
        points = λ variables among typed. (
          tt,
          (
            (
              ga.points variables (among_first variables ga.made go.made among) typed,
              subst (λ ks. CodePasses variables (code ks).code) q.at (go.points variables (among_rest variables ga.made go.made among) (typed_same variables w.locals q.mid.locals same typed)),
              behind_passes goes_here ls variables (subst (λ ks. is_point variables (surely ks) ≡ true) (sym is) (surely_passes variables next end.locals free (typed_same variables w.locals end.locals end_same typed))),
            ),
            tt,
          ),
        );
        fits = λ m among typed env at' ways goal go_on.
            let typed_end : TypedAs m.variables end.locals = typed_same m.variables w.locals end.locals end_same typed in
            let point : (after : List PlainLocal) → goes_here ≡ true → AreVariables m.variables after → AllUnder end.locals after → Ends (point_behind c (PIf at arms other) w.locals) after = λ after go are under.
            ends_behind goes_here ls after go (subst (λ ks. Supplies (surely ks) after) (sym is) (supplies_all m.variables next end.locals after free are under)) in
            let ways1 : WaysLead m floor looping (break_in_arm arms) end = record { at_break = λ left after are met. ways.at_break (or_left (break_in_arm arms) (break_in other) left) after are met; at_continue = ways.at_continue; at_caught = ways.at_caught } in
            let ways2 : WaysLead m floor looping (break_in other) q.last = record { at_break = λ left after are met. ways.at_break (or_right (break_in_arm arms) (break_in other) left) after are (q.left after met); at_continue = ways.at_continue; at_caught = ways.at_caught } in
            let behind : all_go_on other ≡ true → (after : List PlainLocal) → At m.variables q.last.locals after → Ends (point_behind c (PIf at arms other) w.locals) after = λ go after there.
            point after (or_right (an_arm_goes_on arms) (all_go_on other) go) there.are (q.behind after go (all_under q.last.locals after there.kept)) in (
              (
                ga.fits m (among_first m.variables ga.made go.made among) typed env at' ways1 (Ends (point_behind c (PIf at arms other) w.locals))
                    (λ locals. stmts_fit c leaves m.variables m.caught m.breaks m.continues (flat_stmts_of (code rest).code) (Ends (point_behind c (PIf at arms other) w.locals)) locals)
                    (λ go after are under. point after (or_left (an_arm_goes_on arms) (all_go_on other) go) are under)
                    (λ after there.
                    subst (λ ks. stmts_fit c leaves m.variables m.caught m.breaks m.continues (flat_stmts_of (code ks).code) (Ends (point_behind c (PIf at arms other) w.locals)) after) q.at
                    (go.fits m (among_rest m.variables ga.made go.made among) (typed_same m.variables w.locals q.mid.locals same typed) after (at_as m.variables rest q.mid.locals after (sym q.at) there) ways2
                    (Ends (point_behind c (PIf at arms other) w.locals)) behind)),
                behind_end goes_here ls m.variables goal
                    (λ go. go_on go (at_start m.variables (surely ls)) (subst (λ ks. At m.variables end.locals (at_start m.variables (surely ks))) (sym is) (point_at m.variables next end.locals free typed_end))),
              ),
              mark_guarded c m.caught env (supplied_at m floor.clauses ways.at_caught w.locals b.above.1 env at'),
            );
      }

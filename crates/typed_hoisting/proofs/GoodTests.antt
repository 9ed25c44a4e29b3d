-- Tests that keep the rules, and one of two values by a test.
use Rattle.std.proofs.Common.{◌≡◌, ◌≤◌, ◌+◌, arith, ℕ, Bool, true, false, Option, List, [], ◌∷◌, ◌++◌, refl}
use Rattle.py_tree.specs.declared.names.Place.{Place}
use Rattle.py_tree.specs.PlainTypes.{PlainTy, TBool}
use Rattle.py_tree.specs.PlainExpressions.{PlainExpr, PBool, PNot, PAnd, POr, PlainExprs, PNoExpr, PExpr}
use Rattle.py_tree.specs.FlowEnvironment.{PlainLocal, shown, shown_by_each, narrowed}
use Rattle.py_tree.specs.ExpressionTypes.{assignable, type_of}
use Rattle.py_tree.specs.Flow.{Context, with_local}
use Rattle.call_graph.specs.SuspendingCode.{Leaving, expr_suspends}
use Rattle.block_code.specs.PlainVars.{PlainVar}
use Rattle.block_code.specs.GraphFits.{Asked, HasType, at_start}
use Rattle.flat_tree.specs.PlainFlat.{FSet, PlainFlatTest, FNot, FAnd, FOr, FOperand, PlainOperands, FNoOperand, FMoreOperands, FNoStmt}
use Rattle.method_splitter.specs.Points.{PointsPass, PointsPassInOperands}
use Rattle.flat_types.specs.FlatTypes.{is_point, Supplies, Behind, stmts_fit, test_fits, each_fits}
use Rattle.hoisting.specs.Stages.{Stage, surely, temporary, where_shown}
use Rattle.hoisting.specs.HoistExpressions.{Hoisted, Tested, still, chosen, truth_of, made_of}
use Rattle.typed_hoisting.specs.KnownLocals.{Free, Stands, AtLeast}
use Rattle.typed_hoisting.specs.TypedHoisting.{AreAmong, AreTyped, Around, GuardsHold, AskedOfTest, code_fits, asked_of, Typed, Good, GoodTest}
use Rattle.typed_hoisting.proofs.Assignable.{assigned_itself}
use Rattle.typed_hoisting.proofs.EnvironmentLaws.{alike_itself, alike_on, more_alike, more_free, free_later, free_narrowed, reads_temporary, as_least, narrowed_least, forgotten_least, joined_least, unnarrowed_least, least_behind}
use Rattle.typed_hoisting.proofs.PointLaws.{IsVariable, found_local, supplies, stands_behind}
use Rattle.typed_hoisting.proofs.PassingPoints.{point_passes, typed_narrowed, passes_both}
use Rattle.typed_hoisting.proofs.StoredLaws.{takes, stored_least}
use Rattle.typed_hoisting.proofs.GuardedItems.{guards_on, guards_narrowed, guards_more, set_guarded}
use Rattle.typed_hoisting.proofs.GoodParts.{made_var, numbered_up, numbered_both, one_numbered, among_first, among_rest, adds_behind, adds_temporary, code_then, still_good, variable_stays}

module _ (c : Context) (leaves : Leaving) where
  -- what is asked of operands
  abbrev pub asked_of_each : Bool → PlainOperands → AskedOfTest
  asked_of_each truth operands = record {
    fits = λ m holds fails locals. each_fits c leaves m.variables truth m.caught m.breaks m.continues operands holds fails locals;
    passes = λ variables. PointsPassInOperands (is_point variables) operands;
  }

  -- where names are narrowed, the point leads to where as much is known
  narrowed_behind : (m : Around) (h : Stage) (names : List ℕ) (env : List PlainLocal) → Free h.next h.locals → Stands m.variables h.next h.locals env → (n : ℕ) → Stands m.variables n (narrowed names h.locals) (at_start m.variables (surely (narrowed names h.locals)))
  narrowed_behind m h names env free stands n =
      stands_behind m.variables h.next (narrowed names h.locals) (narrowed names env) (free_narrowed h.next h.next names h.locals (omega arith) free)
      (narrowed_least m.variables h.next h.next names names h.locals h.locals env (omega arith) (λ x e. e) (alike_itself h.next h.locals) stands) n

  narrowed_supplies : (m : Around) (h : Stage) (names : List ℕ) (after : List PlainLocal) → Free h.next h.locals → AtLeast m.variables h.next (narrowed names h.locals) after → Supplies (surely (narrowed names h.locals)) after
  narrowed_supplies m h names after free least = supplies m.variables h.next (narrowed names h.locals) after (free_narrowed h.next h.next names h.locals (omega arith) free) least

  -- Tests

  pub not_test : (h : Stage) (at : Place) (a : PlainExpr) (t : Tested PlainFlatTest) → GoodTest c leaves h (asked_of c leaves t.test) t.next (narrowed (shown true a) h.locals) (narrowed (shown false a) h.locals)
      → GoodTest c leaves h (asked_of c leaves (made_of FNot t).test) t.next (narrowed (shown true (PNot at a)) h.locals) (narrowed (shown false (PNot at a)) h.locals)
  unfolding test_fits shown PointsPass
  not_test h at a t g = record { points = g.points; made = g.made; numbered = g.numbered; sides = λ m among env stands guard yes' no' holds fails. g.sides m among env stands guard no' yes' fails holds }

  pub no_and : (h : Stage) → GoodTest c leaves h (asked_of_each true FNoOperand) h.next (narrowed (shown_by_each true PNoExpr) h.locals) h.locals
  unfolding each_fits shown PointsPass
  no_and h = record { points = λ variables among typed. tt; made = []; numbered = refl; sides = λ m among env stands guard yes' no' holds fails. holds env (unnarrowed_least m.variables h.next h.locals env (as_least m.variables h.next h.locals env stands)) }

  pub no_or : (h : Stage) → GoodTest c leaves h (asked_of_each false FNoOperand) h.next h.locals (narrowed (shown_by_each false PNoExpr) h.locals)
  unfolding each_fits shown PointsPass
  no_or h = record { points = λ variables among typed. tt; made = []; numbered = refl; sides = λ m among env stands guard yes' no' holds fails. fails env (unnarrowed_least m.variables h.next h.locals env (as_least m.variables h.next h.locals env stands)) }

  module _ (h : Stage) (free : Free h.next h.locals) (names others later : List ℕ) (t : PlainFlatTest) (mid : ℕ) (operands : PlainOperands) (next : ℕ) where
    abbrev there : Stage
    there = record { locals = narrowed names h.locals; next = mid }

    abbrev all_operands : PlainOperands
    all_operands = FMoreOperands (FOperand t (surely (narrowed names h.locals))) operands

    more_and : GoodTest c leaves h (asked_of c leaves t) mid (narrowed names h.locals) (narrowed others h.locals) → GoodTest c leaves there (asked_of_each true operands) next (narrowed later (narrowed names h.locals)) (narrowed names h.locals)
        → GoodTest c leaves h (asked_of_each true all_operands) next (narrowed (names ++ later) h.locals) h.locals
    unfolding each_fits PointsPass
    more_and a b = record {
      points = λ variables among typed. (
        a.points variables (among_first variables a.made b.made among) typed,
        point_passes variables (narrowed names h.locals) (free_narrowed h.next h.next names h.locals (omega arith) free).once (typed_narrowed variables names h.locals typed),
        b.points variables (among_rest variables a.made b.made among) (typed_narrowed variables names h.locals typed),
      );
      made = a.made ++ b.made;
      numbered = numbered_both h.next a.made b.made mid next a.numbered b.numbered;
      sides = λ m among env stands guard yes' no' holds fails. (
        a.sides m (among_first m.variables a.made b.made among) env stands guard (Supplies (surely (narrowed names h.locals))) no'
            (λ after least. narrowed_supplies m h names after free least)
            (λ after least. fails after (forgotten_least m.variables h.next h.next others h.locals after (omega arith) least)),
        b.sides m (among_rest m.variables a.made b.made among) (at_start m.variables (surely (narrowed names h.locals))) (narrowed_behind m h names env free stands mid) (guards_narrowed m h.next mid names h.locals (numbered_up h.next a.made mid a.numbered) guard) yes' no'
            (λ after least. holds after (joined_least m.variables h.next mid names later h.locals after (numbered_up h.next a.made mid a.numbered) least))
            (λ after least. fails after (forgotten_least m.variables h.next mid names h.locals after (numbered_up h.next a.made mid a.numbered) least)),
      );
    }

    more_or : GoodTest c leaves h (asked_of c leaves t) mid (narrowed others h.locals) (narrowed names h.locals) → GoodTest c leaves there (asked_of_each false operands) next (narrowed names h.locals) (narrowed later (narrowed names h.locals))
        → GoodTest c leaves h (asked_of_each false all_operands) next h.locals (narrowed (names ++ later) h.locals)
    unfolding each_fits PointsPass
    more_or a b = record {
      points = λ variables among typed. (
        a.points variables (among_first variables a.made b.made among) typed,
        point_passes variables (narrowed names h.locals) (free_narrowed h.next h.next names h.locals (omega arith) free).once (typed_narrowed variables names h.locals typed),
        b.points variables (among_rest variables a.made b.made among) (typed_narrowed variables names h.locals typed),
      );
      made = a.made ++ b.made;
      numbered = numbered_both h.next a.made b.made mid next a.numbered b.numbered;
      sides = λ m among env stands guard yes' no' holds fails. (
        a.sides m (among_first m.variables a.made b.made among) env stands guard yes' (Supplies (surely (narrowed names h.locals)))
            (λ after least. holds after (forgotten_least m.variables h.next h.next others h.locals after (omega arith) least))
            (λ after least. narrowed_supplies m h names after free least),
        b.sides m (among_rest m.variables a.made b.made among) (at_start m.variables (surely (narrowed names h.locals))) (narrowed_behind m h names env free stands mid) (guards_narrowed m h.next mid names h.locals (numbered_up h.next a.made mid a.numbered) guard) yes' no'
            (λ after least. holds after (forgotten_least m.variables h.next mid names h.locals after (numbered_up h.next a.made mid a.numbered) least))
            (λ after least. fails after (joined_least m.variables h.next mid names later h.locals after (numbered_up h.next a.made mid a.numbered) least)),
      );
    }

  -- operands of `and`, the first before the others
  pub and_more : (h : Stage) → Free h.next h.locals → (x : PlainExpr) (xs : PlainExprs) (t : Tested PlainFlatTest) (rest : Tested PlainOperands)
      → GoodTest c leaves h (asked_of c leaves t.test) t.next (narrowed (shown true x) h.locals) (narrowed (shown false x) h.locals)
      → GoodTest c leaves (where_shown true x h.locals t.next) (asked_of_each true rest.test) rest.next (narrowed (shown_by_each true xs) (narrowed (shown true x) h.locals)) (narrowed (shown true x) h.locals)
      → GoodTest c leaves h (asked_of_each true (FMoreOperands (FOperand t.test (surely (narrowed (shown true x) h.locals))) rest.test)) rest.next (narrowed (shown_by_each true (PExpr x xs)) h.locals) h.locals
  unfolding shown
  and_more h free x xs t rest a b = more_and h free (shown true x) (shown false x) (shown_by_each true xs) t.test t.next rest.test rest.next a b

  pub or_more : (h : Stage) → Free h.next h.locals → (x : PlainExpr) (xs : PlainExprs) (t : Tested PlainFlatTest) (rest : Tested PlainOperands)
      → GoodTest c leaves h (asked_of c leaves t.test) t.next (narrowed (shown true x) h.locals) (narrowed (shown false x) h.locals)
      → GoodTest c leaves (where_shown false x h.locals t.next) (asked_of_each false rest.test) rest.next (narrowed (shown false x) h.locals) (narrowed (shown_by_each false xs) (narrowed (shown false x) h.locals))
      → GoodTest c leaves h (asked_of_each false (FMoreOperands (FOperand t.test (surely (narrowed (shown false x) h.locals))) rest.test)) rest.next h.locals (narrowed (shown_by_each false (PExpr x xs)) h.locals)
  unfolding shown
  or_more h free x xs t rest a b = more_or h free (shown false x) (shown true x) (shown_by_each false xs) t.test t.next rest.test rest.next a b

  pub and_test : (h : Stage) (at : Place) (items : PlainExprs) (t : Tested PlainOperands) → GoodTest c leaves h (asked_of_each true t.test) t.next (narrowed (shown_by_each true items) h.locals) h.locals
      → GoodTest c leaves h (asked_of c leaves (made_of FAnd t).test) t.next (narrowed (shown true (PAnd at items)) h.locals) (narrowed (shown false (PAnd at items)) h.locals)
  unfolding test_fits shown PointsPass
  and_test h at items t g = record {
    points = g.points;
    made = g.made;
    numbered = g.numbered;
    sides = λ m among env stands guard yes' no' holds fails. g.sides m among env stands guard yes' no' holds (λ after least. fails after (unnarrowed_least m.variables h.next h.locals after least));
  }

  pub or_test : (h : Stage) (at : Place) (items : PlainExprs) (t : Tested PlainOperands) → GoodTest c leaves h (asked_of_each false t.test) t.next h.locals (narrowed (shown_by_each false items) h.locals)
      → GoodTest c leaves h (asked_of c leaves (made_of FOr t).test) t.next (narrowed (shown true (POr at items)) h.locals) (narrowed (shown false (POr at items)) h.locals)
  unfolding test_fits shown PointsPass
  or_test h at items t g = record {
    points = g.points;
    made = g.made;
    numbered = g.numbered;
    sides = λ m among env stands guard yes' no' holds fails. g.sides m among env stands guard yes' no' (λ after least. holds after (unnarrowed_least m.variables h.next h.locals after least)) fails;
  }

  -- One of two values

  -- a side that puts its value into a variable of the method
  side_fits : (m : Around) (h : Stage) (free : Free h.next h.locals) (env : List PlainLocal) (stands : Stands m.variables h.next h.locals env) (guard : GuardsHold m h.next h.locals) (names : List ℕ) (first : ℕ) (a : Hoisted PlainExpr) (wanted : Option PlainTy) (s ty : PlainTy) (n : ℕ) → h.next ≤ first → a.stage.next ≤ n
      → (g : Good c leaves (record { locals = narrowed names h.locals; next = first }) a (Typed c leaves wanted s)) → AreAmong m.variables g.made → IsVariable m.variables n ty → assignable s ty ≡ true
      → Behind m.variables (surely (narrowed names h.locals)) (code_fits c leaves m (a.before ++ FSet n a.rest ∷ []) (Supplies (surely (h.locals ++ temporary n ty ∷ []))))
  unfolding stmts_fit
  side_fits m h free env stands guard names first a wanted s ty n below under g among is fit =
      let start : List PlainLocal = at_start m.variables (surely (narrowed names h.locals)) in
      let point : Asked = Supplies (surely (h.locals ++ temporary n ty ∷ [])) in
      let inside : first ≤ a.stage.next = numbered_up first g.made a.stage.next g.numbered in
      let later : h.next ≤ n = omega (arith, below, under, inside) in
      code_then c leaves m a.before (FSet n a.rest ∷ []) point start
      (g.before m among start (narrowed_behind m h names env free stands first) (guards_narrowed m h.next first names h.locals below guard) (code_fits c leaves m (FSet n a.rest ∷ []) point) (λ after there.
      let least : AtLeast m.variables h.next h.locals after = least_behind m.variables h.next first a.stage.next names h.locals a.stage.locals after below inside g.alike there in
      let more : List PlainLocal = h.locals ++ temporary n ty ∷ [] in
      let stored : AtLeast m.variables (n + 1) more (with_local n s s after) = stored_least m.variables n ty s after there.are is h.next later h.locals free least in
      let has : HasType c leaves after a.rest s = record { wanted = wanted; typed = (g.rest after there.alike).0; stays = (g.rest after there.alike).1 } in (
        (
          s,
          has,
          takes m.variables n ty s after there.are is fit (stmts_fit c leaves m.variables m.caught m.breaks m.continues FNoStmt point)
              (supplies m.variables (n + 1) more (with_local n s s after) (more_free n h.locals ty (free_later h.next n h.locals later free)) stored),
        ),
        set_guarded c leaves m.variables n a.rest s ty after has (found_local m.variables after n ty there.are is) m.caught (guard after least)
            (guards_more m n h.locals ty (guards_on m h.next n h.locals h.locals later (alike_itself h.next h.locals) guard) (with_local n s s after) stored),
      )))

  pub chosen_good : (h : Stage) (free : Free h.next h.locals) (at : Place) (ty : PlainTy) (test : PlainExpr) (t : Tested PlainFlatTest) (first second : Stage → Hoisted PlainExpr) (wanted : Option PlainTy) (s u : PlainTy)
      → GoodTest c leaves h (asked_of c leaves t.test) t.next (narrowed (shown true test) h.locals) (narrowed (shown false test) h.locals)
      → Good c leaves (where_shown true test h.locals t.next) (first (where_shown true test h.locals t.next)) (Typed c leaves wanted s)
      → Good c leaves (where_shown false test h.locals (first (where_shown true test h.locals t.next)).stage.next) (second (where_shown false test h.locals (first (where_shown true test h.locals t.next)).stage.next)) (Typed c leaves wanted u)
      → assignable s ty ≡ true → assignable u ty ≡ true → Good c leaves h (chosen at ty h.locals test t first second) (Typed c leaves wanted ty)
  unfolding stmts_fit PointsPass
  chosen_good h free at ty test t first second wanted s u gt ga gb es eu =
      let a : Hoisted PlainExpr = first (where_shown true test h.locals t.next) in
      let b : Hoisted PlainExpr = second (where_shown false test h.locals a.stage.next) in
      let n : ℕ = b.stage.next in
      let last : List PlainVar = made_var n ty ∷ [] in
      let to_test : h.next ≤ t.next = numbered_up h.next gt.made t.next gt.numbered in
      let to_first : t.next ≤ a.stage.next = numbered_up t.next ga.made a.stage.next ga.numbered in
      let to_second : a.stage.next ≤ n = numbered_up a.stage.next gb.made n gb.numbered in
      let below : h.next ≤ n = omega (arith, to_test, to_first, to_second) in
      let open' : Free n h.locals = free_later h.next n h.locals below free in
      record {
        made = gt.made ++ (ga.made ++ (gb.made ++ last));
        numbered = numbered_both h.next gt.made (ga.made ++ (gb.made ++ last)) t.next (n + 1) gt.numbered
            (numbered_both t.next ga.made (gb.made ++ last) a.stage.next (n + 1) ga.numbered (numbered_both a.stage.next gb.made last n (n + 1) gb.numbered (one_numbered n ty)));
        free = more_free n h.locals ty open';
        adds = adds_behind gt.made (ga.made ++ (gb.made ++ last)) h.locals (h.locals ++ temporary n ty ∷ [])
            (adds_behind ga.made (gb.made ++ last) h.locals (h.locals ++ temporary n ty ∷ []) (adds_behind gb.made last h.locals (h.locals ++ temporary n ty ∷ []) (adds_temporary n ty h.locals)));
        alike = alike_on h.next n h.locals h.locals (h.locals ++ temporary n ty ∷ []) below (alike_itself h.next h.locals) (more_alike n h.locals ty);
        rest = λ there alike. (reads_temporary n h.locals ty open' c there wanted at alike, variable_stays c leaves at n);
        points = λ variables among typed.
            let rest1 : AreAmong variables (ga.made ++ (gb.made ++ last)) = among_rest variables gt.made (ga.made ++ (gb.made ++ last)) among in
            let rest2 : AreAmong variables (gb.made ++ last) = among_rest variables ga.made (gb.made ++ last) rest1 in
            let point : (names : List ℕ) → is_point variables (surely (narrowed names h.locals)) ≡ true = λ names.
            point_passes variables (narrowed names h.locals) (free_narrowed h.next h.next names h.locals (omega arith) free).once (typed_narrowed variables names h.locals typed) in
            let more : AreTyped variables (h.locals ++ temporary n ty ∷ []) = (adds_temporary n ty h.locals).only variables (among_rest variables gb.made last rest2) typed in (
              (
                (
                  gt.points variables (among_first variables gt.made (ga.made ++ (gb.made ++ last)) among) typed,
                  point (shown true test),
                  passes_both variables a.before (FSet n a.rest ∷ []) (ga.points variables (among_first variables ga.made (gb.made ++ last) rest1) (typed_narrowed variables (shown true test) h.locals typed)) (tt, tt),
                  point (shown false test),
                  tt,
                ),
                passes_both variables b.before (FSet n b.rest ∷ []) (gb.points variables (among_first variables gb.made last rest2) (typed_narrowed variables (shown false test) h.locals typed)) (tt, tt),
                point_passes variables (h.locals ++ temporary n ty ∷ []) (more_free n h.locals ty open').once more,
              ),
              tt,
            );
        before = λ m among env stands guard goal goes.
            let rest1 : AreAmong m.variables (ga.made ++ (gb.made ++ last)) = among_rest m.variables gt.made (ga.made ++ (gb.made ++ last)) among in
            let rest2 : AreAmong m.variables (gb.made ++ last) = among_rest m.variables ga.made (gb.made ++ last) rest1 in
            let is : IsVariable m.variables n ty = (among_rest m.variables gb.made last rest2).0 in (
              (
                gt.sides m (among_first m.variables gt.made (ga.made ++ (gb.made ++ last)) among) env stands guard (Supplies (surely (narrowed (shown true test) h.locals))) (Supplies (surely (narrowed (shown false test) h.locals)))
                    (λ after least. narrowed_supplies m h (shown true test) after free least) (λ after least. narrowed_supplies m h (shown false test) after free least),
                side_fits m h free env stands guard (shown true test) t.next a wanted s ty n to_test to_second ga (among_first m.variables ga.made (gb.made ++ last) rest1) is es,
                side_fits m h free env stands guard (shown false test) a.stage.next b wanted u ty n (omega (arith, to_test, to_first)) (omega arith) gb (among_first m.variables gb.made last rest2) is eu,
              ),
              goes (at_start m.variables (surely (h.locals ++ temporary n ty ∷ [])))
                  (stands_behind m.variables (n + 1) (h.locals ++ temporary n ty ∷ []) (with_local n ty ty env) (more_free n h.locals ty open')
                  (stored_least m.variables n ty ty env stands.are is h.next below h.locals free (as_least m.variables h.next h.locals env stands)) (n + 1)),
            );
      }

  -- the truth of a test

  bool_typed : (at : Place) (b : Bool) (wanted : Option PlainTy) (there : List PlainLocal) → Typed c leaves wanted TBool there (PBool at b)
  unfolding type_of expr_suspends
  bool_typed at b wanted env = (refl, refl)

  pub truth_good : (h : Stage) → Free h.next h.locals → (at : Place) (test : PlainExpr) (t : Tested PlainFlatTest) (wanted : Option PlainTy)
      → GoodTest c leaves h (asked_of c leaves t.test) t.next (narrowed (shown true test) h.locals) (narrowed (shown false test) h.locals) → Good c leaves h (truth_of at h.locals test t) (Typed c leaves wanted TBool)
  truth_good h free at test t wanted g =
      let below : h.next ≤ t.next = numbered_up h.next g.made t.next g.numbered in
      chosen_good h free at TBool test t (still (PBool at true)) (still (PBool at false)) wanted TBool TBool g
      (still_good c leaves (where_shown true test h.locals t.next) (PBool at true) (Typed c leaves wanted TBool) (free_narrowed h.next t.next (shown true test) h.locals below free) (λ there alike. bool_typed at true wanted there))
      (still_good c leaves (where_shown false test h.locals t.next) (PBool at false) (Typed c leaves wanted TBool) (free_narrowed h.next t.next (shown false test) h.locals below free) (λ there alike. bool_typed at false wanted there))
      (assigned_itself TBool) (assigned_itself TBool)

-- Parts that keep the rules, one after another, and the values that go into temporaries.
use Rattle.std.proofs.Common.{◌≡◌, ◌≤◌, ◌+◌, arith, ℕ, Bool, true, false, cond, Option, Some, None, Ok, List, [], ◌∷◌, ◌++◌, refl, sym, ap, ◌∙◌, subst}
use Rattle.std.specs.Prelude.{◌==◌, find, option_map}
use Rattle.std.proofs.lemmas.Bool.{eqb-true}
use Rattle.std.proofs.lemmas.Option.{same_Some, none-some}
use Rattle.py_tree.specs.declared.names.Place.{Place}
use Rattle.py_tree.specs.PlainTypes.{PlainTy, TBool}
use Rattle.py_tree.specs.PlainExpressions.{PlainExpr, PVar}
use Rattle.py_tree.specs.Bounded.{ExprNames}
use Rattle.py_tree.specs.FlowEnvironment.{PlainLocal, local_of, has_name, shown, narrowed}
use Rattle.py_tree.specs.Flow.{Context, type_at, with_local}
use Rattle.call_graph.specs.SuspendingCode.{Leaving, expr_suspends}
use Rattle.block_code.specs.PlainVars.{PlainVar}
use Rattle.block_code.specs.GraphFits.{Asked, HasType, is_var}
use Rattle.flat_tree.specs.PlainFlat.{PlainFlatStmt, FSet, FNoStmt}
use Rattle.method_splitter.specs.Points.{PointsPass}
use Rattle.flat_types.specs.FlatTypes.{is_point, TestedFits, stmt_fits, stmts_fit, test_fits}
use Rattle.hoisting.specs.Stages.{Stage, temporary}
use Rattle.hoisting.specs.HoistExpressions.{Hoisted, Forms, still, built, in_turn, taken_into, settled, settled_unless, kept, leaf, by_value, forms_if}
use Rattle.typed_hoisting.specs.KnownLocals.{Alike, Free, Stands}
use Rattle.typed_hoisting.specs.TypedHoisting.{Numbered, AreAmong, AreTyped, Adds, Around, GuardsHold, code_fits, asked_of, Typed, Good, GoodTest, GoodForms}
use Rattle.typed_hoisting.proofs.LocalLaws.{or_else, one_more}
use Rattle.typed_hoisting.proofs.Assignable.{assigned_itself}
use Rattle.typed_hoisting.proofs.EnvironmentLaws.{alike_itself, alike_on, kept_at, more_alike, more_free, reads_temporary, narrowed_least}
use Rattle.typed_hoisting.proofs.PointLaws.{IsVariable, found_local}
use Rattle.typed_hoisting.proofs.PassingPoints.{passes_both}
use Rattle.typed_hoisting.proofs.StoredLaws.{takes, stored_stands}
use Rattle.typed_hoisting.proofs.GuardedItems.{guards_on, guards_more, guards_at, none_guarded, set_guarded}

-- Temporaries

abbrev type_of_local : PlainLocal → PlainTy
type_of_local l = l.ty

abbrev pub made_var : ℕ → PlainTy → PlainVar
made_var n ty = record { name = n; ty = ty }

pub numbered_up : (first : ℕ) (made : List PlainVar) (next : ℕ) → Numbered first made next → first ≤ next
numbered_up first [] next h = omega (arith, h)
numbered_up first (v ∷ made) next h = omega (arith, numbered_up (first + 1) made next h.1)

pub numbered_both : (first : ℕ) (a b : List PlainVar) (mid next : ℕ) → Numbered first a mid → Numbered mid b next → Numbered first (a ++ b) next
numbered_both first [] b mid next f g = subst (λ k. Numbered k b next) (sym f) g
numbered_both first (v ∷ a) b mid next f g = (f.0, numbered_both (first + 1) a b mid next f.1 g)

pub one_numbered : (n : ℕ) (ty : PlainTy) → Numbered n (made_var n ty ∷ []) (n + 1)
one_numbered n ty = (refl, refl)

pub among_first : (variables a b : List PlainVar) → AreAmong variables (a ++ b) → AreAmong variables a
among_first variables [] b h = tt
among_first variables (v ∷ a) b h = (h.0, among_first variables a b h.1)

pub among_rest : (variables a b : List PlainVar) → AreAmong variables (a ++ b) → AreAmong variables b
among_rest variables [] b h = h
among_rest variables (v ∷ a) b h = among_rest variables a b h.1

-- Names and their types

pub adds_nothing : (locals : List PlainLocal) → Adds [] locals locals
adds_nothing locals = record { keeps = λ x ty h. h; only = λ variables among typed. typed }

pub adds_on : (first more : List PlainVar) (a b d : List PlainLocal) → Adds first a b → Adds more b d → Adds (first ++ more) a d
adds_on first more a b d f g = record { keeps = λ x ty h. g.keeps x ty (f.keeps x ty h); only = λ variables among typed. g.only variables (among_rest variables first more among) (f.only variables (among_first variables first more among) typed) }

pub adds_behind : (first made : List PlainVar) (a b : List PlainLocal) → Adds made a b → Adds (first ++ made) a b
adds_behind first made a b f = record { keeps = f.keeps; only = λ variables among typed. f.only variables (among_rest variables first made among) typed }

pub adds_temporary : (n : ℕ) (ty : PlainTy) (locals : List PlainLocal) → Adds (made_var n ty ∷ []) locals (locals ++ temporary n ty ∷ [])
adds_temporary n ty locals = record {
  keeps = λ x t h. ap (option_map type_of_local) (one_more locals (temporary n ty) x) ∙ first (local_of locals x) x t h;
  only = λ variables among typed x t h. by variables among.0 x t (local_of locals x) (typed x t) (n == x) refl (sym (ap (option_map type_of_local) (one_more locals (temporary n ty) x)) ∙ h);
}
  where
    first : (o : Option PlainLocal) (x : ℕ) (t : PlainTy) → option_map type_of_local o ≡ Some t → option_map type_of_local (or_else o (cond (n == x) (Some (temporary n ty)) None)) ≡ Some t
    first None x t h = absurd (none-some t h)
    first (Some l) x t h = h

    by : (variables : List PlainVar) → find (is_var n) variables ≡ Some (made_var n ty) → (x : ℕ) (t : PlainTy) (o : Option PlainLocal) → (option_map type_of_local o ≡ Some t → find (is_var x) variables ≡ Some (made_var x t))
        → (b : Bool) → (n == x) ≡ b → option_map type_of_local (or_else o (cond b (Some (temporary n ty)) None)) ≡ Some t → find (is_var x) variables ≡ Some (made_var x t)
    by variables is x t (Some l) typed b e h = typed h
    by variables is x t None typed true e h = subst (λ y. find (is_var y) variables ≡ Some (made_var y t)) (eqb-true n x e) (is ∙ ap (λ u. Some (made_var n u)) (same_Some _ _ h))
    by variables is x t None typed false e h = absurd (none-some t h)

module _ (c : Context) (leaves : Leaving) where
  -- one list of code after another
  pub code_both : (m : Around) (xs ys : List PlainFlatStmt) (goal : Asked) → code_fits c leaves m (xs ++ ys) goal ≡ code_fits c leaves m xs (code_fits c leaves m ys goal)
  unfolding stmts_fit
  code_both m [] ys goal = refl
  code_both m (x ∷ xs) ys goal = ap (stmt_fits c leaves m.variables m.caught m.breaks m.continues x) (code_both m xs ys goal)

  pub code_then : (m : Around) (xs ys : List PlainFlatStmt) (goal : Asked) (env : List PlainLocal) → code_fits c leaves m xs (code_fits c leaves m ys goal) env → code_fits c leaves m (xs ++ ys) goal env
  code_then m xs ys goal env h = subst (λ (f : Asked). f env) (sym (code_both m xs ys goal)) h

  pub up : {R : Type 0} (h : Stage) (a : Hoisted R) {Rest : List PlainLocal → R → Type 0} → Good c leaves h a Rest → h.next ≤ a.stage.next
  up h a g = numbered_up h.next g.made a.stage.next g.numbered

  -- what stays
  pub still_good : {R : Type 0} (h : Stage) (e : R) (Rest : List PlainLocal → R → Type 0) → Free h.next h.locals → ((there : List PlainLocal) → Alike h.next h.locals there → Rest there e) → Good c leaves h (still e h) Rest
  unfolding stmts_fit PointsPass
  still_good h e Rest free rest = record { made = []; numbered = refl; free = free; adds = adds_nothing h.locals; alike = alike_itself h.next h.locals; rest = rest; before = λ m among env stands guard goal goes. goes env stands; points = λ variables among typed. tt }

  -- something is made of what is left
  pub built_good : {R S : Type 0} (h : Stage) (a : Hoisted R) (f : R → S) {RA : List PlainLocal → R → Type 0} (RB : List PlainLocal → S → Type 0) → Good c leaves h a RA → ((there : List PlainLocal) → RA there a.rest → RB there (f a.rest)) → Good c leaves h (built f a) RB
  built_good h a f RB g make = record { made = g.made; numbered = g.numbered; free = g.free; adds = g.adds; alike = g.alike; rest = λ there alike. make there (g.rest there alike); before = g.before; points = g.points }

  -- a part, and one behind it
  pub turn_good : {R S T : Type 0} (h : Stage) (f : R → S → T) (a : Hoisted R) (b : Stage → Hoisted S) {RA : List PlainLocal → R → Type 0} {RB : List PlainLocal → S → Type 0} (RC : List PlainLocal → T → Type 0)
      → Good c leaves h a RA → Good c leaves a.stage (b a.stage) RB → ((there : List PlainLocal) → RA there a.rest → RB there (b a.stage).rest → RC there (f a.rest (b a.stage).rest)) → Good c leaves h (in_turn f a b) RC
  turn_good h f a b RC ga gb both =
      let next : ℕ = (b a.stage).stage.next in
      let locals : List PlainLocal = (b a.stage).stage.locals in
      record {
        made = ga.made ++ gb.made;
        numbered = numbered_both h.next ga.made gb.made a.stage.next next ga.numbered gb.numbered;
        free = gb.free;
        adds = adds_on ga.made gb.made h.locals a.stage.locals locals ga.adds gb.adds;
        alike = alike_on h.next a.stage.next h.locals a.stage.locals locals (up h a ga) ga.alike gb.alike;
        rest = λ there alike. both there (ga.rest there (alike_on a.stage.next next a.stage.locals locals there (up a.stage (b a.stage) gb) gb.alike alike)) (gb.rest there alike);
        before = λ m among env stands guard goal goes.
            code_then m a.before (b a.stage).before goal env
            (ga.before m (among_first m.variables ga.made gb.made among) env stands guard (code_fits c leaves m (b a.stage).before goal)
            (λ after there. gb.before m (among_rest m.variables ga.made gb.made among) after there (guards_on m h.next a.stage.next h.locals a.stage.locals (up h a ga) ga.alike guard) goal goes));
        points = λ variables among typed.
            let first : AreAmong variables ga.made = among_first variables ga.made gb.made among in
            passes_both variables a.before (b a.stage).before (ga.points variables first typed) (gb.points variables (among_rest variables ga.made gb.made among) (ga.adds.only variables first typed));
      }

  -- Values in temporaries

  pub variable_stays : (at : Place) (n : ℕ) → expr_suspends leaves (PVar at n) ≡ false
  unfolding expr_suspends
  variable_stays at n = refl

  -- a statement keeps the rules that puts a value of this type into the next temporary
  abbrev pub PutsNext : {R : Type 0} → PlainTy → Hoisted R → PlainFlatStmt → (List PlainLocal → R → Type 0) → Type 1
  PutsNext ty a x RA =
      (m : Around) (env : List PlainLocal) → Stands m.variables a.stage.next a.stage.locals env → GuardsHold m a.stage.next a.stage.locals → IsVariable m.variables a.stage.next ty → RA env a.rest
      → (goal : Asked) → ((after : List PlainLocal) → Stands m.variables (a.stage.next + 1) (a.stage.locals ++ temporary a.stage.next ty ∷ []) after → goal after) → stmt_fits c leaves m.variables m.caught m.breaks m.continues x goal env

  -- its point names variables, if the next temporary is one
  abbrev pub PassesNext : {R : Type 0} → PlainTy → Hoisted R → PlainFlatStmt → Type 0
  PassesNext ty a x = (variables : List PlainVar) → Free (a.stage.next + 1) (a.stage.locals ++ temporary a.stage.next ty ∷ []) → AreTyped variables (a.stage.locals ++ temporary a.stage.next ty ∷ []) → PointsPass (is_point variables) x

  pub taken_good : {R : Type 0} (h : Stage) (a : Hoisted R) {RA : List PlainLocal → R → Type 0} (at : Place) (ty : PlainTy) (wanted : Option PlainTy) (f : R → ℕ → PlainFlatStmt)
      → Good c leaves h a RA → PutsNext ty a (f a.rest a.stage.next) RA → PassesNext ty a (f a.rest a.stage.next) → Good c leaves h (taken_into at ty f a) (Typed c leaves wanted ty)
  unfolding stmts_fit PointsPass
  taken_good h a at ty wanted f g puts passes =
      let n : ℕ = a.stage.next in
      let last : List PlainVar = made_var n ty ∷ [] in
      record {
        made = g.made ++ last;
        numbered = numbered_both h.next g.made last n (n + 1) g.numbered (one_numbered n ty);
        free = more_free n a.stage.locals ty g.free;
        adds = adds_on g.made last h.locals a.stage.locals (a.stage.locals ++ temporary n ty ∷ []) g.adds (adds_temporary n ty a.stage.locals);
        alike = alike_on h.next n h.locals a.stage.locals (a.stage.locals ++ temporary n ty ∷ []) (up h a g) g.alike (more_alike n a.stage.locals ty);
        rest = λ there alike. (reads_temporary n a.stage.locals ty g.free c there wanted at alike, variable_stays at n);
        before = λ m among env stands guard goal goes.
            code_then m a.before (f a.rest n ∷ []) goal env
            (g.before m (among_first m.variables g.made last among) env stands guard (code_fits c leaves m (f a.rest n ∷ []) goal)
            (λ after there. puts m after there (guards_on m h.next n h.locals a.stage.locals (up h a g) g.alike guard) (among_rest m.variables g.made last among).0 (g.rest after there.alike) (stmts_fit c leaves m.variables m.caught m.breaks m.continues FNoStmt goal) goes));
        points = λ variables among typed.
            let first : AreAmong variables g.made = among_first variables g.made last among in
            passes_both variables a.before (f a.rest n ∷ []) (g.points variables first typed)
            (passes variables (more_free n a.stage.locals ty g.free) ((adds_temporary n ty a.stage.locals).only variables (among_rest variables g.made last among) (g.adds.only variables first typed)), tt);
      }

  settled_good : (h : Stage) (a : Hoisted PlainExpr) (at : Place) (wanted : Option PlainTy) (ty : PlainTy) → Good c leaves h a (Typed c leaves wanted ty) → Good c leaves h (settled at ty a) (Typed c leaves wanted ty)
  unfolding stmts_fit PointsPass
  settled_good h a at wanted ty g = taken_good h a at ty wanted (λ r t. FSet t r) g (λ m env stands guard is rest goal goes.
      let n : ℕ = a.stage.next in
      let has : HasType c leaves env a.rest ty = record { wanted = wanted; typed = rest.0; stays = rest.1 } in
      let more : Stands m.variables (n + 1) (a.stage.locals ++ temporary n ty ∷ []) (with_local n ty ty env) = stored_stands m.variables n ty env a.stage.locals g.free stands is in (
        (ty, has, takes m.variables n ty ty env stands.are is (assigned_itself ty) goal (goes _ more)),
        set_guarded c leaves m.variables n a.rest ty ty env has (found_local m.variables env n ty stands.are is) m.caught (guards_at m n a.stage.locals env guard stands)
            (guards_at m (n + 1) (a.stage.locals ++ temporary n ty ∷ []) (with_local n ty ty env) (guards_more m n a.stage.locals ty guard) more),
      )) (λ variables free typed. tt)

  pub settled_unless_good : (lasting : Bool) (h : Stage) (a : Hoisted PlainExpr) (at : Place) (wanted : Option PlainTy) (s ty : PlainTy) → s ≡ ty → Good c leaves h a (Typed c leaves wanted ty) → Good c leaves h (settled_unless lasting at s a) (Typed c leaves wanted ty)
  settled_unless_good true h a at wanted s ty e g = g
  settled_unless_good false h a at wanted s ty e g = subst (λ s. Good c leaves h (settled at s a) (Typed c leaves wanted ty)) (sym e) (settled_good h a at wanted ty g)

  pub kept_good : (later lasting : Bool) (h : Stage) (a : Hoisted PlainExpr) (at : Place) (wanted : Option PlainTy) (s ty : PlainTy) → s ≡ ty → Good c leaves h a (Typed c leaves wanted ty) → Good c leaves h (kept later lasting at s a) (Typed c leaves wanted ty)
  kept_good true lasting h a at wanted s ty e g = settled_unless_good lasting h a at wanted s ty e g
  kept_good false lasting h a at wanted s ty e g = g

  -- Values as tests

  -- what is left shows at least what the expression shows
  abbrev pub Shows : PlainExpr → PlainExpr → Type 0
  Shows e r = (truth : Bool) (x : ℕ) → has_name (shown truth e) x ≡ true → has_name (shown truth r) x ≡ true

  pub leaf_good : (h : Stage) (e : PlainExpr) (a : Hoisted PlainExpr) → Shows e a.rest → Good c leaves h a (Typed c leaves None TBool)
      → GoodTest c leaves h (asked_of c leaves (leaf a).test) (leaf a).next (narrowed (shown true e) h.locals) (narrowed (shown false e) h.locals)
  unfolding test_fits PointsPass
  leaf_good h e a shows g = record {
    points = g.points;
    made = g.made;
    numbered = g.numbered;
    sides = λ m among env stands guard yes' no' holds fails. g.before m among env stands guard (TestedFits c leaves m.caught a.rest yes' no') (λ after there. (
      (
        record { wanted = None; typed = (g.rest after there.alike).0; stays = (g.rest after there.alike).1 },
        holds _ (narrowed_least m.variables h.next a.stage.next (shown true e) (shown true a.rest) h.locals a.stage.locals after (up h a g) (shows true) g.alike there),
        fails _ (narrowed_least m.variables h.next a.stage.next (shown false e) (shown false a.rest) h.locals a.stage.locals after (up h a g) (shows false) g.alike there),
      ),
      none_guarded c m.caught after (guards_at m a.stage.next a.stage.locals after (guards_on m h.next a.stage.next h.locals a.stage.locals (up h a g) g.alike guard) there),
    ));
  }

  module _ (limit : ℕ) where
    -- an expression by its value
    pub by_value_good : (e : PlainExpr) (value : Option PlainTy → Stage → Hoisted PlainExpr)
        → ((wanted : Option PlainTy) (h : Stage) (ty : PlainTy) → limit ≤ h.next → Free h.next h.locals → type_at c h.locals wanted e ≡ Ok ty → Good c leaves h (value wanted h) (Typed c leaves wanted ty))
        → ((h : Stage) → Shows e (value None h).rest) → GoodForms c leaves limit e (by_value value)
    by_value_good e value good shows = record { value = good; test = λ h below free is. leaf_good h e (value None h) (shows h) (good None h TBool below free is) }

    pub still_forms : (e : PlainExpr) → ExprNames limit e → expr_suspends leaves e ≡ false → GoodForms c leaves limit e (by_value (λ wanted h. still e h))
    still_forms e named stays = by_value_good e (λ wanted h. still e h)
        (λ wanted h ty below free is. still_good h e (Typed c leaves wanted ty) free (λ there alike. (kept_at c limit h.next h.locals there below alike wanted e ty named is, stays)))
        (λ h truth x shown. shown)

    pub forms_if_good : (e : PlainExpr) (both : Forms) → ExprNames limit e → GoodForms c leaves limit e both → GoodForms c leaves limit e (forms_if (expr_suspends leaves e) e both)
    forms_if_good e both named good = by (expr_suspends leaves e) refl
      where
        by : (b : Bool) → expr_suspends leaves e ≡ b → GoodForms c leaves limit e (forms_if b e both)
        by true is = good
        by false is = still_forms e named is

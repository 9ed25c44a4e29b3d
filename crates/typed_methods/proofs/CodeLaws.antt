-- Flat code that keeps the rules from a point on, and leads where statements lead.
use Rattle.std.proofs.Common.{◌≡◌, ℕ, Bool, true, Some, List, [], ◌∷◌, ◌++◌, sym, ap, ◌∙◌, subst}
use Rattle.std.specs.Prelude.{find, option_map}
use Rattle.py_tree.specs.PlainTypes.{PlainTy}
use Rattle.py_tree.specs.FlowEnvironment.{PlainLocal, local_of, narrowed}
use Rattle.py_tree.specs.Flow.{Context, Way}
use Rattle.call_graph.specs.SuspendingCode.{Leaving}
use Rattle.program_meaning.proofs.LocalShapes.{shapes, type_in, type_found}
use Rattle.block_code.specs.PlainVars.{PlainVar}
use Rattle.block_code.specs.GraphFits.{Asked, is_var, at_start}
use Rattle.flat_tree.specs.PlainFlat.{PlainFlatStmt, FMark, FNoStmt}
use Rattle.method_splitter.specs.Points.{PointsPass}
use Rattle.flat_types.specs.FlatTypes.{is_point, Supplies, stmt_fits, stmts_fit}
use Rattle.hoisting.specs.Stages.{Stage, surely}
use Rattle.hoisting.specs.HoistExpressions.{Hoisted}
use Rattle.typed_hoisting.specs.KnownLocals.{HasTy, seen, Free, AreVariables, Stands}
use Rattle.typed_hoisting.specs.TypedHoisting.{Numbered, AreAmong, AreTyped, CodePasses, Around, SuppliesAll, GuardsHold, code_fits, Good}
use Rattle.typed_hoisting.proofs.LocalLaws.{kept_on, kept_narrowed}
use Rattle.typed_hoisting.proofs.EnvironmentLaws.{variables_narrowed}
use Rattle.typed_hoisting.proofs.PointLaws.{IsVariable, Found, found_local, point_stands, supplies}
use Rattle.typed_hoisting.proofs.PassingPoints.{point_passes, passes_both}
use Rattle.typed_hoisting.proofs.GuardedItems.{guards_on, guards_at, mark_guarded}
use Rattle.typed_hoisting.proofs.GoodParts.{up, code_then}
use Rattle.typed_methods.proofs.KnownWays.{MetUnder, under_then}
use Rattle.typed_methods.proofs.StoredKnown.{AllKept, AllUnder, TypedThere, all_under, kept_free, under_free}
use Rattle.typed_methods.proofs.Floors.{Floors, EachUnder, each_on}

abbrev pub stage : Way → ℕ → Stage
stage w n = record { locals = w.locals; next = n }

-- the locals of a point among the variables of a method
pub record At (variables : List PlainVar) (locals env : List PlainLocal) : Type 0 where
  pub are : AreVariables variables env
  pub kept : AllKept locals env

-- names that have a type are variables of the method, of that type
abbrev pub TypedAs : List PlainVar → List PlainLocal → Type 0
TypedAs variables locals = (x : ℕ) (t : PlainTy) → type_in (shapes locals) x ≡ Some t → IsVariable variables x t

-- wherever at least as much is known as where the clauses around begin, a failure may go on at each of them
abbrev pub CaughtAbove : Around → List (List PlainLocal) → Type 0
CaughtAbove m clauses = (env : List PlainLocal) → AreVariables m.variables env → EachUnder clauses env → SuppliesAll m.caught env

-- what is asked at a `break`, if one can be reached, in a loop at a `continue`, and at clauses around
pub record WaysLead (m : Around) (floor : Floors) (looping left : Bool) (w : Way) : Type 0 where
  pub at_break : left ≡ true → (env : List PlainLocal) → AreVariables m.variables env → MetUnder (shapes w.locals) w.breaks env → m.breaks env
  pub at_continue : looping ≡ true → (env : List PlainLocal) → AreVariables m.variables env → AllUnder floor.head env → m.continues env
  pub at_caught : CaughtAbove m floor.clauses

pub all_kept_on : (a b d : List PlainLocal) → AllKept a b → AllKept b d → AllKept a d
all_kept_on a b d f g x = kept_on (seen a x) (seen b x) (seen d x) (f x) (g x)

pub all_under_on : (a b d : List PlainLocal) → AllUnder a b → AllUnder b d → AllUnder a d
all_under_on a b d f g x = under_then (seen a x) (seen b x) (seen d x) (f x) (g x)

module _ (m : Around) (clauses : List (List PlainLocal)) (caught : CaughtAbove m clauses) (locals : List PlainLocal) (above : EachUnder clauses locals) where
  pub guards_above : (k : ℕ) → Free k locals → GuardsHold m k locals
  guards_above k free env least = caught env least.are (each_on clauses locals env above (under_free k m.variables locals env free least))

  pub supplied_at : (env : List PlainLocal) → At m.variables locals env → SuppliesAll m.caught env
  supplied_at env at = caught env at.are (each_on clauses locals env above (all_under locals env at.kept))

-- Types by names and types of locals, or by the local that is found

pub ty_as : (locals : List PlainLocal) (x : ℕ) (t : PlainTy) → type_in (shapes locals) x ≡ Some t → HasTy locals x t
ty_as locals x t h = type_found locals x ∙ h

pub as_ty : (locals : List PlainLocal) (x : ℕ) (t : PlainTy) → HasTy locals x t → type_in (shapes locals) x ≡ Some t
as_ty locals x t h = sym (type_found locals x) ∙ h

module _ (variables : List PlainVar) where
  pub are_typed : (locals : List PlainLocal) → TypedAs variables locals → AreTyped variables locals
  are_typed locals typed x t h = typed x t (as_ty locals x t h)

  -- a point of what is surely assigned names variables
  pub surely_passes : (k : ℕ) (locals : List PlainLocal) → Free k locals → TypedAs variables locals → is_point variables (surely locals) ≡ true
  surely_passes k locals free typed = point_passes variables locals free.once (are_typed locals typed)

  pub to_stands : (k : ℕ) (locals env : List PlainLocal) → At variables locals env → Stands variables k locals env
  to_stands k locals env a = record { are = a.are; alike = record { alike = λ x below. a.kept x } }

  pub from_stands : (k : ℕ) (locals env : List PlainLocal) → Free k locals → Stands variables k locals env → At variables locals env
  from_stands k locals env free s = record { are = s.are; kept = kept_free k locals env free s.alike }

  pub at_as : (a b env : List PlainLocal) → a ≡ b → At variables a env → At variables b env
  at_as a b env e h = subst (λ ls. At variables ls env) e h

  pub at_before : (a b env : List PlainLocal) → AllKept a b → At variables b env → At variables a env
  at_before a b env f h = record { are = h.are; kept = all_kept_on a b env f h.kept }

  pub at_narrowed : (names : List ℕ) (locals env : List PlainLocal) → At variables locals env → At variables (narrowed names locals) (narrowed names env)
  at_narrowed names locals env a = record { are = variables_narrowed variables names env a.are; kept = λ x. kept_narrowed names locals env x (a.kept x) }

  pub supplies_all : (k : ℕ) (locals env : List PlainLocal) → Free k locals → AreVariables variables env → AllUnder locals env → Supplies (surely locals) env
  supplies_all k locals env free are under = supplies variables k locals env free (record { are = are; under = λ x below. under x })

  variable_known : (locals : List PlainLocal) → TypedAs variables locals → (x : ℕ) (m : PlainLocal) → local_of locals x ≡ Some m → option_map (λ (v : PlainVar). v.ty) (find (is_var x) variables) ≡ Some m.ty
  variable_known locals typed x m e = ap (option_map (λ (v : PlainVar). v.ty)) (typed x m.ty (sym (type_found locals x) ∙ ap (option_map (λ (l : PlainLocal). l.ty)) e))

  pub point_at : (k : ℕ) (locals : List PlainLocal) → Free k locals → TypedAs variables locals → At variables locals (at_start variables (surely locals))
  point_at k locals free typed = from_stands k locals (at_start variables (surely locals)) free (point_stands variables locals free.once (λ x m e a. variable_known locals typed x m e) k)

  pub variable_typed : (env : List PlainLocal) (x : ℕ) (t : PlainTy) → AreVariables variables env → IsVariable variables x t → type_in (shapes env) x ≡ Some t
  variable_typed env x t are is =
      let l : Found variables env x t = found_local variables env x t are is in
      sym (type_found env x) ∙ ap (option_map (λ (l : PlainLocal). l.ty)) l.1 ∙ ap Some l.2

  pub typed_env : (locals env : List PlainLocal) → TypedAs variables locals → AreVariables variables env → TypedThere locals env
  typed_env locals env typed are x t e = variable_typed env x t are (typed x t e)

  pub typed_same : (a b : List PlainLocal) → shapes b ≡ shapes a → TypedAs variables a → TypedAs variables b
  typed_same a b e typed x t h = typed x t (ap (λ ss. type_in ss x) (sym e) ∙ h)

module _ (c : Context) (leaves : Leaving) where
  -- code keeps the rules wherever what is known at its beginning is known so, if what is asked where its ways lead is so
  pub record GoodCode (looping : Bool) (floor : Floors) (w : Way) (n : ℕ) (code : List PlainFlatStmt) (next : ℕ) (end : Way) (goes left : Bool) : Type 1 where
    pub made : List PlainVar
    pub numbered : Numbered n made next
    pub points : (variables : List PlainVar) → AreAmong variables made → TypedAs variables w.locals → CodePasses variables code
    pub fits : (m : Around) → AreAmong m.variables made → TypedAs m.variables w.locals → (env : List PlainLocal) → At m.variables w.locals env → WaysLead m floor looping left end
        → (goal : Asked) → (goes ≡ true → (after : List PlainLocal) → At m.variables end.locals after → goal after) → code_fits c leaves m code goal env

  -- what is asked behind the last statement
  abbrev pub no_more : Around → Asked → Asked
  no_more m goal locals = stmts_fit c leaves m.variables m.caught m.breaks m.continues FNoStmt goal locals

  pub no_more_is : (m : Around) (goal : Asked) (env : List PlainLocal) → goal env → no_more m goal env
  unfolding stmts_fit
  no_more_is m goal env h = h

  -- behind what runs before an expression, what was known before it is known so
  pub behind_good : {R : Type 0} (h : Stage) (a : Hoisted R) {Rest : List PlainLocal → R → Type 0} (variables : List PlainVar) (after : List PlainLocal) → Free h.next h.locals → Good c leaves h a Rest → Stands variables a.stage.next a.stage.locals after → At variables h.locals after
  behind_good h a variables after free g s =
      at_before variables h.locals a.stage.locals after (kept_free h.next h.locals a.stage.locals free g.alike) (from_stands variables a.stage.next a.stage.locals after g.free s)

  -- points of a step, of what runs before an expression, and of a statement
  pub marked_passes : {R : Type 0} (h : Stage) (a : Hoisted R) (x : PlainFlatStmt) {Rest : List PlainLocal → R → Type 0} → (g : Good c leaves h a Rest) → (variables : List PlainVar) → AreAmong variables g.made → TypedAs variables h.locals → PointsPass (is_point variables) x
      → CodePasses variables (FMark ∷ a.before ++ x ∷ [])
  unfolding PointsPass
  marked_passes h a x g variables among typed last = (tt, passes_both variables a.before (x ∷ []) (g.points variables among (are_typed variables h.locals typed)) (last, tt))

  -- a step, what runs before an expression, and a statement over what is left
  pub marked_fits : {R : Type 0} (h : Stage) (a : Hoisted R) (f : R → PlainFlatStmt) {Rest : List PlainLocal → R → Type 0} → (g : Good c leaves h a Rest) → (m : Around) → AreAmong m.variables g.made → GuardsHold m h.next h.locals → (env : List PlainLocal) → At m.variables h.locals env → (goal : Asked)
      → ((after : List PlainLocal) → Stands m.variables a.stage.next a.stage.locals after → Rest after a.rest → SuppliesAll m.caught after → stmt_fits c leaves m.variables m.caught m.breaks m.continues (f a.rest) (no_more m goal) after) → code_fits c leaves m (FMark ∷ a.before ++ f a.rest ∷ []) goal env
  unfolding stmts_fit
  marked_fits h a f g m among guard env at goal last =
      let stands : Stands m.variables h.next h.locals env = to_stands m.variables h.next h.locals env at in
      let later : GuardsHold m a.stage.next a.stage.locals = guards_on m h.next a.stage.next h.locals a.stage.locals (up c leaves h a g) g.alike guard in (
        code_then c leaves m a.before (f a.rest ∷ []) goal env
            (g.before m among env stands guard (code_fits c leaves m (f a.rest ∷ []) goal) (λ after there. last after there (g.rest after there.alike) (guards_at m a.stage.next a.stage.locals after later there))),
        mark_guarded c m.caught env (guards_at m h.next h.locals env guard stands),
      )

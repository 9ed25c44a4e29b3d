-- Hoisted parts whose callees and created classes have what is asked of them, one after another.
--
-- A part also says what is known behind it: each local is found there again.
use Rattle.std.proofs.Common.{◌≡◌, arith, ℕ, Bool, true, false, cond, Option, Some, None, Ok, List, [], ◌∷◌, ◌++◌, refl, sym, ap, ◌∙◌}
use Rattle.std.specs.Prelude.{◌==◌, option_map}
use Rattle.std.proofs.lemmas.Option.{none-some}
use Rattle.py_tree.specs.declared.names.Place.{Place}
use Rattle.py_tree.specs.PlainTypes.{PlainTy}
use Rattle.py_tree.specs.Bounded.{ExprNames}
use Rattle.py_tree.specs.PlainExpressions.{PlainExpr, PBool}
use Rattle.py_tree.specs.FlowEnvironment.{PlainLocal, local_of}
use Rattle.py_tree.specs.Flow.{Context, type_at}
use Rattle.program_meaning.proofs.LocalShapes.{shapes, type_in, type_found}
use Rattle.flat_tree.specs.declared.tree.Callee.{Callee}
use Rattle.flat_tree.specs.declared.tree.Created.{Created}
use Rattle.flat_tree.specs.PlainFlat.{PlainFlatStmt, FSet, PlainFlatTest, flat_stmts_of}
use Rattle.method_splitter.specs.Callees.{Each, EachInAll, EachInTest}
use Rattle.hoisting.specs.Stages.{Stage, temporary, with_temporary, where_shown}
use Rattle.hoisting.specs.HoistExpressions.{Hoisted, Tested, Forms, still, if_suspends, built, in_turn, taken_into, settled, settled_unless, kept, leaf, by_value, forms_if, chosen, truth_of}
use Rattle.typed_hoisting.specs.KnownLocals.{seen_of, seen, Kept}
use Rattle.typed_hoisting.proofs.LocalLaws.{kept_same, or_else, one_more}
use Rattle.typed_hoisting.proofs.EnvironmentLaws.{kept_at}
use Rattle.typed_methods.proofs.StoredKnown.{AllKept, as_alike}
use Rattle.hoisted_callees.proofs.EachLaws.{each_none, each_one, each_more}

-- each local of one stage is found at another one
pub record Behind (h g : Stage) : Type 0 where
  pub kept : (x : ℕ) (l : PlainLocal) → local_of h.locals x ≡ Some l → local_of g.locals x ≡ Some l

pub at_once : (h : Stage) → Behind h h
at_once h = record { kept = λ x l e. e }

pub behind_both : (a b d : Stage) → Behind a b → Behind b d → Behind a d
behind_both a b d f g = record { kept = λ x l e. g.kept x l (f.kept x l e) }

-- one more temporary
temporary_behind : (n : ℕ) (locals : List PlainLocal) (t : PlainTy) (x : ℕ) (l : PlainLocal) → local_of locals x ≡ Some l → local_of (locals ++ temporary n t ∷ []) x ≡ Some l
temporary_behind n locals t x l e = one_more locals (temporary n t) x ∙ ap (λ o. or_else o (cond (n == x) (Some (temporary n t)) None)) e

pub with_one_more : (ty : PlainTy) (h : Stage) → Behind h (with_temporary ty h)
with_one_more ty h = record { kept = temporary_behind h.next h.locals ty }

-- what is known at a stage is known so behind it
pub behind_kept : (h g : Stage) → Behind h g → AllKept h.locals g.locals
behind_kept h g b x = by (local_of h.locals x) refl
  where
    by : (o : Option PlainLocal) → local_of h.locals x ≡ o → Kept (seen_of o) (seen g.locals x)
    by None e = tt
    by (Some l) e = kept_same (seen_of (Some l)) (seen g.locals x) (sym (ap seen_of (b.kept x l e)))

-- and each name has its type there
pub behind_type : (h g : Stage) → Behind h g → (x : ℕ) (t : PlainTy) → type_in (shapes h.locals) x ≡ Some t → type_in (shapes g.locals) x ≡ Some t
behind_type h g b x t e = by (local_of h.locals x) refl (type_found h.locals x ∙ e)
  where
    by : (o : Option PlainLocal) → local_of h.locals x ≡ o → option_map (λ (l : PlainLocal). l.ty) o ≡ Some t → type_in (shapes g.locals) x ≡ Some t
    by None f e = absurd (none-some t e)
    by (Some l) f e = sym (type_found g.locals x) ∙ ap (option_map (λ (l : PlainLocal). l.ty)) (b.kept x l f) ∙ e

-- an expression that has a type there, whatever type is wanted
pub record IsTyped (c : Context) (locals : List PlainLocal) (e : PlainExpr) : Type 0 where
  pub wanted : Option PlainTy
  pub ty : PlainTy
  pub typed : type_at c locals wanted e ≡ Ok ty

pub has_type : (c : Context) (locals : List PlainLocal) (e : PlainExpr) (wanted : Option PlainTy) (ty : PlainTy) → type_at c locals wanted e ≡ Ok ty → IsTyped c locals e
has_type c locals e wanted ty h = record { wanted = wanted; ty = ty; typed = h }

-- with names below a limit
pub typed_there : (c : Context) (limit : ℕ) (here there : List PlainLocal) (wanted : Option PlainTy) (e : PlainExpr) (ty : PlainTy) → ExprNames limit e → AllKept here there → type_at c here wanted e ≡ Ok ty → type_at c there wanted e ≡ Ok ty
typed_there c limit here there wanted e ty named kept typed = kept_at c limit limit here there (omega arith) (as_alike limit here there kept) wanted e ty named typed

pub typed_behind : (c : Context) (limit : ℕ) (h g : Stage) (e : PlainExpr) → ExprNames limit e → Behind h g → IsTyped c h.locals e → IsTyped c g.locals e
typed_behind c limit h g e named b t = has_type c g.locals e t.wanted t.ty (typed_there c limit h.locals g.locals t.wanted e t.ty named (behind_kept h g b) t.typed)

module _ (P : Callee → Type 0) (Q : Created → Type 0) where
  -- what is hoisted at a stage
  pub record Named {R : Type 0} (h : Stage) (a : Hoisted R) : Type 0 where
    pub each : EachInAll P Q (flat_stmts_of a.before)
    pub behind : Behind h a.stage

  pub still_named : {R : Type 0} (h : Stage) (e : R) → Named h (still e h)
  still_named h e = record { each = each_none P Q; behind = at_once h }

  pub built_named : {R S : Type 0} (h : Stage) (a : Hoisted R) (f : R → S) → Named h a → Named h (built f a)
  built_named h a f n = record { each = n.each; behind = n.behind }

  pub turn_named : {R S T : Type 0} (h : Stage) (f : R → S → T) (a : Hoisted R) (b : Stage → Hoisted S) → Named h a → Named a.stage (b a.stage) → Named h (in_turn f a b)
  turn_named h f a b n m = record { each = each_more P Q a.before (b a.stage).before n.each m.each; behind = behind_both h a.stage (b a.stage).stage n.behind m.behind }

  pub taken_named : {R : Type 0} (h : Stage) (a : Hoisted R) (at : Place) (ty : PlainTy) (f : R → ℕ → PlainFlatStmt) → Named h a → Each P Q (f a.rest a.stage.next) → Named h (taken_into at ty f a)
  taken_named h a at ty f n e = record {
    each = each_more P Q a.before (f a.rest a.stage.next ∷ []) n.each (each_one P Q (f a.rest a.stage.next) e);
    behind = behind_both h a.stage (with_temporary ty a.stage) n.behind (with_one_more ty a.stage);
  }

  pub settled_named : (h : Stage) (a : Hoisted PlainExpr) (at : Place) (ty : PlainTy) → Named h a → Named h (settled at ty a)
  unfolding Each
  settled_named h a at ty n = taken_named h a at ty (λ r t. FSet t r) n tt

  pub settled_unless_named : (lasting : Bool) (h : Stage) (a : Hoisted PlainExpr) (at : Place) (ty : PlainTy) → Named h a → Named h (settled_unless lasting at ty a)
  settled_unless_named true h a at ty n = n
  settled_unless_named false h a at ty n = settled_named h a at ty n

  pub kept_named : (later lasting : Bool) (h : Stage) (a : Hoisted PlainExpr) (at : Place) (ty : PlainTy) → Named h a → Named h (kept later lasting at ty a)
  kept_named true lasting h a at ty n = settled_unless_named lasting h a at ty n
  kept_named false lasting h a at ty n = n

  pub if_named : {R : Type 0} (b : Bool) (h : Stage) (e : R) (a : Hoisted R) → Named h a → Named h (if_suspends b e h a)
  if_named true h e a n = n
  if_named false h e a n = still_named h e

  -- One of two values

  pub chosen_named : (h : Stage) (at : Place) (ty : PlainTy) (test : PlainExpr) (t : Tested PlainFlatTest) (first second : Stage → Hoisted PlainExpr) → EachInTest P Q t.test
      → Named (where_shown true test h.locals t.next) (first (where_shown true test h.locals t.next))
      → Named (where_shown false test h.locals (first (where_shown true test h.locals t.next)).stage.next) (second (where_shown false test h.locals (first (where_shown true test h.locals t.next)).stage.next))
      → Named h (chosen at ty h.locals test t first second)
  unfolding Each
  chosen_named h at ty test t first second n m k =
      let a : Hoisted PlainExpr = first (where_shown true test h.locals t.next) in
      let b : Hoisted PlainExpr = second (where_shown false test h.locals a.stage.next) in
      record {
        each = (((n, each_more P Q a.before (FSet b.stage.next a.rest ∷ []) m.each (tt, tt), tt), each_more P Q b.before (FSet b.stage.next b.rest ∷ []) k.each (tt, tt)), tt);
        behind = record { kept = temporary_behind b.stage.next h.locals ty };
      }

  pub truth_named : (h : Stage) (at : Place) (test : PlainExpr) (t : Tested PlainFlatTest) → EachInTest P Q t.test → Named h (truth_of at h.locals test t)
  truth_named h at test t n = chosen_named h at _ test t (still (PBool at true)) (still (PBool at false)) n (still_named _ (PBool at true)) (still_named _ (PBool at false))

  -- Values and tests

  module _ (c : Context) where
    -- of an expression, wherever it has a type
    pub record NamedForms (e : PlainExpr) (both : Forms) : Type 0 where
      pub value : (wanted : Option PlainTy) (h : Stage) → IsTyped c h.locals e → Named h (both.value wanted h)
      pub test : (h : Stage) → IsTyped c h.locals e → EachInTest P Q (both.test h).test

    pub leaf_named : (h : Stage) (a : Hoisted PlainExpr) → Named h a → EachInTest P Q (leaf a).test
    unfolding Each
    leaf_named h a n = n.each

    pub by_value_named : (e : PlainExpr) (value : Option PlainTy → Stage → Hoisted PlainExpr) → ((wanted : Option PlainTy) (h : Stage) → IsTyped c h.locals e → Named h (value wanted h)) → NamedForms e (by_value value)
    by_value_named e value named = record { value = named; test = λ h t. leaf_named h (value None h) (named None h t) }

    pub still_forms : (e : PlainExpr) → NamedForms e (by_value (λ wanted h. still e h))
    still_forms e = by_value_named e (λ wanted h. still e h) (λ wanted h t. still_named h e)

    pub forms_if_named : (b : Bool) (e : PlainExpr) (both : Forms) → NamedForms e both → NamedForms e (forms_if b e both)
    forms_if_named true e both n = n
    forms_if_named false e both n = still_forms e

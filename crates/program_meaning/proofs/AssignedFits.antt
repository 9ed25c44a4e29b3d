-- Locals after an assignment, and at the head of a loop.
use Rattle.std.proofs.Common.{◌≡◌, ℕ, Bool, true, false, cond, not, Option, Some, None, List, [], ◌∷◌, ◌++◌, map as over, refl, sym, ap, ◌∙◌, subst, true≢false}
use Rattle.std.specs.Prelude.{is_some, ◌==◌, ◌||◌}
use Rattle.std.proofs.lemmas.Option.{same_Some, none-some}
use Rattle.std.proofs.lemmas.Bool.{eqb-true, eq-eqb}
use Rattle.py_tree.specs.PlainTypes.{PlainTy}
use Rattle.py_tree.specs.ClassRules.{PlainTable}
use Rattle.py_tree.specs.FlowEnvironment.{PlainLocal, has_name, local_of, has_none}
use Rattle.py_tree.specs.ExpressionTypes.{assignable, inside, read_ty}
use Rattle.py_tree.specs.Flow.{given, with_local, forgotten, at_head, keeps}
use Rattle.sf_value.specs.declared.value.Value.{Value}
use Rattle.program_meaning.specs.declared.vars.Var.{Var}
use Rattle.program_meaning.specs.World.{assigned}
use Rattle.program_meaning.specs.Fits.{Fits}
use Rattle.program_meaning.specs.PointFits.{HasValue, ValueFits, VarsFit, no_local, one_local}
use Rattle.program_meaning.proofs.FitsLaws.{fits_inside, fits_around, fits_wider}
use Rattle.program_meaning.proofs.LocalsFit.{has_new, keeps_other}
use Rattle.program_meaning.proofs.LocalShapes.{Shape, shapes, type_in, Within, all_in, one_in, Sound, not_none_value, given_if, new_local, is_typed, is_none_typed}

-- of these locals those with these names are not surely not None
pub data Forgets (names : List ℕ) : List PlainLocal → Type 0 where
  no_more : Forgets names []
  forgets : {l : PlainLocal} {ls : List PlainLocal} → (has_name names l.name ≡ true → l.not_none ≡ false) → Forgets names ls → Forgets names (l ∷ ls)

pub forgets_less : (names fewer : List ℕ) (locals : List PlainLocal) → ((x : ℕ) → has_name fewer x ≡ true → has_name names x ≡ true) → Forgets names locals → Forgets fewer locals
forgets_less names fewer [] less no_more = no_more
forgets_less names fewer (l ∷ locals) less (forgets f fs) = forgets (λ h. f (less l.name h)) (forgets_less names fewer locals less fs)

pub or_left : (a b : Bool) → a ≡ true → (a || b) ≡ true
or_left true b h = refl
or_left false b h = absurd (true≢false (sym h))

pub or_right : (a b : Bool) → b ≡ true → (a || b) ≡ true
or_right true b h = refl
or_right false b h = h

pub named_first : (a b : List ℕ) (x : ℕ) → has_name a x ≡ true → has_name (a ++ b) x ≡ true
unfolding has_name
named_first [] b x h = absurd (true≢false (sym h))
named_first (y ∷ a) b x h = by (y == x) h (named_first a b x)
  where
    by : (c : Bool) → (c || has_name a x) ≡ true → (has_name a x ≡ true → has_name (a ++ b) x ≡ true) → (c || has_name (a ++ b) x) ≡ true
    by true h k = refl
    by false h k = k h

pub named_second : (a b : List ℕ) (x : ℕ) → has_name b x ≡ true → has_name (a ++ b) x ≡ true
unfolding has_name
named_second [] b x h = h
named_second (y ∷ a) b x h = or_right (y == x) (has_name (a ++ b) x) (named_second a b x h)

pub forgets_first : (a b : List ℕ) (locals : List PlainLocal) → Forgets (a ++ b) locals → Forgets a locals
forgets_first a b locals f = forgets_less (a ++ b) a locals (named_first a b) f

pub forgets_second : (a b : List ℕ) (locals : List PlainLocal) → Forgets (a ++ b) locals → Forgets b locals
forgets_second a b locals f = forgets_less (a ++ b) b locals (named_second a b) f

pub forgets_both : (names : List ℕ) (a b : List PlainLocal) → Forgets names a → Forgets names b → Forgets names (a ++ b)
forgets_both names [] b no_more g = g
forgets_both names (l ∷ a) b (forgets f fs) g = forgets f (forgets_both names a b fs g)

pub forgets_at_head : (names : List ℕ) (locals : List PlainLocal) → Forgets names (at_head names locals)
unfolding at_head
forgets_at_head names [] = no_more
forgets_at_head names (l ∷ locals) = forgets (by (has_name names l.name) refl) (forgets_at_head names locals)
  where
    by : (b : Bool) → has_name names l.name ≡ b → has_name names (cond b (forgotten l) l).name ≡ true → (cond b (forgotten l) l).not_none ≡ false
    by true e h = refl
    by false e h = absurd (true≢false (sym h ∙ e))

pub named_one : (x : ℕ) → has_name (x ∷ []) x ≡ true
unfolding has_name
named_one x = or_left (x == x) false (eq-eqb x x refl)

pub named_head : (x : ℕ) (names : List ℕ) → has_name (x ∷ names) x ≡ true
unfolding has_name
named_head x names = or_left (x == x) (has_name names x) (eq-eqb x x refl)

pub named_more : (x : ℕ) (names : List ℕ) (y : ℕ) → has_name names y ≡ true → has_name (x ∷ names) y ≡ true
unfolding has_name
named_more x names y h = or_right (x == y) (has_name names y) h

module _ (tables : List PlainTable) (vars : List Var) where
  pub head_fits : (names : List ℕ) (locals : List PlainLocal) → VarsFit tables vars locals → VarsFit tables vars (at_head names locals)
  unfolding at_head
  head_fits names [] no_local = no_local
  head_fits names (l ∷ locals) (one_local f fs) = one_local (by (has_name names l.name)) (head_fits names locals fs)
    where
      wider : (b : Bool) (v : Value) → Fits tables (cond b (inside l.ty) l.ty) v → Fits tables l.ty v
      wider true v g = fits_around tables l.ty v g
      wider false v g = g

      by : (b : Bool) → (cond b (forgotten l) l).assigned ≡ true → ValueFits tables vars (cond b (forgotten l) l)
      by true h = record { value = (f h).value; has_value = (f h).has_value; fits = wider l.not_none (f h).value (f h).fits }
      by false h = f h

  module _ (x : ℕ) (ty : PlainTy) (v : Value) (fit : Fits tables ty v) where
    stays : (l : PlainLocal) → (l.name == x) ≡ false → ValueFits tables vars l → ValueFits tables (assigned vars x v) l
    stays l other f = record { value = f.value; has_value = keeps_other vars x v l.name f.value (by (x == l.name) refl) f.has_value; fits = f.fits }
      where
        by : (b : Bool) → (x == l.name) ≡ b → (x == l.name) ≡ false
        by true e = absurd (true≢false (sym (eq-eqb l.name x (sym (eqb-true x l.name e))) ∙ other))
        by false e = e

    taken : (l : PlainLocal) → (l.name == x) ≡ true → Fits tables (read_ty l) v → ValueFits tables (assigned vars x v) l
    taken l same f = record { value = v; has_value = subst (λ y. HasValue (assigned vars x v) y v) (sym (eqb-true l.name x same)) (has_new vars x v); fits = f }

    -- the value fits the type that the name has from before
    type_kept : (o : Option PlainTy) (t : PlainTy) → keeps ty o ≡ true → o ≡ Some t → Fits tables t v
    type_kept None t h e = absurd (none-some t e)
    type_kept (Some u) t h e = subst (λ w. Fits tables w v) (same_Some _ _ e) (fits_wider tables ty u v h fit)

    -- what forgets the name goes on to fit
    pub kept_fits : (kept : List PlainLocal) (ss : List Shape) → Within (shapes kept) ss → keeps ty (type_in ss x) ≡ true → Forgets (x ∷ []) kept → VarsFit tables vars kept → VarsFit tables (assigned vars x v) kept
    kept_fits [] ss all_in k no_more no_local = no_local
    kept_fits (l ∷ kept) ss (one_in e w) k (forgets g gs) (one_local f fs) = one_local (by (l.name == x) refl) (kept_fits kept ss w k gs fs)
      where
        wide : l.not_none ≡ false → Fits tables l.ty v → Fits tables (read_ty l) v
        wide h f = subst (λ b. Fits tables (cond b (inside l.ty) l.ty) v) (sym h) f

        by : (b : Bool) → (l.name == x) ≡ b → l.assigned ≡ true → ValueFits tables (assigned vars x v) l
        by true same a =
            let is : x ≡ l.name = sym (eqb-true l.name x same) in
            taken l same (wide (g (subst (λ y. has_name (x ∷ []) y ≡ true) is (named_one x))) (type_kept (type_in ss x) l.ty k (ap (type_in ss) is ∙ e)))
        by false other a = stays l other (f a)

    fits_given : (l : PlainLocal) (b : Bool) → has_none ty ≡ b → Fits tables l.ty v → Fits tables (cond (not b) (inside l.ty) l.ty) v
    fits_given l true h f = f
    fits_given l false h f = fits_inside tables l.ty v f (not_none_value tables ty v fit h)

    given_all : (locals : List PlainLocal) (ss : List Shape) → Within (shapes locals) ss → keeps ty (type_in ss x) ≡ true → VarsFit tables vars locals → VarsFit tables (assigned vars x v) (over (given_if x ty) locals)
    given_all [] ss all_in k no_local = no_local
    given_all (l ∷ locals) ss (one_in e w) k (one_local f fs) = one_local (by (l.name == x) refl) (given_all locals ss w k fs)
      where
        by : (b : Bool) → (l.name == x) ≡ b → (cond b (given ty l) l).assigned ≡ true → ValueFits tables (assigned vars x v) (cond b (given ty l) l)
        by true same a = taken (given ty l) same (fits_given l (has_none ty) refl (type_kept (type_in ss x) l.ty k (ap (type_in ss) (sym (eqb-true l.name x same)) ∙ e)))
        by false other a = stays l other (f a)

    others_stay : (locals : List PlainLocal) → type_in (shapes locals) x ≡ None → VarsFit tables vars locals → VarsFit tables (assigned vars x v) locals
    others_stay [] none no_local = no_local
    others_stay (l ∷ locals) none (one_local f fs) = by (l.name == x) refl none (others_stay locals)
      where
        by : (b : Bool) → (l.name == x) ≡ b → cond b (Some l.ty) (type_in (shapes locals) x) ≡ None → (type_in (shapes locals) x ≡ None → VarsFit tables vars locals → VarsFit tables (assigned vars x v) locals) → VarsFit tables (assigned vars x v) (l ∷ locals)
        by true e h k = absurd (none-some l.ty (sym h))
        by false e h k = one_local (λ a. stays l e (f a)) (k h fs)

    push_fits : (locals : List PlainLocal) (l : PlainLocal) → ValueFits tables (assigned vars x v) l → VarsFit tables (assigned vars x v) locals → VarsFit tables (assigned vars x v) (locals ++ l ∷ [])
    push_fits [] l f no_local = one_local (λ h. f) no_local
    push_fits (m ∷ locals) l f (one_local g gs) = one_local g (push_fits locals l f gs)

    -- the locals after the assignment
    pub local_given : (first : PlainTy) (locals : List PlainLocal) → Sound (shapes locals) → keeps ty (type_in (shapes locals) x) ≡ true → assignable ty first ≡ true → VarsFit tables vars locals → VarsFit tables (assigned vars x v) (with_local x first ty locals)
    unfolding with_local
    local_given first locals sound k a f = by (is_some (local_of locals x)) refl
      where
        by : (b : Bool) → is_some (local_of locals x) ≡ b → VarsFit tables (assigned vars x v) (cond b (over (given_if x ty) locals) (locals ++ new_local x first ty ∷ []))
        by true e = given_all locals (shapes locals) sound k f
        by false e = push_fits locals (new_local x first ty) (taken (new_local x first ty) (eq-eqb x x refl) (fits_given (new_local x first ty) (has_none ty) refl (fits_wider tables ty first v a fit)))
            (others_stay locals (is_none_typed (type_in (shapes locals) x) (sym (is_typed locals x) ∙ e)) f)

-- What is known of a name, as locals are narrowed, read and added.
use Rattle.std.proofs.Common.{◌≡◌, ℕ, Bool, true, false, not, cond, Option, Some, None, Ok, List, [], ◌∷◌, ◌++◌, map, if◌then◌else◌, refl, sym, ap, ◌∙◌, subst, true≢false}
use Rattle.std.specs.Prelude.{◌&&◌, ◌||◌, ◌==◌, option_map}
use Rattle.std.proofs.lemmas.Bool.{eqb-true}
use Rattle.std.proofs.lemmas.Option.{same_Some, none-some}
use Rattle.py_tree.specs.declared.names.Place.{Place}
use Rattle.py_tree.specs.declared.rule.Rule.TheVariants.{UnknownName, Unassigned}
use Rattle.py_tree.specs.PlainTypes.{PlainTy, TOptional}
use Rattle.py_tree.specs.FlowEnvironment.{PlainLocal, local_of, has_name, known_not_none, narrowed}
use Rattle.py_tree.specs.ExpressionTypes.{inside, read_ty, needs, refuse_if, type_of_name}
use Rattle.program_meaning.proofs.TypedParts.{err_ok, same_ok}
use Rattle.block_code.specs.PlainVars.{PlainVar}
use Rattle.block_code.specs.GraphFits.{var_of}
use Rattle.typed_hoisting.specs.KnownLocals.{Seen, is_optional, seen_of, seen, Kept, Under, Once}

-- the local that is found has the name that it is found by
pub found_name : (locals : List PlainLocal) (x : ℕ) (l : PlainLocal) → local_of locals x ≡ Some l → l.name ≡ x
unfolding local_of
found_name [] x l h = absurd (none-some l h)
found_name (m ∷ locals) x l h = by (m.name == x) refl h (found_name locals x l)
  where
    by : (b : Bool) → (m.name == x) ≡ b → cond b (Some m) (local_of locals x) ≡ Some l → (local_of locals x ≡ Some l → l.name ≡ x) → l.name ≡ x
    by true e h later = ap (λ (k : PlainLocal). k.name) (sym (same_Some _ _ h)) ∙ eqb-true m.name x e
    by false e h later = later h

-- Locals that change, and keep their names

module _ (f : PlainLocal → PlainLocal) (names : (l : PlainLocal) → (f l).name ≡ l.name) where
  pub changed : (locals : List PlainLocal) (x : ℕ) → local_of (map f locals) x ≡ option_map f (local_of locals x)
  unfolding local_of
  changed [] x = refl
  changed (l ∷ locals) x = ap (λ n. cond (n == x) (Some (f l)) (local_of (map f locals) x)) (names l) ∙ by (l.name == x) (changed locals x)
    where
      by : (b : Bool) → local_of (map f locals) x ≡ option_map f (local_of locals x) → cond b (Some (f l)) (local_of (map f locals) x) ≡ option_map f (cond b (Some l) (local_of locals x))
      by true e = refl
      by false e = e

  still_none : (o : Option PlainLocal) → o ≡ None → option_map f o ≡ None
  still_none o e = ap (option_map f) e

  pub once_changed : (locals : List PlainLocal) → Once locals → Once (map f locals)
  once_changed [] once = tt
  once_changed (l ∷ locals) once = (ap (local_of (map f locals)) (names l) ∙ changed locals l.name ∙ still_none (local_of locals l.name) once.0, once_changed locals once.1)

  pub variables_changed : ((l : PlainLocal) → (f l).ty ≡ l.ty) → (locals : List PlainLocal) → map var_of (map f locals) ≡ map var_of locals
  variables_changed types [] = refl
  variables_changed types (l ∷ locals) = ap (λ (v : PlainVar). v ∷ map var_of (map f locals)) (same l) ∙ ap (λ vs. var_of l ∷ vs) (variables_changed types locals)
    where
      a_var : ℕ → PlainTy → PlainVar
      a_var n t = record { name = n; ty = t }

      same : (l : PlainLocal) → var_of (f l) ≡ var_of l
      same l = ap (λ n. a_var n (f l).ty) (names l) ∙ ap (λ t. a_var l.name t) (types l)

-- Narrowing

abbrev pub narrowed_more : Bool → Seen → Seen
narrowed_more b s = record { ty = s.ty; less = (b && is_optional s.ty) || s.less }

abbrev pub narrow : List ℕ → PlainLocal → PlainLocal
narrow names l = if has_name names l.name then known_not_none l else l

pub narrow_name : (names : List ℕ) (l : PlainLocal) → (narrow names l).name ≡ l.name
narrow_name names l = by (has_name names l.name)
  where
    by : (b : Bool) → (if b then known_not_none l else l).name ≡ l.name
    by true = refl
    by false = refl

pub narrow_ty : (names : List ℕ) (l : PlainLocal) → (narrow names l).ty ≡ l.ty
narrow_ty names l = by (has_name names l.name)
  where
    by : (b : Bool) → (if b then known_not_none l else l).ty ≡ l.ty
    by true = refl
    by false = refl

abbrev local_so : ℕ → PlainTy → Bool → Bool → PlainLocal
local_so name ty assigned not_none = record { name = name; ty = ty; assigned = assigned; not_none = not_none }

known_seen : (name : ℕ) (ty : PlainTy) (a n b : Bool) → seen_of (Some (if b then local_so name ty a true else local_so name ty a n)) ≡ option_map (narrowed_more b) (seen_of (Some (local_so name ty a n)))
known_seen name ty false n true = refl
known_seen name ty false n false = refl
known_seen name ty true n false = refl
known_seen name (TOptional u) true n true = refl
known_seen name _ true n true = refl

pub narrowed_seen : (names : List ℕ) (locals : List PlainLocal) (x : ℕ) → seen (narrowed names locals) x ≡ option_map (narrowed_more (has_name names x)) (seen locals x)
unfolding narrowed
narrowed_seen names locals x = ap seen_of (changed (narrow names) (narrow_name names) locals x) ∙ by (local_of locals x) refl
  where
    by : (o : Option PlainLocal) → local_of locals x ≡ o → seen_of (option_map (narrow names) o) ≡ option_map (narrowed_more (has_name names x)) (seen_of o)
    by None e = refl
    by (Some l) e = ap (λ n. seen_of (Some (if has_name names n then known_not_none l else l))) (found_name locals x l e) ∙ known_seen l.name l.ty l.assigned l.not_none (has_name names x)

-- Names that are read

abbrev read_of_seen : Seen → PlainTy
read_of_seen s = if s.less then inside s.ty else s.ty

read_as : (t : PlainTy) (n : Bool) → (if n then inside t else t) ≡ (if is_optional t && n then inside t else t)
read_as (TOptional u) true = refl
read_as (TOptional u) false = refl
read_as _ true = refl
read_as _ false = refl

pub read_seen : (locals : List PlainLocal) (at : Place) (x : ℕ) (s : Seen) → seen locals x ≡ Some s → type_of_name locals at x ≡ Ok (if s.less then inside s.ty else s.ty)
unfolding type_of_name
read_seen locals at x s h = by (local_of locals x) h
  where
    here : (l : PlainLocal) (b : Bool) → (if b then Some (record { ty = l.ty; less = is_optional l.ty && l.not_none }) else None) ≡ Some s → refuse_if (not b) Unassigned at (Ok (read_ty l)) ≡ Ok (read_of_seen s)
    here l true h = ap Ok (read_as l.ty l.not_none ∙ ap read_of_seen (same_Some _ _ h))
    here l false h = absurd (none-some s h)

    by : (o : Option PlainLocal) → seen_of o ≡ Some s → needs o UnknownName at (λ l. refuse_if (not l.assigned) Unassigned at (Ok (read_ty l))) ≡ Ok (read_of_seen s)
    by None h = absurd (none-some s h)
    by (Some l) h = here l l.assigned h

pub seen_read : (locals : List PlainLocal) (at : Place) (x : ℕ) (t : PlainTy) → type_of_name locals at x ≡ Ok t → (s : Seen) × (seen locals x ≡ Some s) × (t ≡ (if s.less then inside s.ty else s.ty))
unfolding type_of_name
seen_read locals at x t h = by (local_of locals x) h
  where
    here : (l : PlainLocal) (b : Bool) → refuse_if (not b) Unassigned at (Ok (read_ty l)) ≡ Ok t → (s : Seen) × ((if b then Some (record { ty = l.ty; less = is_optional l.ty && l.not_none }) else None) ≡ Some s) × (t ≡ read_of_seen s)
    here l true h = (record { ty = l.ty; less = is_optional l.ty && l.not_none }, refl, sym (same_ok (read_ty l) t h) ∙ read_as l.ty l.not_none)
    here l false h = absurd (err_ok _ t h)

    by : (o : Option PlainLocal) → needs o UnknownName at (λ l. refuse_if (not l.assigned) Unassigned at (Ok (read_ty l))) ≡ Ok t → (s : Seen) × (seen_of o ≡ Some s) × (t ≡ read_of_seen s)
    by None h = absurd (err_ok _ t h)
    by (Some l) h = here l l.assigned h

-- One more local

abbrev pub or_else : Option PlainLocal → Option PlainLocal → Option PlainLocal
or_else None o = o
or_else (Some l) o = Some l

pub one_more : (locals : List PlainLocal) (l : PlainLocal) (x : ℕ) → local_of (locals ++ l ∷ []) x ≡ or_else (local_of locals x) (cond (l.name == x) (Some l) None)
unfolding local_of
one_more [] l x = refl
one_more (m ∷ locals) l x = by (m.name == x) (one_more locals l x)
  where
    last : Option PlainLocal
    last = cond (l.name == x) (Some l) None

    by : (b : Bool) → local_of (locals ++ l ∷ []) x ≡ or_else (local_of locals x) last → cond b (Some m) (local_of (locals ++ l ∷ []) x) ≡ or_else (cond b (Some m) (local_of locals x)) last
    by true e = refl
    by false e = e

pub apart : (a b : ℕ) → (a ≡ b → ⊥) → (a == b) ≡ false
apart a b differ = by (a == b) refl
  where
    by : (c : Bool) → (a == b) ≡ c → c ≡ false
    by true e = absurd (differ (eqb-true a b e))
    by false e = refl

-- Just as much

pub kept_same : (o q : Option Seen) → o ≡ q → Kept o q
kept_same None q e = tt
kept_same (Some s) q e = sym e

pub kept_on : (o q r : Option Seen) → Kept o q → Kept q r → Kept o r
kept_on None q r f g = tt
kept_on (Some s) q r f g = subst (λ o. Kept o r) f g

pub kept_over : (f : Seen → Seen) (o q : Option Seen) → Kept o q → Kept (option_map f o) (option_map f q)
kept_over f None q h = tt
kept_over f (Some s) q h = ap (option_map f) h

-- what is known so there
pub kept_seen : (o q : Option Seen) (s : Seen) → Kept o q → o ≡ Some s → q ≡ Some s
kept_seen o q s h e = subst (λ p. Kept p q) e h

pub kept_narrowed : (names : List ℕ) (here there : List PlainLocal) (x : ℕ) → Kept (seen here x) (seen there x) → Kept (seen (narrowed names here) x) (seen (narrowed names there) x)
kept_narrowed names here there x h =
    let f : Seen → Seen = narrowed_more (has_name names x) in
    subst (λ o. Kept o (seen (narrowed names there) x)) (sym (narrowed_seen names here x)) (subst (Kept (option_map f (seen here x))) (sym (narrowed_seen names there x)) (kept_over f (seen here x) (seen there x) h))

-- At least as much

pub kept_under : (o q : Option Seen) → Kept o q → Under o q
kept_under None q h = tt
kept_under (Some s) q h = subst (Under (Some s)) (sym h) (refl, λ e. e)

pub under_kept : (o q r : Option Seen) → Under o q → Kept q r → Under o r
under_kept None q r f g = tt
under_kept (Some s) None r f g = absurd f
under_kept (Some s) (Some t) r f g = subst (Under (Some s)) (sym g) f

pub kept_then_under : (o q r : Option Seen) → Kept o q → Under q r → Under o r
kept_then_under None q r f g = tt
kept_then_under (Some s) q r f g = subst (λ p. Under p r) f g

pub under_itself : (o : Option Seen) → Under o o
under_itself None = tt
under_itself (Some s) = (refl, λ h. h)

either_known : (a c : Bool) → c ≡ true → (a || c) ≡ true
either_known true c h = refl
either_known false c h = h

-- narrowing adds, and may be forgotten
pub under_narrowed : (b : Bool) (o : Option Seen) → Under o (option_map (narrowed_more b) o)
under_narrowed b None = tt
under_narrowed b (Some s) = (refl, λ h. either_known (b && is_optional s.ty) s.less h)

pub under_forgotten : (b : Bool) (o q : Option Seen) → Under (option_map (narrowed_more b) o) q → Under o q
under_forgotten b None q h = tt
under_forgotten b (Some s) None h = absurd h
under_forgotten b (Some s) (Some r) h = (h.0, λ e. h.1 (either_known (b && is_optional s.ty) s.less e))

pub under_unnarrowed : (o q : Option Seen) → Under o q → Under (option_map (narrowed_more false) o) q
under_unnarrowed None q h = tt
under_unnarrowed (Some s) q h = h

more_narrow : (a b o l : Bool) → (a ≡ true → b ≡ true) → ((a && o) || l) ≡ true → ((b && o) || l) ≡ true
more_narrow true true o l f h = h
more_narrow true false o l f h = absurd (true≢false (sym (f refl)))
more_narrow false true true l f h = refl
more_narrow false true false l f h = h
more_narrow false false o l f h = h

-- more names narrow more
pub under_both : (a b : Bool) (o : Option Seen) → (a ≡ true → b ≡ true) → Under (option_map (narrowed_more a) o) (option_map (narrowed_more b) o)
under_both a b None f = tt
under_both a b (Some s) f = (refl, λ h. more_narrow a b (is_optional s.ty) s.less f h)

either_more : (a b o l : Bool) → ((a || b) && o) || l ≡ (b && o) || ((a && o) || l)
either_more true true true l = refl
either_more true true false l = refl
either_more true false true l = refl
either_more true false false l = refl
either_more false true true l = refl
either_more false true false l = refl
either_more false false true l = refl
either_more false false false l = refl

pub narrowed_twice : (a b : Bool) (o : Option Seen) → option_map (narrowed_more (a || b)) o ≡ option_map (narrowed_more b) (option_map (narrowed_more a) o)
narrowed_twice a b None = refl
narrowed_twice a b (Some s) = ap (λ l. Some (record { ty = s.ty; less = l })) (either_more a b (is_optional s.ty) s.less)

pub has_either : (a b : List ℕ) (x : ℕ) → has_name (a ++ b) x ≡ has_name a x || has_name b x
unfolding has_name
has_either [] b x = refl
has_either (y ∷ a) b x = by (y == x) (has_either a b x)
  where
    by : (c : Bool) → has_name (a ++ b) x ≡ has_name a x || has_name b x → (c || has_name (a ++ b) x) ≡ (c || has_name a x) || has_name b x
    by true e = refl
    by false e = e

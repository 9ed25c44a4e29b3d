-- What is known of names where a value is stored, at the head of a loop, and by names and types alone.
use Rattle.std.proofs.Common.{◌≡◌, ℕ, Bool, true, false, not, cond, Option, Some, None, List, [], ◌∷◌, ◌++◌, map, if◌then◌else◌, refl, sym, ap, ◌∙◌, subst, true≢false}
use Rattle.std.specs.Prelude.{⊤, ◌&&◌, ◌==◌, is_some, option_map, unwrap_or, nat_le}
use Rattle.std.proofs.lemmas.Bool.{eqb-true, eq-eqb, leb-true, leb-false}
use Rattle.std.proofs.lemmas.Option.{none-some}
use Rattle.py_tree.specs.PlainTypes.{PlainTy}
use Rattle.py_tree.specs.FlowEnvironment.{PlainLocal, local_of, has_name, has_none}
use Rattle.py_tree.specs.Flow.{given, with_local, forgotten, at_head}
use Rattle.program_meaning.proofs.LocalShapes.{Shape, shapes, type_in, type_found, given_if, new_local}
use Rattle.block_code.specs.PlainVars.{PlainVar}
use Rattle.block_code.specs.GraphFits.{var_of}
use Rattle.typed_hoisting.specs.KnownLocals.{Seen, is_optional, seen_of, seen, Kept, Under, Alike, Once, Free, AreVariables, AtLeast}
use Rattle.typed_hoisting.proofs.LocalLaws.{found_name, changed, or_else, one_more, apart, kept_same, kept_over, kept_under}

-- what is known here of any name is known so there
abbrev pub AllKept : List PlainLocal → List PlainLocal → Type 0
AllKept here there = (x : ℕ) → Kept (seen here x) (seen there x)

-- and at least so
abbrev pub AllUnder : List PlainLocal → List PlainLocal → Type 0
AllUnder here there = (x : ℕ) → Under (seen here x) (seen there x)

-- each name that has a type here has it there
abbrev pub TypedThere : List PlainLocal → List PlainLocal → Type 0
TypedThere here there = (x : ℕ) (t : PlainTy) → type_in (shapes here) x ≡ Some t → type_in (shapes there) x ≡ Some t

pub all_itself : (locals : List PlainLocal) → AllKept locals locals
all_itself locals x = kept_same (seen locals x) (seen locals x) refl

pub all_under : (here there : List PlainLocal) → AllKept here there → AllUnder here there
all_under here there kept x = kept_under (seen here x) (seen there x) (kept x)

-- A value that is stored

abbrev pub given_as : PlainTy → PlainTy → Seen
given_as ty s = record { ty = ty; less = is_optional ty && not (has_none s) }

given_name : (n : ℕ) (s : PlainTy) (l : PlainLocal) → (given_if n s l).name ≡ l.name
given_name n s l = by (l.name == n)
  where
    by : (b : Bool) → (cond b (given s l) l).name ≡ l.name
    by true = refl
    by false = refl

found_type : (locals : List PlainLocal) (x : ℕ) (l : PlainLocal) → local_of locals x ≡ Some l → type_in (shapes locals) x ≡ Some l.ty
found_type locals x l e = sym (type_found locals x) ∙ ap (option_map (λ (l : PlainLocal). l.ty)) e

no_type : (locals : List PlainLocal) (x : ℕ) → local_of locals x ≡ None → type_in (shapes locals) x ≡ None
no_type locals x e = sym (type_found locals x) ∙ ap (option_map (λ (l : PlainLocal). l.ty)) e

-- the type of a name that may get this one
abbrev pub type_or : List PlainLocal → ℕ → PlainTy → PlainTy
type_or locals x first = unwrap_or (type_in (shapes locals) x) first

module _ (x : ℕ) (first s : PlainTy) (locals : List PlainLocal) where
  abbrev stored_locals : Option PlainLocal → List PlainLocal
  stored_locals o = if is_some o then map (given_if x s) locals else locals ++ new_local x first s ∷ []

  is_stored : (o : Option PlainLocal) → local_of locals x ≡ o → with_local x first s locals ≡ stored_locals o
  unfolding with_local
  is_stored o e = ap stored_locals e

  typed_or : (o : Option PlainLocal) → local_of locals x ≡ o → type_or locals x first ≡ unwrap_or (option_map (λ (l : PlainLocal). l.ty) o) first
  typed_or o e = ap (λ t. unwrap_or t first) (sym (type_found locals x)) ∙ ap (λ o. unwrap_or (option_map (λ (l : PlainLocal). l.ty) o) first) e

  turned : (y : ℕ) → (x == y) ≡ false → (y == x) ≡ false
  turned y e = apart y x (λ f. true≢false (sym (eq-eqb x y (sym f)) ∙ e))

  -- a name that has a type
  there_seen : (l : PlainLocal) → local_of locals x ≡ Some l → (y : ℕ) (b : Bool) → (x == y) ≡ b → seen (map (given_if x s) locals) y ≡ cond b (Some (given_as l.ty s)) (seen locals y)
  there_seen l e y true f =
      ap seen_of (changed (given_if x s) (given_name x s) locals y ∙ ap (λ z. option_map (given_if x s) (local_of locals z)) (sym (eqb-true x y f)) ∙ ap (option_map (given_if x s)) e)
      ∙ ap (λ b. seen_of (Some (cond b (given s l) l))) (eq-eqb l.name x (found_name locals x l e))
  there_seen l e y false f = ap seen_of (changed (given_if x s) (given_name x s) locals y ∙ by (local_of locals y) refl)
    where
      by : (o : Option PlainLocal) → local_of locals y ≡ o → option_map (given_if x s) o ≡ o
      by None g = refl
      by (Some m) g = ap (λ z. Some (cond (z == x) (given s m) m)) (found_name locals y m g) ∙ ap (λ b. Some (cond b (given s m) m)) (turned y f)

  -- a new one
  new_seen : local_of locals x ≡ None → (y : ℕ) (b : Bool) → (x == y) ≡ b → seen (locals ++ new_local x first s ∷ []) y ≡ cond b (Some (given_as first s)) (seen locals y)
  new_seen e y true f =
      ap seen_of
      (one_more locals (new_local x first s) y
      ∙ ap (λ b. or_else (local_of locals y) (cond b (Some (new_local x first s)) None)) f
      ∙ ap (λ z. or_else (local_of locals z) (Some (new_local x first s))) (sym (eqb-true x y f))
      ∙ ap (λ o. or_else o (Some (new_local x first s))) e)
  new_seen e y false f = ap seen_of (one_more locals (new_local x first s) y ∙ ap (λ b. or_else (local_of locals y) (cond b (Some (new_local x first s)) None)) f ∙ by (local_of locals y))
    where
      by : (o : Option PlainLocal) → or_else o None ≡ o
      by None = refl
      by (Some m) = refl

  pub stored_seen : (y : ℕ) → seen (with_local x first s locals) y ≡ cond (x == y) (Some (given_as (type_or locals x first) s)) (seen locals y)
  stored_seen y = by (local_of locals x) refl
    where
      by : (o : Option PlainLocal) → local_of locals x ≡ o → seen (with_local x first s locals) y ≡ cond (x == y) (Some (given_as (type_or locals x first) s)) (seen locals y)
      by (Some l) e = ap (λ ls. seen ls y) (is_stored (Some l) e) ∙ there_seen l e y (x == y) refl ∙ ap (λ t. cond (x == y) (Some (given_as t s)) (seen locals y)) (sym (typed_or (Some l) e))
      by None e = ap (λ ls. seen ls y) (is_stored None e) ∙ new_seen e y (x == y) refl ∙ ap (λ t. cond (x == y) (Some (given_as t s)) (seen locals y)) (sym (typed_or None e))

  pub stored_type : type_in (shapes (with_local x first s locals)) x ≡ Some (type_or locals x first)
  stored_type = by (local_of locals x) refl
    where
      by : (o : Option PlainLocal) → local_of locals x ≡ o → type_in (shapes (with_local x first s locals)) x ≡ Some (type_or locals x first)
      by (Some l) e =
          found_type (with_local x first s locals) x (given s l)
          (ap (λ ls. local_of ls x) (is_stored (Some l) e) ∙ changed (given_if x s) (given_name x s) locals x ∙ ap (option_map (given_if x s)) e ∙ ap (λ b. Some (cond b (given s l) l)) (eq-eqb l.name x (found_name locals x l e)))
          ∙ ap Some (sym (typed_or (Some l) e))
      by None e =
          found_type (with_local x first s locals) x (new_local x first s)
          (ap (λ ls. local_of ls x) (is_stored None e) ∙ one_more locals (new_local x first s) x ∙ ap (λ o. or_else o (cond (x == x) (Some (new_local x first s)) None)) e ∙ ap (λ b. cond b (Some (new_local x first s)) None) (eq-eqb x x refl))
          ∙ ap Some (sym (typed_or None e))

module _ (x : ℕ) (first second s : PlainTy) (here there : List PlainLocal) where
  -- of one type in both
  pub stored_kept : type_or here x first ≡ type_or there x second → AllKept here there → AllKept (with_local x first s here) (with_local x second s there)
  stored_kept same kept y =
      subst (λ o. Kept o (seen (with_local x second s there) y)) (sym (stored_seen x first s here y)) (subst (Kept (cond (x == y) (Some (given_as (type_or here x first) s)) (seen here y))) (sym (stored_seen x second s there y)) (by (x == y)))
    where
      by : (b : Bool) → Kept (cond b (Some (given_as (type_or here x first) s)) (seen here y)) (cond b (Some (given_as (type_or there x second) s)) (seen there y))
      by true = ap (λ t. Some (given_as t s)) (sym same)
      by false = kept y

  -- where it has its type already
  pub stored_there : type_in (shapes there) x ≡ Some (type_or here x first) → AllKept here there → AllKept (with_local x first s here) (with_local x second s there)
  stored_there is kept = stored_kept (sym (ap (λ t. unwrap_or t second) is)) kept

-- The head of a loop

abbrev pub forget_if : Bool → Seen → Seen
forget_if b k = record { ty = k.ty; less = not b && k.less }

abbrev forget : List ℕ → PlainLocal → PlainLocal
forget names l = if has_name names l.name then forgotten l else l

forget_name : (names : List ℕ) (l : PlainLocal) → (forget names l).name ≡ l.name
forget_name names l = by (has_name names l.name)
  where
    by : (b : Bool) → (if b then forgotten l else l).name ≡ l.name
    by true = refl
    by false = refl

and_nothing : (o : Bool) → (o && false) ≡ false
and_nothing true = refl
and_nothing false = refl

abbrev local_with : PlainLocal → Bool → Bool → PlainLocal
local_with l a n = record { name = l.name; ty = l.ty; assigned = a; not_none = n }

forgotten_seen : (b : Bool) (l : PlainLocal) → seen_of (Some (if b then forgotten l else l)) ≡ option_map (forget_if b) (seen_of (Some l))
forgotten_seen b l = by b l.assigned
  where
    by : (b a : Bool) → seen_of (Some (if b then local_with l a false else local_with l a l.not_none)) ≡ option_map (forget_if b) (seen_of (Some (local_with l a l.not_none)))
    by true true = ap (λ o. Some (record { ty = l.ty; less = o })) (and_nothing (is_optional l.ty))
    by true false = refl
    by false true = refl
    by false false = refl

pub head_seen : (names : List ℕ) (locals : List PlainLocal) (x : ℕ) → seen (at_head names locals) x ≡ option_map (forget_if (has_name names x)) (seen locals x)
unfolding at_head
head_seen names locals x = ap seen_of (changed (forget names) (forget_name names) locals x) ∙ by (local_of locals x) refl
  where
    by : (o : Option PlainLocal) → local_of locals x ≡ o → seen_of (option_map (forget names) o) ≡ option_map (forget_if (has_name names x)) (seen_of o)
    by None e = refl
    by (Some l) e = ap (λ n. seen_of (Some (if has_name names n then forgotten l else l))) (found_name locals x l e) ∙ forgotten_seen (has_name names x) l

pub head_kept : (names : List ℕ) (here there : List PlainLocal) → AllKept here there → AllKept (at_head names here) (at_head names there)
head_kept names here there kept x =
    subst (λ o. Kept o (seen (at_head names there) x)) (sym (head_seen names here x))
    (subst (Kept (option_map (forget_if (has_name names x)) (seen here x))) (sym (head_seen names there x)) (kept_over (forget_if (has_name names x)) (seen here x) (seen there x) (kept x)))

-- By names and types alone

abbrev OnceIn : List Shape → Type 0
OnceIn [] = ⊤
OnceIn (s ∷ ss) = (type_in ss s.0 ≡ None) × OnceIn ss

none_over : (o : Option PlainLocal) → option_map (λ (l : PlainLocal). l.ty) o ≡ None → o ≡ None
none_over None h = refl
none_over (Some l) h = absurd (none-some l.ty (sym h))

pub untyped : (locals : List PlainLocal) (x : ℕ) → type_in (shapes locals) x ≡ None → local_of locals x ≡ None
untyped locals x h = none_over (local_of locals x) (type_found locals x ∙ h)

once_in : (locals : List PlainLocal) → Once locals → OnceIn (shapes locals)
once_in [] once = tt
once_in (l ∷ locals) once = (no_type locals l.name once.0, once_in locals once.1)

in_once : (locals : List PlainLocal) → OnceIn (shapes locals) → Once locals
in_once [] once = tt
in_once (l ∷ locals) once = (untyped locals l.name once.0, in_once locals once.1)

pub free_same : (n : ℕ) (a b : List PlainLocal) → shapes b ≡ shapes a → Free n a → Free n b
free_same n a b e free = record {
  free = λ x up. untyped b x (ap (λ ss. type_in ss x) e ∙ no_type a x (free.free x up));
  once = in_once b (subst OnceIn (sym e) (once_in a free.once));
}

abbrev var_as : Shape → PlainVar
var_as s = record { name = s.0; ty = s.1 }

vars_of : (locals : List PlainLocal) → map var_as (shapes locals) ≡ map var_of locals
vars_of [] = refl
vars_of (l ∷ locals) = ap (λ vs. var_of l ∷ vs) (vars_of locals)

pub are_same : (variables : List PlainVar) (a b : List PlainLocal) → shapes b ≡ shapes a → AreVariables variables a → AreVariables variables b
are_same variables a b e are = sym (vars_of b) ∙ ap (map var_as) e ∙ vars_of a ∙ are

-- Below the next temporary, and everywhere

pub kept_free : (k : ℕ) (here there : List PlainLocal) → Free k here → Alike k here there → AllKept here there
kept_free k here there free alike x = by (nat_le k x) refl
  where
    by : (b : Bool) → nat_le k x ≡ b → Kept (seen here x) (seen there x)
    by true e = subst (λ o. Kept o (seen there x)) (sym (ap seen_of (free.free x (leb-true k x e)))) tt
    by false e = alike.alike x (leb-false k x e)

pub under_free : (k : ℕ) (variables : List PlainVar) (here there : List PlainLocal) → Free k here → AtLeast variables k here there → AllUnder here there
under_free k variables here there free least x = by (nat_le k x) refl
  where
    by : (b : Bool) → nat_le k x ≡ b → Under (seen here x) (seen there x)
    by true e = subst (λ o. Under o (seen there x)) (sym (ap seen_of (free.free x (leb-true k x e)))) tt
    by false e = least.under x (leb-false k x e)

pub as_alike : (k : ℕ) (here there : List PlainLocal) → AllKept here there → Alike k here there
as_alike k here there kept = record { alike = λ x below. kept x }

-- Names and types of locals, apart from what is known of them at a point; and values that fit both.
use Rattle.std.proofs.Common.{◌≡◌, ℕ, Bool, true, false, cond, Option, Some, None, List, [], ◌∷◌, ◌++◌, map as over, append_assoc, append-nil, refl, sym, ap, ◌∙◌, subst, true≢false}
use Rattle.std.specs.Prelude.{option_map, is_some, ◌==◌, ◌&&◌}
use Rattle.std.proofs.lemmas.Option.{same_Some, none-some}
use Rattle.std.proofs.lemmas.Bool.{eq-eqb}
use Rattle.py_tree.specs.declared.names.PlacedName.{PlacedName}
use Rattle.py_tree.specs.PlainTypes.{PlainTy, TInt, TBool, TStr, TNil, TList, TOptional, TEntity}
use Rattle.py_tree.specs.ClassRules.{PlainTable}
use Rattle.py_tree.specs.FlowEnvironment.{PlainLocal, has_name, local_of, narrowed, known_not_none, has_none}
use Rattle.py_tree.specs.ExpressionTypes.{assignable, inside}
use Rattle.py_tree.specs.Flow.{Known, known_at, settled, joined, meet, way, behind_ways, given, with_local, forgotten, at_head, earlier, keeps}
use Rattle.sf_value.specs.declared.value.Value.{Value}
use Rattle.program_meaning.specs.declared.vars.Var.{Var}
use Rattle.program_meaning.specs.Operations.{is_nil}
use Rattle.program_meaning.specs.Fits.{Fits, int, bool, str, nil, list, none, some, entity}
use Rattle.program_meaning.specs.PointFits.{ValueFits, VarsFit, no_local, one_local}
use Rattle.program_meaning.proofs.FitsLaws.{fits_around}

-- a name with its type
abbrev pub Shape : Type 0
Shape = ℕ × PlainTy

abbrev pub shape : PlainLocal → Shape
shape l = (l.name, l.ty)

abbrev pub shapes : List PlainLocal → List Shape
shapes locals = over shape locals

-- the type that a name has among these
abbrev pub type_in : List Shape → ℕ → Option PlainTy
type_in [] x = None
type_in (s ∷ ss) x = cond (s.0 == x) (Some s.1) (type_in ss x)

-- which is that of the first local of this name
pub type_found : (locals : List PlainLocal) (x : ℕ) → option_map (λ (l : PlainLocal). l.ty) (local_of locals x) ≡ type_in (shapes locals) x
unfolding local_of
type_found [] x = refl
type_found (l ∷ locals) x = by (l.name == x) (type_found locals x)
  where
    by : (b : Bool) → option_map (λ (m : PlainLocal). m.ty) (local_of locals x) ≡ type_in (shapes locals) x → option_map (λ (m : PlainLocal). m.ty) (cond b (Some l) (local_of locals x)) ≡ cond b (Some l.ty) (type_in (shapes locals) x)
    by true e = refl
    by false e = e

pub earlier_is : (locals : List PlainLocal) (x : PlacedName) → earlier locals x ≡ type_in (shapes locals) x.name.0
unfolding earlier
earlier_is locals x = type_found locals x.name.0

pub is_typed : (locals : List PlainLocal) (x : ℕ) → is_some (local_of locals x) ≡ is_some (type_in (shapes locals) x)
unfolding local_of
is_typed [] x = refl
is_typed (l ∷ locals) x = by (l.name == x) (is_typed locals x)
  where
    by : (b : Bool) → is_some (local_of locals x) ≡ is_some (type_in (shapes locals) x) → is_some (cond b (Some l) (local_of locals x)) ≡ is_some (cond b (Some l.ty) (type_in (shapes locals) x))
    by true e = refl
    by false e = e

-- each of the first has the type that its name has among the second
pub data Within : List Shape → List Shape → Type 0 where
  all_in : {ss : List Shape} → Within [] ss
  one_in : {h : Shape} {hs ss : List Shape} → type_in ss h.0 ≡ Some h.1 → Within hs ss → Within (h ∷ hs) ss

abbrev pub Sound : List Shape → Type 0
Sound ss = Within ss ss

pub typed_behind : (ss rest : List Shape) (x : ℕ) (ty : PlainTy) → type_in ss x ≡ Some ty → type_in (ss ++ rest) x ≡ Some ty
typed_behind [] rest x ty h = absurd (none-some ty h)
typed_behind (s ∷ ss) rest x ty h = by (s.0 == x) h (typed_behind ss rest x ty)
  where
    by : (b : Bool) → cond b (Some s.1) (type_in ss x) ≡ Some ty → (type_in ss x ≡ Some ty → type_in (ss ++ rest) x ≡ Some ty) → cond b (Some s.1) (type_in (ss ++ rest) x) ≡ Some ty
    by true h k = h
    by false h k = k h

new_typed : (ss : List Shape) (x : ℕ) (ty : PlainTy) → type_in ss x ≡ None → type_in (ss ++ (x, ty) ∷ []) x ≡ Some ty
new_typed [] x ty h = ap (λ b. cond b (Some ty) None) (eq-eqb x x refl)
new_typed (s ∷ ss) x ty h = by (s.0 == x) h (new_typed ss x ty)
  where
    by : (b : Bool) → cond b (Some s.1) (type_in ss x) ≡ None → (type_in ss x ≡ None → type_in (ss ++ (x, ty) ∷ []) x ≡ Some ty) → cond b (Some s.1) (type_in (ss ++ (x, ty) ∷ []) x) ≡ Some ty
    by true h k = absurd (none-some s.1 (sym h))
    by false h k = k h

pub within_more : (hs ss rest : List Shape) → Within hs ss → Within hs (ss ++ rest)
within_more [] ss rest all_in = all_in
within_more (h ∷ hs) ss rest (one_in e w) = one_in (typed_behind ss rest h.0 h.1 e) (within_more hs ss rest w)

pub within_both : (hs gs ss : List Shape) → Within hs ss → Within gs ss → Within (hs ++ gs) ss
within_both [] gs ss all_in v = v
within_both (h ∷ hs) gs ss (one_in e w) v = one_in e (within_both hs gs ss w v)

sound_new : (ss : List Shape) (x : ℕ) (ty : PlainTy) → type_in ss x ≡ None → Sound ss → Sound (ss ++ (x, ty) ∷ [])
sound_new ss x ty h s = within_both ss ((x, ty) ∷ []) (ss ++ (x, ty) ∷ []) (within_more ss ss ((x, ty) ∷ []) s) (one_in (new_typed ss x ty h) all_in)

-- Locals that are typed later stand behind the others

pub record Grows (before after : List PlainLocal) : Type 0 where
  pub rest : List Shape
  pub is : shapes after ≡ shapes before ++ rest
  pub sound : Sound (shapes before) → Sound (shapes after)

pub alike_grows : (before after : List PlainLocal) → shapes after ≡ shapes before → Grows before after
alike_grows before after e = record { rest = []; is = e ∙ sym (append-nil (shapes before)); sound = λ s. subst (λ ss. Sound ss) (sym e) s }

pub grows_on : (a b c : List PlainLocal) → Grows a b → Grows b c → Grows a c
grows_on a b c p q = record { rest = p.rest ++ q.rest; is = q.is ∙ ap (λ ss. ss ++ q.rest) p.is ∙ append_assoc (shapes a) p.rest q.rest; sound = λ s. q.sound (p.sound s) }

pub grows_same : (a b c d : List PlainLocal) → shapes a ≡ shapes b → shapes c ≡ shapes d → Grows a c → Grows b d
grows_same a b c d e f g = record { rest = g.rest; is = sym f ∙ g.is ∙ ap (λ ss. ss ++ g.rest) e; sound = λ s. subst (λ ss. Sound ss) f (g.sound (subst (λ ss. Sound ss) (sym e) s)) }

pub shapes_narrowed : (names : List ℕ) (locals : List PlainLocal) → shapes (narrowed names locals) ≡ shapes locals
unfolding narrowed
shapes_narrowed names [] = refl
shapes_narrowed names (l ∷ locals) = by (has_name names l.name) (shapes_narrowed names locals)
  where
    by : (b : Bool) → shapes (narrowed names locals) ≡ shapes locals → shape (cond b (known_not_none l) l) ∷ shapes (narrowed names locals) ≡ shape l ∷ shapes locals
    by true e = ap (λ ss. shape l ∷ ss) e
    by false e = ap (λ ss. shape l ∷ ss) e

pub shapes_at_head : (names : List ℕ) (locals : List PlainLocal) → shapes (at_head names locals) ≡ shapes locals
unfolding at_head
shapes_at_head names [] = refl
shapes_at_head names (l ∷ locals) = by (has_name names l.name) (shapes_at_head names locals)
  where
    by : (b : Bool) → shapes (at_head names locals) ≡ shapes locals → shape (cond b (forgotten l) l) ∷ shapes (at_head names locals) ≡ shape l ∷ shapes locals
    by true e = ap (λ ss. shape l ∷ ss) e
    by false e = ap (λ ss. shape l ∷ ss) e

pub shapes_settled : (locals : List PlainLocal) (known : List Known) → shapes (settled locals known) ≡ shapes locals
unfolding settled
shapes_settled [] known = refl
shapes_settled (l ∷ locals) [] = ap (λ ss. shape l ∷ ss) (shapes_settled locals [])
shapes_settled (l ∷ locals) (k ∷ known) = ap (λ ss. shape l ∷ ss) (shapes_settled locals known)

pub shapes_behind : (locals : List PlainLocal) (known : Option (List Known)) → shapes (behind_ways locals known) ≡ shapes locals
shapes_behind locals None = refl
shapes_behind locals (Some known) = shapes_settled locals known

abbrev pub given_if : ℕ → PlainTy → PlainLocal → PlainLocal
given_if x ty l = cond (l.name == x) (given ty l) l

shapes_given : (x : ℕ) (ty : PlainTy) (locals : List PlainLocal) → shapes (over (given_if x ty) locals) ≡ shapes locals
shapes_given x ty [] = refl
shapes_given x ty (l ∷ locals) = by (l.name == x) (shapes_given x ty locals)
  where
    by : (b : Bool) → shapes (over (given_if x ty) locals) ≡ shapes locals → shape (cond b (given ty l) l) ∷ shapes (over (given_if x ty) locals) ≡ shape l ∷ shapes locals
    by true e = ap (λ ss. shape l ∷ ss) e
    by false e = ap (λ ss. shape l ∷ ss) e

shapes_push : (locals : List PlainLocal) (l : PlainLocal) → shapes (locals ++ l ∷ []) ≡ shapes locals ++ shape l ∷ []
shapes_push [] l = refl
shapes_push (m ∷ locals) l = ap (λ ss. shape m ∷ ss) (shapes_push locals l)

abbrev pub new_local : ℕ → PlainTy → PlainTy → PlainLocal
new_local x first ty = given ty (record { name = x; ty = first; assigned = true; not_none = false })

pub is_none_typed : (o : Option PlainTy) → is_some o ≡ false → o ≡ None
is_none_typed None h = refl
is_none_typed (Some t) h = absurd (true≢false h)

pub local_grows : (x : ℕ) (first ty : PlainTy) (locals : List PlainLocal) → Grows locals (with_local x first ty locals)
unfolding with_local
local_grows x first ty locals = by (is_some (local_of locals x)) refl
  where
    by : (b : Bool) → is_some (local_of locals x) ≡ b → Grows locals (cond b (over (given_if x ty) locals) (locals ++ new_local x first ty ∷ []))
    by true e = alike_grows locals (over (given_if x ty) locals) (shapes_given x ty locals)
    by false e = record {
      rest = (x, first) ∷ [];
      is = shapes_push locals (new_local x first ty);
      sound = λ s. subst (λ ss. Sound ss) (sym (shapes_push locals (new_local x first ty))) (sound_new (shapes locals) x first (is_none_typed (type_in (shapes locals) x) (sym (is_typed locals x) ∙ e)) s);
    }

-- a name that was assigned keeps to its type
pub keeps_named : (x : ℕ) (first ty : PlainTy) (locals : List PlainLocal) → keeps ty (type_in (shapes locals) x) ≡ true → assignable ty first ≡ true → keeps ty (type_in (shapes (with_local x first ty locals)) x) ≡ true
unfolding with_local
keeps_named x first ty locals k a = by (is_some (local_of locals x)) refl
  where
    by : (b : Bool) → is_some (local_of locals x) ≡ b → keeps ty (type_in (shapes (cond b (over (given_if x ty) locals) (locals ++ new_local x first ty ∷ []))) x) ≡ true
    by true e = ap (λ ss. keeps ty (type_in ss x)) (shapes_given x ty locals) ∙ k
    by false e = ap (λ ss. keeps ty (type_in ss x)) (shapes_push locals (new_local x first ty)) ∙ ap (keeps ty) (new_typed (shapes locals) x first (is_none_typed (type_in (shapes locals) x) (sym (is_typed locals x) ∙ e))) ∙ a

pub shapes_more : (a b : List PlainLocal) → shapes (a ++ b) ≡ shapes a ++ shapes b
shapes_more [] b = refl
shapes_more (l ∷ a) b = ap (λ ss. shape l ∷ ss) (shapes_more a b)

-- Values

pub not_none_value : (tables : List PlainTable) (ty : PlainTy) (v : Value) → Fits tables ty v → has_none ty ≡ false → is_nil v ≡ false
not_none_value tables TInt v (int z) h = refl
not_none_value tables TBool v (bool b) h = refl
not_none_value tables TStr v (str text) h = refl
not_none_value tables TNil v nil h = absurd (true≢false h)
not_none_value tables (TList t) v (list fit) h = refl
not_none_value tables (TOptional t) v none h = absurd (true≢false h)
not_none_value tables (TOptional t) v (some fit) h = absurd (true≢false h)
not_none_value tables (TEntity c) v (entity at has) h = refl

abbrev pub local_by : Shape → Known → PlainLocal
local_by s k = record { name = s.0; ty = s.1; assigned = k.assigned; not_none = k.not_none }

module _ (tables : List PlainTable) (vars : List Var) where
  -- values that fit names with types, as far as these are known; the others are unassigned
  pub data KnownFit : List Shape → List Known → Type 0 where
    no_known : {ss : List Shape} → KnownFit ss []
    one_known : {s : Shape} {ss : List Shape} {k : Known} {ks : List Known} → (k.assigned ≡ true → ValueFits tables vars (local_by s k)) → KnownFit ss ks → KnownFit (s ∷ ss) (k ∷ ks)

  pub known_here : (locals : List PlainLocal) → VarsFit tables vars locals → KnownFit (shapes locals) (known_at locals)
  unfolding known_at
  known_here [] no_local = no_known
  known_here (l ∷ locals) (one_local f fs) = one_known f (known_here locals fs)

  pub settled_fits : (locals : List PlainLocal) (known : List Known) → KnownFit (shapes locals) known → VarsFit tables vars (settled locals known)
  unfolding settled
  settled_fits [] known fit = no_local
  settled_fits (l ∷ locals) [] no_known = one_local (λ h. absurd (true≢false (sym h))) (settled_fits locals [] no_known)
  settled_fits (l ∷ locals) (k ∷ known) (one_known f fs) = one_local f (settled_fits locals known fs)

  pub known_later : (ss rest : List Shape) (known : List Known) → KnownFit ss known → KnownFit (ss ++ rest) known
  known_later ss rest [] no_known = no_known
  known_later [] rest (k ∷ known) fit = elim fit [ ]
  known_later (s ∷ ss) rest (k ∷ known) (one_known f fs) = one_known f (known_later ss rest known fs)

  less_known : (s : Shape) (k m : Known) → (m.not_none ≡ true → k.not_none ≡ true) → ValueFits tables vars (local_by s k) → ValueFits tables vars (local_by s m)
  less_known s k m less f = record { value = f.value; has_value = f.has_value; fits = by m.not_none k.not_none less f.fits }
    where
      by : (b c : Bool) → (b ≡ true → c ≡ true) → Fits tables (cond c (inside s.1) s.1) f.value → Fits tables (cond b (inside s.1) s.1) f.value
      by true true less g = g
      by true false less g = absurd (true≢false (sym (less refl)))
      by false true less g = fits_around tables s.1 f.value g
      by false false less g = g

  and_left : (a b : Bool) → (a && b) ≡ true → a ≡ true
  and_left true b h = refl
  and_left false b h = h

  and_right : (a b : Bool) → (a && b) ≡ true → b ≡ true
  and_right true b h = h
  and_right false b h = absurd (true≢false (sym h))

  pub joined_left : (ss : List Shape) (a b : List Known) → KnownFit ss a → KnownFit ss (joined a b)
  unfolding joined
  joined_left ss [] b fit = no_known
  joined_left ss (k ∷ a) [] fit = no_known
  joined_left [] (k ∷ a) (m ∷ b) fit = elim fit [ ]
  joined_left (s ∷ ss) (k ∷ a) (m ∷ b) (one_known f fs) = one_known (λ h. less_known s k _ (and_left k.not_none m.not_none) (f (and_left k.assigned m.assigned h))) (joined_left ss a b fs)

  pub joined_right : (ss : List Shape) (a b : List Known) → KnownFit ss b → KnownFit ss (joined a b)
  unfolding joined
  joined_right ss [] b fit = no_known
  joined_right ss (k ∷ a) [] fit = no_known
  joined_right [] (k ∷ a) (m ∷ b) fit = elim fit [ ]
  joined_right (s ∷ ss) (k ∷ a) (m ∷ b) (one_known f fs) = one_known (λ h. less_known s m _ (and_right k.not_none m.not_none) (f (and_right k.assigned m.assigned h))) (joined_right ss a b fs)

  -- some ways have met, and the values fit what is known behind them
  pub record MetFits (ss : List Shape) (met : Option (List Known)) : Type 0 where
    pub known : List Known
    pub is : met ≡ Some known
    pub fit : KnownFit ss known

  pub met_left : (ss : List Shape) (a b : Option (List Known)) → MetFits ss a → MetFits ss (meet a b)
  met_left ss a b f = by a b f.is
    where
      by : (a b : Option (List Known)) → a ≡ Some f.known → MetFits ss (meet a b)
      by None b e = absurd (none-some f.known e)
      by (Some k) None e = record { known = k; is = refl; fit = subst (λ ks. KnownFit ss ks) (sym (same_Some _ _ e)) f.fit }
      by (Some k) (Some m) e = record { known = joined k m; is = refl; fit = joined_left ss k m (subst (λ ks. KnownFit ss ks) (sym (same_Some _ _ e)) f.fit) }

  pub met_right : (ss : List Shape) (a b : Option (List Known)) → MetFits ss b → MetFits ss (meet a b)
  met_right ss a b f = by a b f.is
    where
      by : (a b : Option (List Known)) → b ≡ Some f.known → MetFits ss (meet a b)
      by None b e = record { known = f.known; is = e; fit = f.fit }
      by (Some k) None e = absurd (none-some f.known e)
      by (Some k) (Some m) e = record { known = joined k m; is = refl; fit = joined_right ss k m (subst (λ ks. KnownFit ss ks) (sym (same_Some _ _ e)) f.fit) }

  pub met_later : (ss rest : List Shape) (met : Option (List Known)) → MetFits ss met → MetFits (ss ++ rest) met
  met_later ss rest met f = record { known = f.known; is = f.is; fit = known_later ss rest f.known f.fit }

  pub met_grown : (before after : List PlainLocal) (met : Option (List Known)) → Grows before after → MetFits (shapes before) met → MetFits (shapes after) met
  met_grown before after met g f = subst (λ ss. MetFits ss met) (sym g.is) (met_later (shapes before) g.rest met f)

  pub met_here : (locals : List PlainLocal) → VarsFit tables vars locals → MetFits (shapes locals) (way true locals)
  met_here locals fit = record { known = known_at locals; is = refl; fit = known_here locals fit }

  pub behind_fits : (locals : List PlainLocal) (met : Option (List Known)) → MetFits (shapes locals) met → VarsFit tables vars (behind_ways locals met)
  behind_fits locals met f = subst (λ m. VarsFit tables vars (behind_ways locals m)) (sym f.is) (settled_fits locals f.known f.fit)

  pub fits_both : (a b : List PlainLocal) → VarsFit tables vars a → VarsFit tables vars b → VarsFit tables vars (a ++ b)
  fits_both [] b no_local g = g
  fits_both (l ∷ a) b (one_local f fs) g = one_local f (fits_both a b fs g)

  pub fits_first : (a b : List PlainLocal) → VarsFit tables vars (a ++ b) → VarsFit tables vars a
  fits_first [] b g = no_local
  fits_first (l ∷ a) b (one_local f fs) = one_local f (fits_first a b fs)

  pub fits_second : (a b : List PlainLocal) → VarsFit tables vars (a ++ b) → VarsFit tables vars b
  fits_second [] b g = g
  fits_second (l ∷ a) b (one_local f fs) = fits_second a b fs

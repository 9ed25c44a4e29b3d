-- Which names are surely assigned at a point, and locals that agree on names.
use Rattle.std.proofs.Common.{◌≡◌, ℕ, Bool, true, false, cond, Option, Some, None, List, [], ◌∷◌, ◌++◌, map as over, refl, sym, ap, ◌∙◌, subst, true≢false}
use Rattle.std.specs.Prelude.{is_some, ◌==◌, ◌||◌, ◌&&◌}
use Rattle.std.proofs.lemmas.Option.{same_Some, none-some}
use Rattle.std.proofs.lemmas.Bool.{eqb-true}
use Rattle.py_tree.specs.PlainTypes.{PlainTy}
use Rattle.py_tree.specs.FlowEnvironment.{PlainLocal, has_name, local_of, narrowed, known_not_none}
use Rattle.py_tree.specs.Flow.{Known, known_at, settled, joined, meet, way, behind_ways, given, with_local, forgotten, at_head}
use Rattle.sf_value.specs.declared.value.Value.{Value}
use Rattle.program_meaning.specs.declared.vars.Var.{Var}
use Rattle.program_meaning.specs.World.{local_value, assigned}
use Rattle.program_meaning.proofs.SameLocals.{assigned_value}
use Rattle.program_meaning.proofs.LocalShapes.{Shape, shapes, Grows, given_if, new_local}
use Rattle.assigned_locals.specs.AssignedLocals.{AgreeOnAssigned}

-- a name is surely assigned among these locals: the first that bears it is
abbrev pub sure : List PlainLocal → ℕ → Bool
sure [] x = false
sure (l ∷ locals) x = cond (l.name == x) l.assigned (sure locals x)

pub found_is_sure : (locals : List PlainLocal) (x : ℕ) (l : PlainLocal) → local_of locals x ≡ Some l → l.assigned ≡ sure locals x
unfolding local_of
found_is_sure [] x l h = absurd (none-some l h)
found_is_sure (m ∷ locals) x l h = by (m.name == x) h (found_is_sure locals x l)
  where
    by : (b : Bool) → cond b (Some m) (local_of locals x) ≡ Some l → (local_of locals x ≡ Some l → l.assigned ≡ sure locals x) → l.assigned ≡ cond b m.assigned (sure locals x)
    by true h k = ap (λ (k : PlainLocal). k.assigned) (sym (same_Some _ _ h))
    by false h k = k h

pub sure_is_found : (locals : List PlainLocal) (x : ℕ) → sure locals x ≡ true → (l : PlainLocal) × (local_of locals x ≡ Some l) × (l.assigned ≡ true)
unfolding local_of
sure_is_found [] x h = absurd (true≢false (sym h))
sure_is_found (m ∷ locals) x h = by (m.name == x) h (sure_is_found locals x)
  where
    by : (b : Bool) → cond b m.assigned (sure locals x) ≡ true → (sure locals x ≡ true → (l : PlainLocal) × (local_of locals x ≡ Some l) × (l.assigned ≡ true)) → (l : PlainLocal) × (cond b (Some m) (local_of locals x) ≡ Some l) × (l.assigned ≡ true)
    by true h k = (m, refl, h)
    by false h k = k h

pub narrowed_sure : (names : List ℕ) (locals : List PlainLocal) (x : ℕ) → sure (narrowed names locals) x ≡ sure locals x
unfolding narrowed
narrowed_sure names [] x = refl
narrowed_sure names (l ∷ locals) x = by (has_name names l.name) ∙ ap (cond (l.name == x) l.assigned) (narrowed_sure names locals x)
  where
    by : (b : Bool) → cond ((cond b (known_not_none l) l).name == x) (cond b (known_not_none l) l).assigned (sure (narrowed names locals) x) ≡ cond (l.name == x) l.assigned (sure (narrowed names locals) x)
    by true = refl
    by false = refl

pub head_sure : (names : List ℕ) (locals : List PlainLocal) (x : ℕ) → sure (at_head names locals) x ≡ sure locals x
unfolding at_head
head_sure names [] x = refl
head_sure names (l ∷ locals) x = by (has_name names l.name) ∙ ap (cond (l.name == x) l.assigned) (head_sure names locals x)
  where
    by : (b : Bool) → cond ((cond b (forgotten l) l).name == x) (cond b (forgotten l) l).assigned (sure (at_head names locals) x) ≡ cond (l.name == x) l.assigned (sure (at_head names locals) x)
    by true = refl
    by false = refl

given_sure : (y : ℕ) (ty : PlainTy) (locals : List PlainLocal) (x : ℕ) → sure (over (given_if y ty) locals) x ≡ true → (y == x) ≡ false → sure locals x ≡ true
given_sure y ty [] x h other = h
given_sure y ty (l ∷ locals) x h other = by (l.name == y) refl (l.name == x) refl h (λ h. given_sure y ty locals x h other)
  where
    by : (b : Bool) → (l.name == y) ≡ b → (c : Bool) → (l.name == x) ≡ c → cond ((cond b (given ty l) l).name == x) (cond b (given ty l) l).assigned (sure (over (given_if y ty) locals) x) ≡ true
        → (sure (over (given_if y ty) locals) x ≡ true → sure locals x ≡ true) → cond (l.name == x) l.assigned (sure locals x) ≡ true
    by true e true f h k = absurd (true≢false (sym f ∙ ap (λ z. z == x) (eqb-true l.name y e) ∙ other))
    by true e false f h k = ap (λ d. cond d l.assigned (sure locals x)) f ∙ k (sym (ap (λ d. cond d true (sure (over (given_if y ty) locals) x)) f) ∙ h)
    by false e true f h k = ap (λ d. cond d l.assigned (sure locals x)) f ∙ sym (ap (λ d. cond d l.assigned (sure (over (given_if y ty) locals) x)) f) ∙ h
    by false e false f h k = ap (λ d. cond d l.assigned (sure locals x)) f ∙ k (sym (ap (λ d. cond d l.assigned (sure (over (given_if y ty) locals) x)) f) ∙ h)

pushed_sure : (l : PlainLocal) (locals : List PlainLocal) (x : ℕ) → (l.name == x) ≡ false → sure (locals ++ l ∷ []) x ≡ sure locals x
pushed_sure l [] x other = ap (λ b. cond b l.assigned false) other
pushed_sure l (m ∷ locals) x other = ap (cond (m.name == x) m.assigned) (pushed_sure l locals x other)

-- what an assignment makes sure is its name alone
pub assigned_sure : (y : ℕ) (first ty : PlainTy) (locals : List PlainLocal) (x : ℕ) → sure (with_local y first ty locals) x ≡ true → (y == x) ≡ false → sure locals x ≡ true
unfolding with_local
assigned_sure y first ty locals x h other = by (is_some (local_of locals y)) h
  where
    by : (b : Bool) → sure (cond b (over (given_if y ty) locals) (locals ++ new_local y first ty ∷ [])) x ≡ true → sure locals x ≡ true
    by true h = given_sure y ty locals x h other
    by false h = sym (pushed_sure (new_local y first ty) locals x other) ∙ h

-- What is known of names with types

abbrev pub sure_among : List Shape → List Known → ℕ → Bool
sure_among [] known x = false
sure_among (s ∷ ss) [] x = false
sure_among (s ∷ ss) (k ∷ known) x = cond (s.0 == x) k.assigned (sure_among ss known x)

-- of no more names than there are
abbrev pub IsShort : List Known → List Shape → Type 0
IsShort [] ss = Unit {0}
IsShort (k ∷ known) [] = ⊥
IsShort (k ∷ known) (s ∷ ss) = IsShort known ss

none_sure : (locals : List PlainLocal) (x : ℕ) → sure (settled locals []) x ≡ false
unfolding settled
none_sure [] x = refl
none_sure (l ∷ locals) x = ap (cond (l.name == x) false) (none_sure locals x) ∙ by (l.name == x)
  where
    by : (b : Bool) → cond b false false ≡ false
    by true = refl
    by false = refl

no_known_sure : (ss : List Shape) (x : ℕ) → sure_among ss [] x ≡ false
no_known_sure [] x = refl
no_known_sure (s ∷ ss) x = refl

settled_sure : (locals : List PlainLocal) (known : List Known) (x : ℕ) → sure (settled locals known) x ≡ sure_among (shapes locals) known x
unfolding settled
settled_sure [] known x = refl
settled_sure (l ∷ locals) [] x = none_sure (l ∷ locals) x
settled_sure (l ∷ locals) (k ∷ known) x = ap (cond (l.name == x) k.assigned) (settled_sure locals known x)

known_here_sure : (locals : List PlainLocal) (x : ℕ) → sure_among (shapes locals) (known_at locals) x ≡ sure locals x
unfolding known_at
known_here_sure [] x = refl
known_here_sure (l ∷ locals) x = ap (cond (l.name == x) l.assigned) (known_here_sure locals x)

known_here_short : (locals : List PlainLocal) → IsShort (known_at locals) (shapes locals)
unfolding known_at
known_here_short [] = tt
known_here_short (l ∷ locals) = known_here_short locals

later_sure : (ss rest : List Shape) (known : List Known) (x : ℕ) → IsShort known ss → sure_among (ss ++ rest) known x ≡ sure_among ss known x
later_sure ss rest [] x short = no_known_sure (ss ++ rest) x ∙ sym (no_known_sure ss x)
later_sure [] rest (k ∷ known) x short = absurd short
later_sure (s ∷ ss) rest (k ∷ known) x short = ap (cond (s.0 == x) k.assigned) (later_sure ss rest known x short)

later_short : (ss rest : List Shape) (known : List Known) → IsShort known ss → IsShort known (ss ++ rest)
later_short ss rest [] short = tt
later_short [] rest (k ∷ known) short = absurd short
later_short (s ∷ ss) rest (k ∷ known) short = later_short ss rest known short

-- what was known at a point where later locals weren't typed yet
pub known_before : (before after : List PlainLocal) (x : ℕ) → Grows before after → sure (settled after (known_at before)) x ≡ sure before x
known_before before after x g =
    settled_sure after (known_at before) x
    ∙ ap (λ ss. sure_among ss (known_at before) x) g.is
    ∙ later_sure (shapes before) g.rest (known_at before) x (known_here_short before)
    ∙ known_here_sure before x

and_left : (a b : Bool) → (a && b) ≡ true → a ≡ true
and_left true b h = refl
and_left false b h = h

and_right : (a b : Bool) → (a && b) ≡ true → b ≡ true
and_right true b h = h
and_right false b h = absurd (true≢false (sym h))

joined_sure_left : (ss : List Shape) (a b : List Known) (x : ℕ) → sure_among ss (joined a b) x ≡ true → sure_among ss a x ≡ true
unfolding joined
joined_sure_left ss [] b x h = h
joined_sure_left ss (k ∷ a) [] x h = absurd (true≢false (sym (sym (no_known_sure ss x) ∙ h)))
joined_sure_left [] (k ∷ a) (m ∷ b) x h = h
joined_sure_left (s ∷ ss) (k ∷ a) (m ∷ b) x h = by (s.0 == x) h (joined_sure_left ss a b x)
  where
    by : (c : Bool) → cond c (k.assigned && m.assigned) (sure_among ss (joined a b) x) ≡ true → (sure_among ss (joined a b) x ≡ true → sure_among ss a x ≡ true) → cond c k.assigned (sure_among ss a x) ≡ true
    by true h rest = and_left k.assigned m.assigned h
    by false h rest = rest h

joined_sure_right : (ss : List Shape) (a b : List Known) (x : ℕ) → sure_among ss (joined a b) x ≡ true → sure_among ss b x ≡ true
unfolding joined
joined_sure_right ss [] b x h = absurd (true≢false (sym (sym (no_known_sure ss x) ∙ h)))
joined_sure_right ss (k ∷ a) [] x h = h
joined_sure_right [] (k ∷ a) (m ∷ b) x h = h
joined_sure_right (s ∷ ss) (k ∷ a) (m ∷ b) x h = by (s.0 == x) h (joined_sure_right ss a b x)
  where
    by : (c : Bool) → cond c (k.assigned && m.assigned) (sure_among ss (joined a b) x) ≡ true → (sure_among ss (joined a b) x ≡ true → sure_among ss b x ≡ true) → cond c m.assigned (sure_among ss b x) ≡ true
    by true h rest = and_right k.assigned m.assigned h
    by false h rest = rest h

joined_short_left : (ss : List Shape) (a b : List Known) → IsShort a ss → IsShort (joined a b) ss
unfolding joined
joined_short_left ss [] b short = tt
joined_short_left ss (k ∷ a) [] short = tt
joined_short_left [] (k ∷ a) (m ∷ b) short = short
joined_short_left (s ∷ ss) (k ∷ a) (m ∷ b) short = joined_short_left ss a b short

joined_short_right : (ss : List Shape) (a b : List Known) → IsShort b ss → IsShort (joined a b) ss
unfolding joined
joined_short_right ss [] b short = tt
joined_short_right ss (k ∷ a) [] short = tt
joined_short_right [] (k ∷ a) (m ∷ b) short = short
joined_short_right (s ∷ ss) (k ∷ a) (m ∷ b) short = joined_short_right ss a b short

-- Locals that agree

-- each of these names has the same value in both
abbrev pub Agree : (ℕ → Bool) → List Var → List Var → Type 0
Agree names us vs = (x : ℕ) → names x ≡ true → local_value us x ≡ local_value vs x

pub agree_sure : (locals : List PlainLocal) (us vs : List Var) → AgreeOnAssigned locals us vs → Agree (sure locals) us vs
agree_sure locals us vs a x h = let f : (l : PlainLocal) × (local_of locals x ≡ Some l) × (l.assigned ≡ true) = sure_is_found locals x h in a x f.0 f.1 f.2

pub sure_agree : (locals : List PlainLocal) (us vs : List Var) → Agree (sure locals) us vs → AgreeOnAssigned locals us vs
sure_agree locals us vs a x l found h = a x (sym (found_is_sure locals x l found) ∙ h)

pub agree_less : (names fewer : ℕ → Bool) (us vs : List Var) → ((x : ℕ) → fewer x ≡ true → names x ≡ true) → Agree names us vs → Agree fewer us vs
agree_less names fewer us vs less a x h = a x (less x h)

pub agree_narrowed : (names : List ℕ) (locals : List PlainLocal) (us vs : List Var) → Agree (sure locals) us vs → Agree (sure (narrowed names locals)) us vs
agree_narrowed names locals us vs a x h = a x (sym (narrowed_sure names locals x) ∙ h)

pub agree_at_head : (names : List ℕ) (locals : List PlainLocal) (us vs : List Var) → Agree (sure locals) us vs → Agree (sure (at_head names locals)) us vs
agree_at_head names locals us vs a x h = a x (sym (head_sure names locals x) ∙ h)

-- either of two kinds of names
abbrev pub either : (ℕ → Bool) → (ℕ → Bool) → ℕ → Bool
either f g x = f x || g x

pub agree_both : (f g : ℕ → Bool) (us vs : List Var) → Agree f us vs → Agree g us vs → Agree (either f g) us vs
agree_both f g us vs a b x h = by (f x) refl h
  where
    by : (c : Bool) → f x ≡ c → (c || g x) ≡ true → local_value us x ≡ local_value vs x
    by true e h = a x e
    by false e h = b x h

pub agree_first : (f g : ℕ → Bool) (us vs : List Var) → Agree (either f g) us vs → Agree f us vs
agree_first f g us vs a x h = a x (ap (λ c. c || g x) h)

pub agree_second : (f g : ℕ → Bool) (us vs : List Var) → Agree (either f g) us vs → Agree g us vs
agree_second f g us vs a x h = a x (by (f x) h)
  where
    by : (c : Bool) → g x ≡ true → (c || g x) ≡ true
    by true h = refl
    by false h = h

-- an assignment gives its name one value in both
value_same : (us vs : List Var) (y : ℕ) (v : Value) (x : ℕ) → ((y == x) ≡ false → local_value us x ≡ local_value vs x) → local_value (assigned us y v) x ≡ local_value (assigned vs y v) x
value_same us vs y v x same = assigned_value us y v x ∙ by (y == x) same ∙ sym (assigned_value vs y v x)
  where
    by : (b : Bool) → (b ≡ false → local_value us x ≡ local_value vs x) → cond b v (local_value us x) ≡ cond b v (local_value vs x)
    by true same = refl
    by false same = same refl

pub agree_stays : (names : ℕ → Bool) (us vs : List Var) (y : ℕ) (v : Value) → Agree names us vs → Agree names (assigned us y v) (assigned vs y v)
agree_stays names us vs y v a x h = value_same us vs y v x (λ other. a x h)

pub agree_assigned : (us vs : List Var) (y : ℕ) (v : Value) (first ty : PlainTy) (locals : List PlainLocal) → Agree (sure locals) us vs → Agree (sure (with_local y first ty locals)) (assigned us y v) (assigned vs y v)
agree_assigned us vs y v first ty locals a x h = value_same us vs y v x (λ other. a x (assigned_sure y first ty locals x h other))

-- Where ways have met

module _ (us vs : List Var) where
  -- some ways have met, and the names that are surely assigned behind them agree
  pub record MetAgree (ss : List Shape) (met : Option (List Known)) : Type 0 where
    pub known : List Known
    pub is : met ≡ Some known
    pub short : IsShort known ss
    pub agree : Agree (sure_among ss known) us vs

  met_known : (ss : List Shape) (met : Option (List Known)) (known : List Known) → met ≡ Some known → IsShort known ss → Agree (sure_among ss known) us vs → MetAgree ss met
  met_known ss met known is short agree = record { known = known; is = is; short = short; agree = agree }

  pub met_left : (ss : List Shape) (a b : Option (List Known)) → MetAgree ss a → MetAgree ss (meet a b)
  met_left ss a b m = by a b m.is
    where
      by : (a b : Option (List Known)) → a ≡ Some m.known → MetAgree ss (meet a b)
      by None b e = absurd (none-some m.known e)
      by (Some k) None e = met_known ss (Some k) m.known e m.short m.agree
      by (Some k) (Some l) e =
          let same : m.known ≡ k = sym (same_Some _ _ e) in
          let short : IsShort k ss = subst (λ ks. IsShort ks ss) same m.short in
          let agree : Agree (sure_among ss k) us vs = subst (λ ks. Agree (sure_among ss ks) us vs) same m.agree in
          met_known ss (Some (joined k l)) (joined k l) refl (joined_short_left ss k l short) (λ x h. agree x (joined_sure_left ss k l x h))

  pub met_right : (ss : List Shape) (a b : Option (List Known)) → MetAgree ss b → MetAgree ss (meet a b)
  met_right ss a b m = by a b m.is
    where
      by : (a b : Option (List Known)) → b ≡ Some m.known → MetAgree ss (meet a b)
      by None b e = met_known ss b m.known e m.short m.agree
      by (Some k) None e = absurd (none-some m.known e)
      by (Some k) (Some l) e =
          let same : m.known ≡ l = sym (same_Some _ _ e) in
          let short : IsShort l ss = subst (λ ks. IsShort ks ss) same m.short in
          let agree : Agree (sure_among ss l) us vs = subst (λ ks. Agree (sure_among ss ks) us vs) same m.agree in
          met_known ss (Some (joined k l)) (joined k l) refl (joined_short_right ss k l short) (λ x h. agree x (joined_sure_right ss k l x h))

  pub met_grown : (before after : List PlainLocal) (met : Option (List Known)) → Grows before after → MetAgree (shapes before) met → MetAgree (shapes after) met
  met_grown before after met g m =
      subst (λ ss. MetAgree ss met) (sym g.is)
      (met_known (shapes before ++ g.rest) met m.known m.is (later_short (shapes before) g.rest m.known m.short) (λ x h. m.agree x (sym (later_sure (shapes before) g.rest m.known x m.short) ∙ h)))

  pub met_here : (locals : List PlainLocal) → Agree (sure locals) us vs → MetAgree (shapes locals) (way true locals)
  met_here locals a = met_known (shapes locals) (way true locals) (known_at locals) refl (known_here_short locals) (λ x h. a x (sym (known_here_sure locals x) ∙ h))

  pub behind_agree : (locals : List PlainLocal) (met : Option (List Known)) → MetAgree (shapes locals) met → Agree (sure (behind_ways locals met)) us vs
  behind_agree locals met m = subst (λ o. Agree (sure (behind_ways locals o)) us vs) (sym m.is) (λ x h. m.agree x (sym (settled_sure locals m.known x) ∙ h))

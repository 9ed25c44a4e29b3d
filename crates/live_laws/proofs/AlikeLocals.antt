-- Locals at two points of a method, of which the same is known as far as a set of names goes. Of other names something else may be known;
-- all have the same names and types.
use Rattle.std.proofs.Common.{◌≡◌, ℕ, Bool, true, false, cond, Option, Some, None, List, [], ◌∷◌, ◌++◌, map, refl, sym, ap, ◌∙◌, subst, true≢false}
use Rattle.std.specs.Prelude.{◌==◌, ◌&&◌, is_some}
use Rattle.std.proofs.lemmas.Bool.{eqb-true, eq-eqb}
use Rattle.py_tree.specs.PlainTypes.{PlainTy}
use Rattle.py_tree.specs.FlowEnvironment.{PlainLocal, has_name, local_of, narrowed, known_not_none}
use Rattle.py_tree.specs.Flow.{Known, known_of, known_at, settled, joined, meet, way, behind_ways, given, with_local, forgotten, at_head}
use Rattle.program_meaning.proofs.LocalShapes.{Shape, shapes, Grows, given_if, new_local}

-- a set of names
abbrev pub Names : Type 1
Names = ℕ → Type 0

abbrev pub local_as : ℕ → PlainTy → Known → PlainLocal
local_as name ty k = record { name = name; ty = ty; assigned = k.assigned; not_none = k.not_none }

pub data Alike (P : Names) : List PlainLocal → List PlainLocal → Type 0 where
  none_alike : Alike P [] []
  one_alike : {name : ℕ} {ty : PlainTy} {k m : Known} {here there : List PlainLocal} → (P name → m ≡ k) → Alike P here there → Alike P (local_as name ty k ∷ here) (local_as name ty m ∷ there)

-- what is known where ways meet
pub data KnownAlike (P : Names) : List Shape → List Known → List Known → Type 0 where
  none_known : {ss : List Shape} → KnownAlike P ss [] []
  one_known : {s : Shape} {ss : List Shape} {k m : Known} {ks ms : List Known} → (P s.0 → m ≡ k) → KnownAlike P ss ks ms → KnownAlike P (s ∷ ss) (k ∷ ks) (m ∷ ms)

pub data MetAlike (P : Names) (ss : List Shape) : Option (List Known) → Option (List Known) → Type 0 where
  none_met : MetAlike P ss None None
  some_met : {ks ms : List Known} → KnownAlike P ss ks ms → MetAlike P ss (Some ks) (Some ms)

module _ {P : Names} where
  -- as far as a smaller set goes
  pub fewer : {Q : Names} → ((x : ℕ) → Q x → P x) → {here there : List PlainLocal} → Alike P here there → Alike Q here there
  fewer among none_alike = none_alike
  fewer among (one_alike {name = name} f a) = one_alike (λ q. f (among name q)) (fewer among a)

  pub turned : {here there : List PlainLocal} → Alike P here there → Alike P there here
  turned none_alike = none_alike
  turned (one_alike f a) = one_alike (λ p. sym (f p)) (turned a)

  pub same_shapes : {here there : List PlainLocal} → Alike P here there → shapes there ≡ shapes here
  same_shapes none_alike = refl
  same_shapes (one_alike {name = name} {ty = ty} f a) = ap (λ ss. (name, ty) ∷ ss) (same_shapes a)

  pub same_local : (x : ℕ) → P x → {here there : List PlainLocal} → Alike P here there → local_of there x ≡ local_of here x
  unfolding local_of
  same_local x p none_alike = refl
  same_local x p (one_alike {name = name} {ty = ty} {k = k} {m = m} {here = here} {there = there} f a) = by (name == x) refl (same_local x p a)
    where
      by : (b : Bool) → (name == x) ≡ b → local_of there x ≡ local_of here x → cond b (Some (local_as name ty m)) (local_of there x) ≡ cond b (Some (local_as name ty k)) (local_of here x)
      by true e rest = ap (λ k. Some (local_as name ty k)) (f (subst P (sym (eqb-true name x e)) p))
      by false e rest = rest

  pub as_typed : (x : ℕ) {here there : List PlainLocal} → Alike P here there → is_some (local_of there x) ≡ is_some (local_of here x)
  unfolding local_of
  as_typed x none_alike = refl
  as_typed x (one_alike {name = name} {ty = ty} {k = k} {m = m} {here = here} {there = there} f a) = by (name == x) (as_typed x a)
    where
      by : (b : Bool) → is_some (local_of there x) ≡ is_some (local_of here x) → is_some (cond b (Some (local_as name ty m)) (local_of there x)) ≡ is_some (cond b (Some (local_as name ty k)) (local_of here x))
      by true rest = refl
      by false rest = rest

  pub alike_known : {here there : List PlainLocal} → Alike P here there → KnownAlike P (shapes here) (known_at here) (known_at there)
  unfolding known_at
  alike_known none_alike = none_known
  alike_known (one_alike f a) = one_known f (alike_known a)

  pub alike_joined : {ss : List Shape} {a b d e : List Known} → KnownAlike P ss a b → KnownAlike P ss d e → KnownAlike P ss (joined a d) (joined b e)
  unfolding joined
  alike_joined none_known second = none_known
  alike_joined (one_known f first) none_known = none_known
  alike_joined (one_known {k = k} {m = m} f first) (one_known {k = l} {m = n} g second) = one_known (λ p. ap (λ m. both m n) (f p) ∙ ap (λ n. both k n) (g p)) (alike_joined first second)
    where
      both : Known → Known → Known
      both a b = record { assigned = a.assigned && b.assigned; not_none = a.not_none && b.not_none }

  pub alike_meet : {ss : List Shape} {a b d e : Option (List Known)} → MetAlike P ss a b → MetAlike P ss d e → MetAlike P ss (meet a d) (meet b e)
  alike_meet none_met second = second
  alike_meet (some_met first) none_met = some_met first
  alike_meet (some_met first) (some_met second) = some_met (alike_joined first second)

  known_later : (rest : List Shape) {ss : List Shape} {ks ms : List Known} → KnownAlike P ss ks ms → KnownAlike P (ss ++ rest) ks ms
  known_later rest none_known = none_known
  known_later rest (one_known f a) = one_known f (known_later rest a)

  met_later : (rest : List Shape) {ss : List Shape} {a b : Option (List Known)} → MetAlike P ss a b → MetAlike P (ss ++ rest) a b
  met_later rest none_met = none_met
  met_later rest (some_met a) = some_met (known_later rest a)

  -- of more locals
  pub met_grown : {before after : List PlainLocal} {a b : Option (List Known)} → Grows before after → MetAlike P (shapes before) a b → MetAlike P (shapes after) a b
  met_grown {a = a} {b = b} grows met = subst (λ ss. MetAlike P ss a b) (sym grows.is) (met_later grows.rest met)

  pub alike_settled : {Q : Names} {here there : List PlainLocal} → Alike Q here there → {ks ms : List Known} → KnownAlike P (shapes here) ks ms → Alike P (settled here ks) (settled there ms)
  unfolding settled
  alike_settled none_alike known = none_alike
  alike_settled (one_alike f a) none_known = one_alike (λ p. refl) (alike_settled a none_known)
  alike_settled (one_alike f a) (one_known g known) = one_alike g (alike_settled a known)

  -- what was known before, of locals that have grown since
  pub alike_left : {Q : Names} {left left2 here there : List PlainLocal} → Alike P left left2 → Grows left here → Alike Q here there → Alike P (settled here (known_at left)) (settled there (known_at left2))
  alike_left before grows a = by (met_grown grows (some_met (alike_known before))) a
    where
      by : {Q : Names} {here there : List PlainLocal} {ks ms : List Known} → MetAlike P (shapes here) (Some ks) (Some ms) → Alike Q here there → Alike P (settled here ks) (settled there ms)
      by (some_met known) a = alike_settled a known

-- Each local in turn

record KeepsShape (f : PlainLocal → PlainLocal) : Type 0 where
  is : (l : PlainLocal) → local_as l.name l.ty (known_of (f l)) ≡ f l

module _ {P Q : Names} (f : PlainLocal → PlainLocal) (keeps : KeepsShape f) (same : (name : ℕ) (ty : PlainTy) (k m : Known) → (P name → m ≡ k) → Q name → known_of (f (local_as name ty m)) ≡ known_of (f (local_as name ty k))) where
  alike_mapped : {here there : List PlainLocal} → Alike P here there → Alike Q (map f here) (map f there)
  alike_mapped none_alike = none_alike
  alike_mapped (one_alike {name = name} {ty = ty} {k = k} {m = m} {here = here} {there = there} g a) =
      subst (λ l. Alike Q (l ∷ map f here) (f (local_as name ty m) ∷ map f there)) (keeps.is (local_as name ty k))
      (subst (λ l. Alike Q (local_as name ty (known_of (f (local_as name ty k))) ∷ map f here) (l ∷ map f there)) (keeps.is (local_as name ty m))
      (one_alike (same name ty k m g) (alike_mapped a)))

module _ {P : Names} (names : List ℕ) where
  pub alike_narrowed : {here there : List PlainLocal} → Alike P here there → Alike P (narrowed names here) (narrowed names there)
  unfolding narrowed
  alike_narrowed a = alike_mapped {P = P} {Q = P} f (record { is = λ l. keeps l (has_name names l.name) }) (λ name ty k m g p. ap (λ k. known_of (f (local_as name ty k))) (g p)) a
    where
      f : PlainLocal → PlainLocal
      f l = cond (has_name names l.name) (known_not_none l) l

      keeps : (l : PlainLocal) (b : Bool) → local_as l.name l.ty (known_of (cond b (known_not_none l) l)) ≡ cond b (known_not_none l) l
      keeps l true = refl
      keeps l false = refl

  pub alike_head : {here there : List PlainLocal} → Alike P here there → Alike P (at_head names here) (at_head names there)
  unfolding at_head
  alike_head a = alike_mapped {P = P} {Q = P} f (record { is = λ l. keeps l (has_name names l.name) }) (λ name ty k m g p. ap (λ k. known_of (f (local_as name ty k))) (g p)) a
    where
      f : PlainLocal → PlainLocal
      f l = cond (has_name names l.name) (forgotten l) l

      keeps : (l : PlainLocal) (b : Bool) → local_as l.name l.ty (known_of (cond b (forgotten l) l)) ≡ cond b (forgotten l) l
      keeps l true = refl
      keeps l false = refl

-- Ways that go on, or don't

abbrev pub If : Bool → Names → Names
If go A x = (go ≡ true) × A x

pub alike_way : {A : Names} (go : Bool) {here there : List PlainLocal} → Alike (If go A) here there → MetAlike A (shapes here) (way go here) (way go there)
alike_way true a = some_met (alike_known (fewer (λ x p. (refl, p)) a))
alike_way false a = none_met

-- where ways have met, and one has if the point is reached
pub alike_behind : {A Q : Names} (go : Bool) {here there : List PlainLocal} → Alike Q here there → {a b : Option (List Known)} → MetAlike A (shapes here) a b → (go ≡ true → is_some a ≡ true) → Alike (If go A) (behind_ways here a) (behind_ways there b)
alike_behind go a none_met reached = fewer (λ x p. absurd (true≢false (sym (reached p.0)))) a
alike_behind go a (some_met known) reached = fewer (λ x p. p.1) (alike_settled a known)

-- A value that is assigned

pub other_way : (a b : ℕ) → (a == b) ≡ false → (b == a) ≡ false
other_way a b e = by (b == a) refl
  where
    by : (c : Bool) → (b == a) ≡ c → c ≡ false
    by true f = absurd (true≢false (sym (eq-eqb a b (sym (eqb-true b a f))) ∙ e))
    by false f = refl

module _ {P Q : Names} (x : ℕ) (ty : PlainTy) (others : (y : ℕ) → Q y → (x == y) ≡ false → P y) where
  alike_given : {here there : List PlainLocal} → Alike P here there → Alike Q (map (given_if x ty) here) (map (given_if x ty) there)
  alike_given a = alike_mapped {P = P} {Q = Q} (given_if x ty) (record { is = λ l. keeps l (l.name == x) }) (λ name t k m g q. same name t k m g q (name == x) refl) a
    where
      keeps : (l : PlainLocal) (b : Bool) → local_as l.name l.ty (known_of (cond b (given ty l) l)) ≡ cond b (given ty l) l
      keeps l true = refl
      keeps l false = refl

      same : (name : ℕ) (t : PlainTy) (k m : Known) → (P name → m ≡ k) → Q name → (b : Bool) → (name == x) ≡ b → known_of (cond b (given ty (local_as name t m)) (local_as name t m)) ≡ known_of (cond b (given ty (local_as name t k)) (local_as name t k))
      same name t k m g q true e = refl
      same name t k m g q false e = g (others name q (other_way name x e))

  alike_pushed : (l : PlainLocal) {here there : List PlainLocal} → Alike P here there → is_some (local_of here x) ≡ false → Alike Q (here ++ l ∷ []) (there ++ l ∷ [])
  unfolding local_of
  alike_pushed l none_alike absent = one_alike {name = l.name} {ty = l.ty} {k = known_of l} {m = known_of l} (λ q. refl) none_alike
  alike_pushed l (one_alike {name = name} {ty = t} {k = k} {m = m} {here = here} {there = there} f a) absent = by (name == x) refl absent (λ e. alike_pushed l a e)
    where
      by : (b : Bool) → (name == x) ≡ b → is_some (cond b (Some (local_as name t k)) (local_of here x)) ≡ false → (is_some (local_of here x) ≡ false → Alike Q (here ++ l ∷ []) (there ++ l ∷ []))
          → Alike Q (local_as name t k ∷ here ++ l ∷ []) (local_as name t m ∷ there ++ l ∷ [])
      by true e absent rest = absurd (true≢false absent)
      by false e absent rest = one_alike (λ q. f (others name q (other_way name x e))) (rest absent)

  pub alike_with : (first : PlainTy) {here there : List PlainLocal} → Alike P here there → Alike Q (with_local x first ty here) (with_local x first ty there)
  unfolding with_local
  alike_with first {here} {there} a = by (is_some (local_of here x)) refl (is_some (local_of there x)) (as_typed x a)
    where
      by : (b : Bool) → is_some (local_of here x) ≡ b → (d : Bool) → d ≡ is_some (local_of here x)
          → Alike Q (cond b (map (given_if x ty) here) (here ++ new_local x first ty ∷ [])) (cond d (map (given_if x ty) there) (there ++ new_local x first ty ∷ []))
      by true e true f = alike_given a
      by false e false f = alike_pushed (new_local x first ty) a e
      by true e false f = absurd (true≢false (sym (f ∙ e)))
      by false e true f = absurd (true≢false (f ∙ e))

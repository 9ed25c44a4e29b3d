-- A variable that isn't surely assigned at a point.
use Rattle.std.proofs.Common.{◌≡◌, ℕ, Bool, true, false, cond, Option, Some, None, List, [], ◌∷◌, ◌++◌, map, refl, sym, ap, ◌∙◌, subst, true≢false}
use Rattle.std.specs.Prelude.{◌==◌, ◌&&◌, is_some}
use Rattle.std.proofs.lemmas.Bool.{eqb-true, eq-eqb}
use Rattle.py_tree.specs.PlainTypes.{PlainTy}
use Rattle.py_tree.specs.FlowEnvironment.{PlainLocal, has_name, local_of, narrowed, known_not_none}
use Rattle.py_tree.specs.Flow.{Known, known_at, settled, joined, meet, way, behind_ways, given, with_local, forgotten, at_head}
use Rattle.program_meaning.proofs.LocalShapes.{Shape, shapes, Grows, given_if, new_local}

module _ (v : ℕ) where
  pub data Unset : List PlainLocal → Type 0 where
    no_local : Unset []
    one_local : {l : PlainLocal} {locals : List PlainLocal} → ((l.name == v) ≡ true → l.assigned ≡ false) → Unset locals → Unset (l ∷ locals)

  -- so where ways have met
  pub data KnownUnset : List Shape → List Known → Type 0 where
    no_known : {ss : List Shape} → KnownUnset ss []
    one_known : {s : Shape} {ss : List Shape} {k : Known} {ks : List Known} → ((s.0 == v) ≡ true → k.assigned ≡ false) → KnownUnset ss ks → KnownUnset (s ∷ ss) (k ∷ ks)

  pub data MetUnset (ss : List Shape) : Option (List Known) → Type 0 where
    met : {ks : List Known} → KnownUnset ss ks → MetUnset ss (Some ks)

  -- Each local in turn

  unset_mapped : (f : PlainLocal → PlainLocal) → ((l : PlainLocal) → ((l.name == v) ≡ true → l.assigned ≡ false) → ((f l).name == v) ≡ true → (f l).assigned ≡ false) → {locals : List PlainLocal} → Unset locals → Unset (map f locals)
  unset_mapped f stays no_local = no_local
  unset_mapped f stays (one_local {l = l} g u) = one_local (stays l g) (unset_mapped f stays u)

  pub unset_narrowed : (names : List ℕ) {locals : List PlainLocal} → Unset locals → Unset (narrowed names locals)
  unfolding narrowed
  unset_narrowed names u = unset_mapped (λ l. cond (has_name names l.name) (known_not_none l) l) (λ l g. by l g (has_name names l.name)) u
    where
      by : (l : PlainLocal) → ((l.name == v) ≡ true → l.assigned ≡ false) → (b : Bool) → ((cond b (known_not_none l) l).name == v) ≡ true → (cond b (known_not_none l) l).assigned ≡ false
      by l g true = g
      by l g false = g

  pub unset_head : (names : List ℕ) {locals : List PlainLocal} → Unset locals → Unset (at_head names locals)
  unfolding at_head
  unset_head names u = unset_mapped (λ l. cond (has_name names l.name) (forgotten l) l) (λ l g. by l g (has_name names l.name)) u
    where
      by : (l : PlainLocal) → ((l.name == v) ≡ true → l.assigned ≡ false) → (b : Bool) → ((cond b (forgotten l) l).name == v) ≡ true → (cond b (forgotten l) l).assigned ≡ false
      by l g true = g
      by l g false = g

  -- Ways that meet

  pub unset_known : {locals : List PlainLocal} → Unset locals → KnownUnset (shapes locals) (known_at locals)
  unfolding known_at
  unset_known no_local = no_known
  unset_known (one_local g u) = one_known g (unset_known u)

  unset_settled : (locals : List PlainLocal) (ks : List Known) → KnownUnset (shapes locals) ks → Unset (settled locals ks)
  unfolding settled
  unset_settled [] ks known = no_local
  unset_settled (l ∷ locals) [] known = one_local (λ e. refl) (unset_settled locals [] no_known)
  unset_settled (l ∷ locals) (k ∷ ks) (one_known g known) = one_local g (unset_settled locals ks known)

  pub unset_behind : (locals : List PlainLocal) {o : Option (List Known)} → MetUnset (shapes locals) o → Unset (behind_ways locals o)
  unset_behind locals (met {ks = ks} known) = unset_settled locals ks known

  pub unset_way : {locals : List PlainLocal} → Unset locals → (go : Bool) → go ≡ true → MetUnset (shapes locals) (way go locals)
  unset_way u true e = met (unset_known u)
  unset_way u false e = absurd (true≢false (sym e))

  known_later : (rest : List Shape) {ss : List Shape} {ks : List Known} → KnownUnset ss ks → KnownUnset (ss ++ rest) ks
  known_later rest no_known = no_known
  known_later rest (one_known g known) = one_known g (known_later rest known)

  met_more : (rest : List Shape) {ss : List Shape} {o : Option (List Known)} → MetUnset ss o → MetUnset (ss ++ rest) o
  met_more rest (met known) = met (known_later rest known)

  pub met_later : {before after : List PlainLocal} {o : Option (List Known)} → Grows before after → MetUnset (shapes before) o → MetUnset (shapes after) o
  met_later {o = o} grows m = subst (λ ss. MetUnset ss o) (sym grows.is) (met_more grows.rest m)

  joined_left : {ss : List Shape} {a : List Known} → KnownUnset ss a → (b : List Known) → KnownUnset ss (joined a b)
  unfolding joined
  joined_left no_known b = no_known
  joined_left (one_known g known) [] = no_known
  joined_left (one_known g known) (m ∷ b) = one_known (λ e. ap (λ c. c && m.assigned) (g e)) (joined_left known b)

  joined_right : (a : List Known) {ss : List Shape} {b : List Known} → KnownUnset ss b → KnownUnset ss (joined a b)
  unfolding joined
  joined_right [] known = no_known
  joined_right (k ∷ a) no_known = no_known
  joined_right (k ∷ a) (one_known {k = m} g known) = one_known (λ e. nor k.assigned m.assigned (g e)) (joined_right a known)
    where
      nor : (a b : Bool) → b ≡ false → (a && b) ≡ false
      nor true b e = e
      nor false b e = refl

  pub met_left : {ss : List Shape} {a : Option (List Known)} → MetUnset ss a → (b : Option (List Known)) → MetUnset ss (meet a b)
  met_left (met known) None = met known
  met_left (met known) (Some b) = met (joined_left known b)

  pub met_right : (a : Option (List Known)) {ss : List Shape} {b : Option (List Known)} → MetUnset ss b → MetUnset ss (meet a b)
  met_right None (met known) = met known
  met_right (Some a) (met known) = met (joined_right a known)

  -- A value that another variable gets

  same_as : (a b c : ℕ) → (a == b) ≡ true → (a == c) ≡ true → (b == c) ≡ true
  same_as a b c e f = eq-eqb b c (sym (eqb-true a b e) ∙ eqb-true a c f)

  unset_pushed : (l : PlainLocal) → (l.name == v) ≡ false → {locals : List PlainLocal} → Unset locals → Unset (locals ++ l ∷ [])
  unset_pushed l other no_local = one_local (λ e. absurd (true≢false (sym e ∙ other))) no_local
  unset_pushed l other (one_local g u) = one_local g (unset_pushed l other u)

  pub unset_with : (x : ℕ) (first ty : PlainTy) → (x == v) ≡ false → {locals : List PlainLocal} → Unset locals → Unset (with_local x first ty locals)
  unfolding with_local
  unset_with x first ty other {locals} u = by (is_some (local_of locals x))
    where
      given_other : (l : PlainLocal) → ((l.name == v) ≡ true → l.assigned ≡ false) → (b : Bool) → (l.name == x) ≡ b → ((cond b (given ty l) l).name == v) ≡ true → (cond b (given ty l) l).assigned ≡ false
      given_other l g true e f = absurd (true≢false (sym (same_as l.name x v e f) ∙ other))
      given_other l g false e f = g f

      by : (b : Bool) → Unset (cond b (map (given_if x ty) locals) (locals ++ new_local x first ty ∷ []))
      by true = unset_mapped (given_if x ty) (λ l g. given_other l g (l.name == x) refl) u
      by false = unset_pushed (new_local x first ty) other u

  pub unset_found : (x : ℕ) → (x == v) ≡ true → {locals : List PlainLocal} → Unset locals → (l : PlainLocal) → local_of locals x ≡ Some l → l.assigned ≡ false
  unfolding local_of
  unset_found x same no_local l e = absurd cc
  unset_found x same (one_local {l = m} {locals = locals} g u) l e = by (m.name == x) refl e (unset_found x same u l)
    where
      by : (b : Bool) → (m.name == x) ≡ b → cond b (Some m) (local_of locals x) ≡ Some l → (local_of locals x ≡ Some l → l.assigned ≡ false) → l.assigned ≡ false
      by true f e rest = let is : m ≡ l = cc in subst (λ (k : PlainLocal). k.assigned ≡ false) is (g (ap (λ n. n == v) (eqb-true m.name x f) ∙ same))
      by false f e rest = rest e

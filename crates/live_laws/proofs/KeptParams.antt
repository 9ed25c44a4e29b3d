-- Parameters of which those are kept that are in a set.
use Rattle.std.proofs.Common.{◌≡◌, ℕ, zero, suc, Bool, true, false, not, cond, Option, Some, None, List, [], ◌∷◌, refl, sym, ap, ◌∙◌, subst, true≢false}
use Rattle.std.specs.Prelude.{◌||◌, ◌==◌, find, slice_get}
use Rattle.std.specs.List.{list_all, list_any}
use Rattle.std.proofs.lemmas.Bool.{eqb-true}
use Rattle.std.proofs.lemmas.Option.{same_Some, none-some}
use Rattle.py_tree.specs.FlowEnvironment.{PlainLocal, local_of}
use Rattle.py_tree.specs.Flow.{known_of}
use Rattle.program_meaning.proofs.TypedParts.{either_false, both_true}
use Rattle.block_code.specs.PlainVars.{PlainVar}
use Rattle.block_code.specs.GraphFits.{is_var, local_at, at_start, is_supplied, supplied, each_once}
use Rattle.live_laws.specs.Cut.{Keeps, no_param, kept, dropped}
use Rattle.live_laws.proofs.AlikeLocals.{Alike, none_alike, one_alike, same_local}
use Rattle.live_laws.proofs.AlikeWays.{and_true}

pub neither : (p q : Bool) → p ≡ false → q ≡ false → (p || q) ≡ false
neither true q e f = e
neither false q e f = f

pub is_false : (b : Bool) → not b ≡ true → b ≡ false
is_false true e = absurd (true≢false (sym e))
is_false false e = refl

module _ {L : ℕ → Type 0} where
  pub kept_all : (test : PlainVar → Bool) {ps qs : List PlainVar} → Keeps L ps qs → list_all test ps ≡ true → list_all test qs ≡ true
  kept_all test no_param h = h
  kept_all test (kept {p = p} {ps = ps} {qs = qs} l k) h = let h2 = both_true (test p) (list_all test ps) h in and_true (test p) (list_all test qs) h2.0 (kept_all test k h2.1)
  kept_all test (dropped {p = p} {ps = ps} out k) h = kept_all test k (both_true (test p) (list_all test ps) h).1

  kept_none : (test : PlainVar → Bool) {ps qs : List PlainVar} → Keeps L ps qs → list_any test ps ≡ false → list_any test qs ≡ false
  kept_none test no_param h = h
  kept_none test (kept {p = p} {ps = ps} {qs = qs} l k) h = let h2 = either_false (test p) (list_any test ps) h in neither (test p) (list_any test qs) h2.0 (kept_none test k h2.1)
  kept_none test (dropped {p = p} {ps = ps} out k) h = kept_none test k (either_false (test p) (list_any test ps) h).1

  pub kept_once : {ps qs : List PlainVar} → Keeps L ps qs → each_once ps ≡ true → each_once qs ≡ true
  kept_once no_param h = h
  kept_once (kept {p = p} {ps = ps} {qs = qs} l k) h =
      let h2 = both_true (not (list_any (is_var p.name) ps)) (each_once ps) h in
      and_true (not (list_any (is_var p.name) qs)) (each_once qs) (ap not (kept_none (is_var p.name) k (is_false (list_any (is_var p.name) ps) h2.0))) (kept_once k h2.1)
  kept_once (dropped {p = p} {ps = ps} out k) h = kept_once k (both_true (not (list_any (is_var p.name) ps)) (each_once ps) h).1

  pub kept_found : (x : ℕ) → L x → {ps qs : List PlainVar} → Keeps L ps qs → find (is_var x) qs ≡ find (is_var x) ps
  kept_found x l no_param = refl
  kept_found x l (kept {p = p} m k) = ap (λ o. cond (p.name == x) (Some p) o) (kept_found x l k)
  kept_found x l (dropped {p = p} {ps = ps} {qs = qs} out k) = by (p.name == x) refl (kept_found x l k)
    where
      by : (b : Bool) → (p.name == x) ≡ b → find (is_var x) qs ≡ find (is_var x) ps → find (is_var x) qs ≡ cond b (Some p) (find (is_var x) ps)
      by true e rest = absurd (out (subst L (sym (eqb-true p.name x e)) l))
      by false e rest = rest

  pub kept_at : {ps qs : List PlainVar} → Keeps L ps qs → (place : ℕ) (q : PlainVar) → slice_get qs place ≡ Some q → (from : ℕ) × (slice_get ps from ≡ Some q) × L q.name
  kept_at no_param place q e = absurd (none-some q e)
  kept_at (kept {p = p} l k) zero q e = (0, e, subst (λ (p : PlainVar). L p.name) (same_Some p q e) l)
  kept_at (kept l k) (suc place) q e = let rest = kept_at k place q e in (suc rest.0, rest.1, rest.2)
  kept_at (dropped out k) place q e = let rest = kept_at k place q e in (suc rest.0, rest.1, rest.2)

  -- what supplies parameters supplies those that are kept, where as much is known of these
  pub kept_supplied : {P : ℕ → Type 0} {here there : List PlainLocal} → Alike P here there → ((x : ℕ) → L x → P x) → {ps qs : List PlainVar} → Keeps L ps qs → supplied here ps ≡ true → supplied there qs ≡ true
  kept_supplied a among no_param h = refl
  kept_supplied {here = here} {there = there} a among (kept {p = p} {ps = ps} {qs = qs} l k) h =
      let h2 = both_true (is_supplied (local_of here p.name) p.ty) (supplied here ps) h in
      and_true (is_supplied (local_of there p.name) p.ty) (supplied there qs) (ap (λ o. is_supplied o p.ty) (same_local p.name (among p.name l) a) ∙ h2.0) (kept_supplied a among k h2.1)
  kept_supplied {here = here} a among (dropped {p = p} {ps = ps} out k) h = kept_supplied a among k (both_true (is_supplied (local_of here p.name) p.ty) (supplied here ps) h).1

  -- where a block begins the same is known of what is kept
  start_local : (v : PlainVar) (o p : Option PlainVar) {here there : List PlainLocal} → (L v.name → p ≡ o) → Alike L here there → Alike L (local_at v o ∷ here) (local_at v p ∷ there)
  start_local v None None f a = one_alike (λ l. refl) a
  start_local v None (Some p) f a = one_alike (λ l. ap (λ q. known_of (local_at v q)) (f l)) a
  start_local v (Some o) None f a = one_alike (λ l. ap (λ q. known_of (local_at v q)) (f l)) a
  start_local v (Some o) (Some p) f a = one_alike (λ l. ap (λ q. known_of (local_at v q)) (f l)) a

  pub start_alike : {ps qs : List PlainVar} → Keeps L ps qs → (variables : List PlainVar) → Alike L (at_start variables ps) (at_start variables qs)
  unfolding at_start
  start_alike k [] = none_alike
  start_alike {ps = ps} {qs = qs} k (v ∷ vs) = start_local v (find (is_var v.name) ps) (find (is_var v.name) qs) (λ l. kept_found v.name l k) (start_alike k vs)

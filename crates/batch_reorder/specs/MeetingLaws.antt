-- Sets that meet: the test and the fact, and earlier requests that stand so.
use Rattle.std.specs.Prelude.{◌≡◌, ℕ, zero, suc, ◌<◌, Bool, true, false, ◌||◌, List, [], ◌∷◌, take}
use Rattle.std.specs.List.{list_any}
use Rattle.std.specs.Ordering.{eq_by_cmp}
use Rattle.std.specs.Cmp.{eq_by_cmp_equiv}
use Rattle.std.specs.FinSet as set
use Rattle.std.proofs.Common.{◌∙◌, inl, inr, true≢false, sym, ap, arith}
use Rattle.std.proofs.lemmas.Bool.{or_cases, or_left, or_right, or_parts, false_from_ne_true, true_from_ne_false}
use Rattle.sf_value.specs.Keys.{Key, key_cmp}
use Rattle.sf_value.proofs.Maps.{key_total, tied_key}
use Rattle.serial_order.specs.ConflictFree.{Access}
use Rattle.keyed_state.specs.Works.{Keys}
use Rattle.reservations.specs.Accesses.{no_access, access_at}
use Rattle.batch_reorder.specs.Conflicts.{Meet, meets}

-- A list that passes a test has an element that does, and the other way round

module _ {K : Type 0} (eq : K → K → Bool) (itself : (k : K) → eq k k ≡ true) (same : (q k : K) → eq q k ≡ true → q ≡ k) (p : K → Bool) where
  pub one_passes : {P : Type 0} (ks : List K) → ((q : K) → list_any (eq q) ks ≡ true → p q ≡ true → P) → list_any p ks ≡ true → P
  one_passes [] found one = absurd (true≢false (sym one))
  one_passes {P} (k ∷ ks) found one =
      elim (or_cases (p k) (list_any p ks) one) as (λ _. P) [
        | inl here ↦ found k (or_left (eq k k) (list_any (eq k) ks) (itself k)) here
        | inr later ↦ one_passes ks (λ q among passes. found q (or_right (eq q k) (list_any (eq q) ks) among) passes) later
      ]

  pub passes_by : (ks : List K) (q : K) → list_any (eq q) ks ≡ true → p q ≡ true → list_any p ks ≡ true
  passes_by [] q among passes = absurd (true≢false (sym among))
  passes_by (k ∷ ks) q among passes =
      elim (or_cases (eq q k) (list_any (eq q) ks) among) as (λ _. (p k || list_any p ks) ≡ true) [
        | inl here ↦ or_left (p k) (list_any p ks) (sym (ap p (same q k here)) ∙ passes)
        | inr later ↦ or_right (p k) (list_any p ks) (passes_by ks q later passes)
      ]

-- of keys
module _ (p : Key → Bool) where
  pub one_key_passes : {P : Type 0} (keys : List Key) → ((q : Key) → list_any (eq_by_cmp key_cmp q) keys ≡ true → p q ≡ true → P) → list_any p keys ≡ true → P
  one_key_passes = one_passes (eq_by_cmp key_cmp) (eq_by_cmp_equiv key_total).refl tied_key p

  pub passes_by_key : (keys : List Key) (q : Key) → list_any (eq_by_cmp key_cmp q) keys ≡ true → p q ≡ true → list_any p keys ≡ true
  passes_by_key = passes_by (eq_by_cmp key_cmp) (eq_by_cmp_equiv key_total).refl tied_key p

-- Two sets

module _ (a b : Keys) where
  pub meet_from_test : meets a b ≡ true → Meet a b
  meet_from_test = one_key_passes (set.contains a) (set.items b) (λ q among first. record { at = q; first = first; second = set.contains-items b q ∙ among })

  pub test_from_meet : Meet a b → meets a b ≡ true
  test_from_meet m = passes_by_key (set.contains a) (set.items b) m.at (sym (set.contains-items b m.at) ∙ m.second) m.first

  -- of two that don't meet, what is in one isn't in the other
  pub not_in_second : meets a b ≡ false → (q : Key) → set.contains a q ≡ true → set.contains b q ≡ false
  not_in_second apart q first = false_from_ne_true (set.contains b q) (λ second. true≢false (sym (test_from_meet (record { at = q; first = first; second = second })) ∙ apart))

  pub not_in_first : meets a b ≡ false → (q : Key) → set.contains b q ≡ true → set.contains a q ≡ false
  not_in_first apart q second = false_from_ne_true (set.contains a q) (λ first. true≢false (sym (test_from_meet (record { at = q; first = first; second = second })) ∙ apart))

pub nothing_meets : (b : Keys) → meets set.empty b ≡ false
nothing_meets b = false_from_ne_true (meets set.empty b) (λ one. let m = meet_from_test set.empty b one in true≢false (sym m.first ∙ set.contains-empty key_cmp m.at))

-- Earlier requests

module _ (stands : Access → Access → Bool) (b : Access) (nothing : stands no_access b ≡ false) where
  pub none_earlier : (batch : List Access) (place other : ℕ) → list_any (λ a. stands a b) (take place batch) ≡ false → other < place → stands (access_at batch other) b ≡ false
  none_earlier [] place other none less = nothing
  none_earlier (a ∷ more) zero other none less = absurd (omega arith)
  none_earlier (a ∷ more) (suc place) zero none less = (or_parts (stands a b) (list_any (λ x. stands x b) (take place more)) none).0
  none_earlier (a ∷ more) (suc place) (suc other) none less = none_earlier more place other (or_parts (stands a b) (list_any (λ x. stands x b) (take place more)) none).1 (omega arith)

  pub some_earlier : (batch : List Access) (place other : ℕ) → other < place → stands (access_at batch other) b ≡ true → list_any (λ a. stands a b) (take place batch) ≡ true
  some_earlier batch place other less one = true_from_ne_false (list_any (λ a. stands a b) (take place batch)) (λ none. true≢false (sym one ∙ none_earlier batch place other none less))

-- The batch rule commits by pairs.
use Rattle.std.proofs.Common.{◌≡◌, ◌∙◌, ℕ, zero, suc, ◌+◌, ◌<◌, ◌≤◌, Bool, true, true≢false, not, ◌&&◌, nat_eq, List, [], ◌∷◌, length, take, inl, inr, refl, sym, ap, arith}
use Rattle.std.specs.Prelude.{filter}
use Rattle.std.specs.List.{list_any, range_with_len}
use Rattle.std.proofs.lemmas.Bool.{and_parts, and_from, or_cases, or_left, or_right, not_from_true, not_from_false, false_from_ne_true, eqb-true, eq-eqb, cases_eq}
use Rattle.std.proofs.lemmas.Cmp.{nat_eq_equiv}
use Rattle.std.proofs.lemmas.List.Kept.{IsStrictlyIncreasing-filter}
use Rattle.std.proofs.lemmas.Map.Made.{is_member-filter}
use Rattle.serial_order.specs.ConflictFree.{Access, LeavesAlone}
use Rattle.reservations.specs.Accesses.{access_at}
use Rattle.reservations.specs.CommitRules.{places}
use Rattle.reservations.specs.BatchRule.{IsClear, IsBatchRule, leaves_alone, is_clear, batch_rule}
use Rattle.reservations.specs.BatchRuleLaws.{clear_from_test, places_rise}
use Rattle.reservations.proofs.SetLaws.{test_from_alone, all_leave_alone}

all_alone : (b : Access) (batch : List Access) (place : ℕ) → ((other : ℕ) → other < place → LeavesAlone (access_at batch other) b) → all_leave_alone (take place batch) b ≡ true
all_alone b [] zero each = refl
all_alone b [] (suc place) each = refl
all_alone b (a ∷ more) zero each = refl
all_alone b (a ∷ more) (suc place) each =
    and_from (leaves_alone a b) (all_leave_alone (take place more) b) (test_from_alone a b (each 0 (omega arith))) (all_alone b more place (λ other less. each (suc other) (omega arith)))

test_from_clear : (batch : List Access) (place : ℕ) → IsClear batch place → is_clear batch place ≡ true
test_from_clear batch place clear = all_alone (access_at batch place) batch place clear.earlier

-- Places

is_place : (from n place : ℕ) → from ≤ place → place < from + n → list_any (nat_eq place) (range_with_len from n) ≡ true
is_place from zero place low high = absurd (omega arith)
is_place from (suc n) place low high = elim (cases_eq place from) as (λ _. list_any (nat_eq place) (range_with_len from (suc n)) ≡ true) [
  | inl here ↦ or_left (nat_eq place from) (list_any (nat_eq place) (range_with_len (from + 1) n)) (eq-eqb place from here)
  | inr other ↦ or_right (nat_eq place from) (list_any (nat_eq place) (range_with_len (from + 1) n)) (is_place (from + 1) n place (omega arith) (omega arith))
]

same_place : (p : ℕ → Bool) (q x : ℕ) → nat_eq q x ≡ true → p q ≡ p x
same_place p q x tie = ap p (eqb-true q x tie)

below_end : (from n place : ℕ) → list_any (nat_eq place) (range_with_len from n) ≡ true → place < from + n
below_end from zero place h = absurd (true≢false (sym h))
below_end from (suc n) place h = elim (or_cases (nat_eq place from) (list_any (nat_eq place) (range_with_len (from + 1) n)) h) as (λ _. place < from + suc n) [
  | inl here ↦ let same = eqb-true place from here in omega arith
  | inr later ↦ let below = below_end (from + 1) n place later in omega arith
]

-- a place is among those that pass exactly where it is a place and passes
module _ (p : ℕ → Bool) (n place : ℕ) where
  among_passing : list_any (nat_eq place) (filter p (places n)) ≡ (list_any (nat_eq place) (places n) && p place)
  among_passing = is_member-filter nat_eq_equiv p place (λ x tie. same_place p place x tie) (places n)

  passes_from : list_any (nat_eq place) (filter p (places n)) ≡ true → (place < n) × (p place ≡ true)
  passes_from h =
      let parts = and_parts (list_any (nat_eq place) (places n)) (p place) (sym among_passing ∙ h) in
      let below = below_end 0 n place parts.0 in
      (omega arith, parts.1)

  from_passes : place < n → p place ≡ true → list_any (nat_eq place) (filter p (places n)) ≡ true
  from_passes within passes = among_passing ∙ and_from (list_any (nat_eq place) (places n)) (p place) (is_place 0 n place (omega arith) (omega arith)) passes

pub by_pairs : (batch : List Access) → IsBatchRule batch (batch_rule batch)
unfolding batch_rule
by_pairs batch = record {
  committed = λ place.
      record {
        0 = λ h. let found = passes_from (is_clear batch) (length batch) place h in (found.0, clear_from_test batch place found.1);
        1 = λ clear. from_passes (is_clear batch) (length batch) place clear.0 (test_from_clear batch place clear.1);
      };
  carried = λ place.
      record {
        0 = λ h.
            let found = passes_from (λ x. not (is_clear batch x)) (length batch) place h in
            (found.0, λ clear. true≢false (sym found.1 ∙ not_from_true (is_clear batch place) (test_from_clear batch place clear)));
        1 = λ waits.
            from_passes (λ x. not (is_clear batch x)) (length batch) place waits.0
            (not_from_false (is_clear batch place) (false_from_ne_true (is_clear batch place) (λ clear. waits.1 (clear_from_test batch place clear))));
      };
  committed_rise = IsStrictlyIncreasing-filter (is_clear batch) (places (length batch)) (places_rise (length batch));
  carried_rise = IsStrictlyIncreasing-filter (λ place. not (is_clear batch place)) (places (length batch)) (places_rise (length batch));
}

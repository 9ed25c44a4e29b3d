-- Which places of a batch pass a test.
use Rattle.std.proofs.Common.{◌≡◌, ◌∙◌, ℕ, zero, suc, ◌+◌, ◌<◌, ◌≤◌, Bool, true, true≢false, ◌&&◌, nat_eq, inl, inr, sym, ap, arith}
use Rattle.std.specs.Prelude.{filter}
use Rattle.std.specs.List.{list_any, range_with_len}
use Rattle.std.proofs.lemmas.Bool.{and_parts, and_from, or_cases, or_left, or_right, eqb-true, eq-eqb, cases_eq}
use Rattle.std.proofs.lemmas.Cmp.{nat_eq_equiv}
use Rattle.std.proofs.lemmas.Map.Made.{is_member-filter}
use Rattle.reservations.specs.CommitRules.{places}

in_range : (from n place : ℕ) → from ≤ place → place < from + n → list_any (nat_eq place) (range_with_len from n) ≡ true
in_range from zero place low high = absurd (omega arith)
in_range from (suc n) place low high = elim (cases_eq place from) as (λ _. list_any (nat_eq place) (range_with_len from (suc n)) ≡ true) [
  | inl here ↦ or_left (nat_eq place from) (list_any (nat_eq place) (range_with_len (from + 1) n)) (eq-eqb place from here)
  | inr other ↦ or_right (nat_eq place from) (list_any (nat_eq place) (range_with_len (from + 1) n)) (in_range (from + 1) n place (omega arith) (omega arith))
]

within_range : (from n place : ℕ) → list_any (nat_eq place) (range_with_len from n) ≡ true → place < from + n
within_range from zero place h = absurd (true≢false (sym h))
within_range from (suc n) place h = elim (or_cases (nat_eq place from) (list_any (nat_eq place) (range_with_len (from + 1) n)) h) as (λ _. place < from + suc n) [
  | inl here ↦ let same = eqb-true place from here in omega arith
  | inr later ↦ let below = within_range (from + 1) n place later in omega arith
]

module _ (p : ℕ → Bool) (n place : ℕ) where
  among_passing : list_any (nat_eq place) (filter p (places n)) ≡ (list_any (nat_eq place) (places n) && p place)
  among_passing = is_member-filter nat_eq_equiv p place (λ x tie. ap p (eqb-true place x tie)) (places n)

  pub passes_from : list_any (nat_eq place) (filter p (places n)) ≡ true → (place < n) × (p place ≡ true)
  passes_from h =
      let parts = and_parts (list_any (nat_eq place) (places n)) (p place) (sym among_passing ∙ h) in
      let below = within_range 0 n place parts.0 in
      (omega arith, parts.1)

  pub from_passes : place < n → p place ≡ true → list_any (nat_eq place) (filter p (places n)) ≡ true
  from_passes within passes = among_passing ∙ and_from (list_any (nat_eq place) (places n)) (p place) (in_range 0 n place (omega arith) (omega arith)) passes

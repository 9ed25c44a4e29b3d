-- The batch rule keeps what each rule has to keep.
use Rattle.std.specs.Prelude.{◌≡◌, ℕ, zero, suc, ◌+◌, ◌<◌, Bool, true, false, cond, not, ◌&&◌, nat_eq, List, [], ◌∷◌, map as over, filter, length, take}
use Rattle.std.specs.List.{list_any, list_all, range_with_len, AllByRecursion}
use Rattle.std.specs.List.Sorted.{IsStrictlyIncreasing}
use Rattle.std.specs.FinSet as set
use Rattle.std.proofs.Common.{◌∙◌, true≢false, refl, sym, ap, arith}
use Rattle.std.proofs.lemmas.Bool.{eqb-true, and_parts}
use Rattle.std.proofs.lemmas.List.FromFn.{length-range_with_len, get_or-range_with_len}
use Rattle.std.proofs.lemmas.List.Kept.{IsStrictlyIncreasing-filter}
use Rattle.std.proofs.lemmas.List.Sorted.{IsPermutation-filter_both}
use Rattle.sf_value.specs.Keys.{Key, key_cmp}
use Rattle.sf_value.proofs.Maps.{key_total}
use Rattle.serial_order.specs.ConflictFree.{Access, touches, LeavesAlone, IsConflictFree}
use Rattle.keyed_state.specs.Works.{Keys}
use Rattle.reservations.specs.Accesses.{no_access, access_at}
use Rattle.reservations.specs.CommitRules.{IsLawful, places}
use Rattle.reservations.specs.BatchRule.{IsClear, leaves_alone, is_clear, batch_rule}

-- what is written by one and touched by the other
abbrev pub common : Access → Access → Keys
common a b = set.intersection a.writes (set.union b.reads b.writes)

pub contains-common : (a b : Access) (q : Key) → set.contains (common a b) q ≡ (set.contains a.writes q && touches b q)
contains-common a b q = set.contains-intersection key_total a.writes (set.union b.reads b.writes) q ∙ ap (λ t. set.contains a.writes q && t) (set.contains-union key_total b.reads b.writes q)

pub alone_from_test : (a b : Access) → leaves_alone a b ≡ true → LeavesAlone a b
alone_from_test a b h = record {
  at = λ q written.
      sym (ap (λ w. w && touches b q) written)
      ∙ sym (contains-common a b q)
      ∙ ap (λ s. set.contains s q) (set.empty_of_len (common a b) (eqb-true (set.len (common a b)) 0 h))
      ∙ set.contains-empty key_cmp q;
}

-- Earlier requests, by their places

nothing_written : (b : Access) → LeavesAlone no_access b
nothing_written b = record { at = λ q written. absurd (true≢false (sym written ∙ set.contains-empty key_cmp q)) }

earlier_alone : (b : Access) (batch : List Access) (place other : ℕ) → list_all (λ a. leaves_alone a b) (take place batch) ≡ true → other < place → LeavesAlone (access_at batch other) b
earlier_alone b [] place other h less = nothing_written b
earlier_alone b (a ∷ more) zero other h less = absurd (omega arith)
earlier_alone b (a ∷ more) (suc place) zero h less = alone_from_test a b (and_parts (leaves_alone a b) (list_all (λ a. leaves_alone a b) (take place more)) h).0
earlier_alone b (a ∷ more) (suc place) (suc other) h less = earlier_alone b more place other (and_parts (leaves_alone a b) (list_all (λ a. leaves_alone a b) (take place more)) h).1 (omega arith)

-- a place that passes the test is clear
pub clear_from_test : (batch : List Access) (place : ℕ) → is_clear batch place ≡ true → IsClear batch place
clear_from_test batch place h = record { earlier = λ other less. earlier_alone (access_at batch place) batch place other h less }

-- Places

pub places_rise : (n : ℕ) → IsStrictlyIncreasing (places n)
places_rise n = λ k within.
    let count = length-range_with_len 0 n in
    let this = get_or-range_with_len 0 n k 0 (omega arith) in
    let next = get_or-range_with_len 0 n (k + 1) 0 (omega arith) in
    omega arith

-- The laws

left_alone : (batch : List Access) (place from n : ℕ) → place < from → AllByRecursion (LeavesAlone (access_at batch place)) (over (access_at batch) (filter (is_clear batch) (range_with_len from n)))
left_alone batch place from zero less = tt
left_alone batch place from (suc n) less = by (is_clear batch from) refl (left_alone batch place (from + 1) n (omega arith))
  where
    by : (b : Bool) → is_clear batch from ≡ b → AllByRecursion (LeavesAlone (access_at batch place)) (over (access_at batch) (filter (is_clear batch) (range_with_len (from + 1) n)))
        → AllByRecursion (LeavesAlone (access_at batch place)) (over (access_at batch) (cond b (from ∷ filter (is_clear batch) (range_with_len (from + 1) n)) (filter (is_clear batch) (range_with_len (from + 1) n))))
    by true h later = ((clear_from_test batch from h).earlier place less, later)
    by false h later = later

conflict_free_more : (batch : List Access) (from n : ℕ) (b : Bool) → IsConflictFree (over (access_at batch) (filter (is_clear batch) (range_with_len (from + 1) n)))
    → IsConflictFree (over (access_at batch) (cond b (from ∷ filter (is_clear batch) (range_with_len (from + 1) n)) (filter (is_clear batch) (range_with_len (from + 1) n))))
unfolding IsConflictFree
conflict_free_more batch from n true later = (left_alone batch from (from + 1) n (omega arith), later)
conflict_free_more batch from n false later = later

conflict_free : (batch : List Access) (from n : ℕ) → IsConflictFree (over (access_at batch) (filter (is_clear batch) (range_with_len from n)))
unfolding IsConflictFree
conflict_free batch from zero = tt
conflict_free batch from (suc n) = conflict_free_more batch from n (is_clear batch from) (conflict_free batch (from + 1) n)

first_clear : (batch : List Access) → 0 < length batch → list_any (nat_eq 0) (filter (is_clear batch) (places (length batch))) ≡ true
first_clear [] some = absurd (omega arith)
first_clear (a ∷ more) some = refl

pub batch_rule_is_lawful : (batch : List Access) → IsLawful batch (batch_rule batch)
unfolding batch_rule
batch_rule_is_lawful batch = record {
  once = IsPermutation-filter_both (is_clear batch) (λ place. not (is_clear batch place)) (λ place. refl) (places (length batch));
  rises = IsStrictlyIncreasing-filter (λ place. not (is_clear batch place)) (places (length batch)) (places_rise (length batch));
  first = first_clear batch;
  apart = conflict_free batch 0 (length batch);
}

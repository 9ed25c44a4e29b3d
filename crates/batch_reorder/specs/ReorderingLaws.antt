-- The reordered batch keeps what each rule has to keep: above all, its order has no conflict.
use Rattle.std.specs.Prelude.{◌≡◌, ℕ, zero, suc, ◌+◌, ◌<◌, Bool, true, false, not, ◌&&◌, nat_eq, List, [], ◌∷◌, ◌++◌, map as over, filter, length}
use Rattle.std.specs.List.{list_any, range_with_len, AllByRecursion}
use Rattle.std.specs.List.Sorted.{IsPermutation}
use Rattle.std.specs.FinSet as set
use Rattle.std.proofs.Common.{◌∙◌, true≢false, refl, sym, subst, arith}
use Rattle.std.proofs.lemmas.Bool.{and_parts, or_parts, or_from, not-true, cond_both}
use Rattle.std.proofs.lemmas.List.{append-nil, map-append}
use Rattle.std.proofs.lemmas.List.Kept.{IsStrictlyIncreasing-filter}
use Rattle.std.proofs.lemmas.List.Sorted.{IsPermutation-filter_both, IsPermutation-refl, IsPermutation-sym, IsPermutation-trans, IsPermutation-to_front, IsPermutation-middle, IsPermutation-append_left, list_any-IsPermutation}
use Rattle.serial_order.specs.ConflictFree.{Access, LeavesAlone, IsConflictFree}
use Rattle.reservations.specs.Accesses.{access_at}
use Rattle.reservations.specs.CommitRules.{IsLawful, places}
use Rattle.reservations.specs.BatchRuleLaws.{places_rise}
use Rattle.batch_reorder.specs.Conflicts.{read_after_write, write_after_read, write_after_write, has_earlier}
use Rattle.batch_reorder.specs.Reordering.{is_committed, reads_of, put, in_order, reordered}
use Rattle.batch_reorder.specs.MeetingLaws.{not_in_first, not_in_second, nothing_meets, none_earlier}

-- Of two requests, the earlier one first

stays_before : (earlier later : Access) → read_after_write earlier later ≡ false → write_after_write earlier later ≡ false → LeavesAlone earlier later
stays_before earlier later unread unwritten = record {
  at = λ q written.
      or_from (set.contains later.reads q) (set.contains later.writes q) (not_in_second earlier.writes later.reads unread q written) (not_in_second earlier.writes later.writes unwritten q written);
}

passes_it : (earlier later : Access) → write_after_read earlier later ≡ false → write_after_write earlier later ≡ false → LeavesAlone later earlier
passes_it earlier later unread unwritten = record {
  at = λ q written.
      or_from (set.contains earlier.reads q) (set.contains earlier.writes q) (not_in_first earlier.reads later.writes unread q written) (not_in_first earlier.writes later.writes unwritten q written);
}

-- Of several that are put before

abbrev pub AllBefore : ℕ → List ℕ → Type 0
AllBefore place before = AllByRecursion (λ other. other < place) before

module _ (batch : List Access) where
  abbrev at : ℕ → Access
  at = access_at batch

  module _ (place : ℕ) where
    -- none reads of the others what none of the batch has before
    none_read : has_earlier read_after_write batch place ≡ false → (before : List ℕ) → AllBefore place before → reads_of batch before place ≡ false
    none_read none [] below = refl
    none_read none (other ∷ before) below =
        or_from (read_after_write (at other) (at place)) (reads_of batch before place)
        (none_earlier read_after_write (at place) (nothing_meets (at place).reads) batch place other none below.0)
        (none_read none before below.1)

    read_before : (before : List ℕ) → AllBefore place before → reads_of batch before place ≡ true → has_earlier read_after_write batch place ≡ true
    read_before before below one = by (has_earlier read_after_write batch place) refl
      where
        by : (b : Bool) → has_earlier read_after_write batch place ≡ b → b ≡ true
        by true h = refl
        by false h = absurd (true≢false (sym one ∙ none_read h before below))

    module _ (unwritten : has_earlier write_after_write batch place ≡ false) where
      not_written : (other : ℕ) → other < place → write_after_write (at other) (at place) ≡ false
      not_written other less = none_earlier write_after_write (at place) (nothing_meets (at place).writes) batch place other unwritten less

      all_stay_before : (before : List ℕ) → AllBefore place before → reads_of batch before place ≡ false → AllByRecursion (λ a. LeavesAlone a (at place)) (over at before)
      all_stay_before [] below none = tt
      all_stay_before (other ∷ before) below none =
          let parts = or_parts (read_after_write (at other) (at place)) (reads_of batch before place) none in
          (stays_before (at other) (at place) parts.0 (not_written other below.0), all_stay_before before below.1 parts.1)

      passes_all : has_earlier write_after_read batch place ≡ false → (before : List ℕ) → AllBefore place before → AllByRecursion (LeavesAlone (at place)) (over at before)
      passes_all unread [] below = tt
      passes_all unread (other ∷ before) below = (
        passes_it (at other) (at place) (none_earlier write_after_read (at place) (nothing_meets (at place).writes) batch place other unread below.0) (not_written other below.0),
        passes_all unread before below.1,
      )

-- Lists without a conflict

all_and_one : (P : Access → Type 0) (xs : List Access) (b : Access) → AllByRecursion P xs → P b → AllByRecursion P (xs ++ b ∷ [])
all_and_one P [] b all one = (one, tt)
all_and_one P (x ∷ xs) b all one = (all.0, all_and_one P xs b all.1 one)

free_and_one : (xs : List Access) (b : Access) → IsConflictFree xs → AllByRecursion (λ a. LeavesAlone a b) xs → IsConflictFree (xs ++ b ∷ [])
unfolding IsConflictFree
free_and_one [] b free alone = (tt, tt)
free_and_one (x ∷ xs) b free alone = (all_and_one (LeavesAlone x) xs b free.0 alone.0, free_and_one xs b free.1 alone.1)

free_and_first : (a : Access) (xs : List Access) → IsConflictFree xs → AllByRecursion (LeavesAlone a) xs → IsConflictFree (a ∷ xs)
unfolding IsConflictFree
free_and_first a xs free alone = (alone, free)

nothing_free : IsConflictFree []
unfolding IsConflictFree
nothing_free = tt

-- One more place

before_more : (place : ℕ) (before : List ℕ) → AllBefore place before → AllBefore (place + 1) before
before_more place [] below = tt
before_more place (other ∷ before) below = let less : other < place = below.0 in (omega arith, before_more place before below.1)

before_and_it : (place : ℕ) (before : List ℕ) → AllBefore place before → AllBefore (place + 1) (before ++ place ∷ [])
before_and_it place [] below = (omega arith, tt)
before_and_it place (other ∷ before) below = let less : other < place = below.0 in (omega arith, before_and_it place before below.1)

module _ (batch : List Access) where
  put_before : (before : List ℕ) (place : ℕ) → AllBefore place before → AllBefore (place + 1) (put batch before place)
  put_before before place below =
      cond_both (reads_of batch before place) (place ∷ before) (before ++ place ∷ []) (AllBefore (place + 1))
      (λ front. let less : place < place + 1 = omega arith in (less, before_more place before below))
      (λ back. before_and_it place before below)

  put_free : (before : List ℕ) (place : ℕ) → AllBefore place before → is_committed batch place ≡ true → IsConflictFree (over (access_at batch) before) → IsConflictFree (over (access_at batch) (put batch before place))
  put_free before place below stays free =
      let parts = and_parts (not (has_earlier write_after_write batch place)) (not (has_earlier read_after_write batch place && has_earlier write_after_read batch place)) stays in
      let unwritten = not-true (has_earlier write_after_write batch place) parts.0 in
      cond_both (reads_of batch before place) (place ∷ before) (before ++ place ∷ []) (λ order. IsConflictFree (over (access_at batch) order))
      (λ front. free_and_first (access_at batch place) (over (access_at batch) before) free
      (passes_all batch place unwritten (unread (has_earlier read_after_write batch place) (has_earlier write_after_read batch place) (read_before batch place before below front) parts.1) before below))
      (λ back.
      subst IsConflictFree (sym (map-append (access_at batch) before (place ∷ [])))
      (free_and_one (over (access_at batch) before) (access_at batch place) free (all_stay_before batch place unwritten before below back)))
    where
      unread : (raw war : Bool) → raw ≡ true → not (raw && war) ≡ true → war ≡ false
      unread true war h k = not-true war k
      unread false war h k = absurd (true≢false (sym h))

  order_free : (from n : ℕ) (before : List ℕ) → AllBefore from before → IsConflictFree (over (access_at batch) before)
      → IsConflictFree (over (access_at batch) (in_order batch before (filter (is_committed batch) (range_with_len from n))))
  unfolding in_order
  order_free from zero before below free = free
  order_free from (suc n) before below free =
      let rest : List ℕ = filter (is_committed batch) (range_with_len (from + 1) n) in
      cond_both (is_committed batch from) (from ∷ rest) rest (λ kept. IsConflictFree (over (access_at batch) (in_order batch before kept)))
      (λ stays. order_free (from + 1) n (put batch before from) (put_before before from below) (put_free before from below stays free))
      (λ goes. order_free (from + 1) n before (before_more from before below) free)

  -- The order has the places that were put

  put_permutes : (before : List ℕ) (place : ℕ) → IsPermutation (place ∷ before) (put batch before place)
  put_permutes before place =
      cond_both (reads_of batch before place) (place ∷ before) (before ++ place ∷ []) (IsPermutation (place ∷ before))
      (λ front. IsPermutation-refl (place ∷ before))
      (λ back. IsPermutation-sym (before ++ place ∷ []) (place ∷ before) (IsPermutation-to_front before place))

  pub order_permutes : (before more : List ℕ) → IsPermutation (before ++ more) (in_order batch before more)
  unfolding in_order
  order_permutes before [] = subst (λ l. IsPermutation l before) (sym (append-nil before)) (IsPermutation-refl before)
  order_permutes before (place ∷ more) =
      IsPermutation-trans (before ++ place ∷ more) (place ∷ (before ++ more)) (in_order batch (put batch before place) more) (IsPermutation-middle before place more)
      (IsPermutation-trans (place ∷ (before ++ more)) (put batch before place ++ more) (in_order batch (put batch before place) more)
      (IsPermutation-append_left more (place ∷ before) (put batch before place) (put_permutes before place))
      (order_permutes (put batch before place) more))

first_stays : (batch : List Access) → 0 < length batch → list_any (nat_eq 0) (filter (is_committed batch) (places (length batch))) ≡ true
first_stays [] some = absurd (omega arith)
first_stays (a ∷ more) some = refl

pub reordered_is_lawful : (batch : List Access) → IsLawful batch (reordered batch)
unfolding reordered
reordered_is_lawful batch =
    let carries : ℕ → Bool = λ place. not (is_committed batch place) in
    let kept : List ℕ = filter (is_committed batch) (places (length batch)) in
    let carried : List ℕ = filter carries (places (length batch)) in
    record {
      once = IsPermutation-trans (places (length batch)) (kept ++ carried) (in_order batch [] kept ++ carried)
          (IsPermutation-filter_both (is_committed batch) carries (λ place. refl) (places (length batch)))
          (IsPermutation-append_left carried kept (in_order batch [] kept) (order_permutes batch [] kept));
      rises = IsStrictlyIncreasing-filter carries (places (length batch)) (places_rise (length batch));
      first = λ some. sym (list_any-IsPermutation (nat_eq 0) kept (in_order batch [] kept) (order_permutes batch [] kept)) ∙ first_stays batch some;
      apart = order_free batch 0 (length batch) [] tt nothing_free;
    }

-- The reordered batch is what its text by pairs says.
use Rattle.std.proofs.Common.{◌≡◌, ◌∙◌, ℕ, zero, suc, ◌<◌, Bool, true, true≢false, not, ◌&&◌, nat_eq, List, [], ◌∷◌, ◌++◌, length, take, inl, inr, refl, sym, arith}
use Rattle.std.specs.Prelude.{filter}
use Rattle.std.specs.List.{list_any}
use Rattle.std.proofs.lemmas.Bool.{and_parts, and_from, or_cases, not_from_true, not_from_false, false_from_ne_true, eqb-true, eq-eqb, cond-true, cond-false}
use Rattle.std.proofs.lemmas.List.Kept.{IsStrictlyIncreasing-filter}
use Rattle.serial_order.specs.ConflictFree.{Access}
use Rattle.reservations.specs.Accesses.{access_at}
use Rattle.reservations.specs.CommitRules.{places}
use Rattle.reservations.specs.BatchRuleLaws.{places_rise}
use Rattle.batch_reorder.specs.Conflicts.{ReadAfterWrite, WriteAfterRead, WriteAfterWrite, HasEarlier, read_after_write, write_after_read, write_after_write, has_earlier}
use Rattle.batch_reorder.specs.ReorderedBatch.{IsCommitted, ReadsOf, IsPut, AreInOrder, IsReordered}
use Rattle.batch_reorder.specs.Reordering.{is_committed, reads_of, put, in_order, reordered}
use Rattle.batch_reorder.specs.MeetingLaws.{one_passes, passes_by, meet_from_test, test_from_meet, nothing_meets, some_earlier}
use Rattle.batch_reorder.proofs.Places.{passes_from, from_passes}

-- An earlier request that stands so

module _ (stands : Access → Access → Bool) (Conflict : Access → Access → Type 0) (fact : (a b : Access) → stands a b ≡ true → Conflict a b) where
  found : (b : Access) (batch : List Access) (place : ℕ) → list_any (λ a. stands a b) (take place batch) ≡ true → (other : ℕ) × ((other < place) × Conflict (access_at batch other) b)
  found b [] zero one = absurd (true≢false (sym one))
  found b [] (suc place) one = absurd (true≢false (sym one))
  found b (a ∷ more) zero one = absurd (true≢false (sym one))
  found b (a ∷ more) (suc place) one =
      elim (or_cases (stands a b) (list_any (λ x. stands x b) (take place more)) one) as (λ _. (other : ℕ) × ((other < suc place) × Conflict (access_at (a ∷ more) other) b)) [
        | inl here ↦ (0, (omega arith, fact a b here))
        | inr later ↦ let rest : (other : ℕ) × ((other < place) × Conflict (access_at more other) b) = found b more place later in let less : rest.0 < place = rest.1.0 in (suc rest.0, (omega arith, rest.1.1))
      ]

  earlier_from_test : (batch : List Access) (place : ℕ) → has_earlier stands batch place ≡ true → HasEarlier Conflict batch place
  earlier_from_test batch place one = let one_found = found (access_at batch place) batch place one in record { other = one_found.0; earlier = one_found.1.0; stands = one_found.1.1 }

module _ (batch : List Access) (place : ℕ) where
  raw_from_test : has_earlier read_after_write batch place ≡ true → HasEarlier ReadAfterWrite batch place
  raw_from_test = earlier_from_test read_after_write ReadAfterWrite (λ a b. meet_from_test a.writes b.reads) batch place

  war_from_test : has_earlier write_after_read batch place ≡ true → HasEarlier WriteAfterRead batch place
  war_from_test = earlier_from_test write_after_read WriteAfterRead (λ a b. meet_from_test a.reads b.writes) batch place

  waw_from_test : has_earlier write_after_write batch place ≡ true → HasEarlier WriteAfterWrite batch place
  waw_from_test = earlier_from_test write_after_write WriteAfterWrite (λ a b. meet_from_test a.writes b.writes) batch place

  test_from_raw : HasEarlier ReadAfterWrite batch place → has_earlier read_after_write batch place ≡ true
  test_from_raw e =
      some_earlier read_after_write (access_at batch place) (nothing_meets (access_at batch place).reads) batch place e.other e.earlier
      (test_from_meet (access_at batch e.other).writes (access_at batch place).reads e.stands)

  test_from_war : HasEarlier WriteAfterRead batch place → has_earlier write_after_read batch place ≡ true
  test_from_war e =
      some_earlier write_after_read (access_at batch place) (nothing_meets (access_at batch place).writes) batch place e.other e.earlier
      (test_from_meet (access_at batch e.other).reads (access_at batch place).writes e.stands)

  test_from_waw : HasEarlier WriteAfterWrite batch place → has_earlier write_after_write batch place ≡ true
  test_from_waw e =
      some_earlier write_after_write (access_at batch place) (nothing_meets (access_at batch place).writes) batch place e.other e.earlier
      (test_from_meet (access_at batch e.other).writes (access_at batch place).writes e.stands)

  -- Which are committed

  abbrev raw : Bool
  raw = has_earlier read_after_write batch place

  abbrev war : Bool
  war = has_earlier write_after_read batch place

  abbrev waw : Bool
  waw = has_earlier write_after_write batch place

  committed_from_test : is_committed batch place ≡ true → IsCommitted batch place
  committed_from_test h =
      let parts = and_parts (not waw) (not (raw && war)) h in
      record {
        not_written = λ e. true≢false (sym parts.0 ∙ not_from_true waw (test_from_waw e));
        not_both = λ r w. true≢false (sym parts.1 ∙ not_from_true (raw && war) (and_from raw war (test_from_raw r) (test_from_war w)));
      }

  test_from_committed : IsCommitted batch place → is_committed batch place ≡ true
  test_from_committed c =
      and_from (not waw) (not (raw && war))
      (not_from_false waw (false_from_ne_true waw (λ h. c.not_written (waw_from_test h))))
      (not_from_false (raw && war) (false_from_ne_true (raw && war) (λ h. let parts = and_parts raw war h in c.not_both (raw_from_test parts.0) (war_from_test parts.1))))

-- In which order

module _ (batch : List Access) where
  abbrev read_by : ℕ → ℕ → Bool
  read_by place other = read_after_write (access_at batch other) (access_at batch place)

  reads_from_test : (others : List ℕ) (place : ℕ) → reads_of batch others place ≡ true → ReadsOf batch others place
  reads_from_test others place =
      one_passes nat_eq (λ k. eq-eqb k k refl) eqb-true (read_by place) {P = ReadsOf batch others place} others
      (λ other among read. record { other = other; among = among; read = meet_from_test (access_at batch other).writes (access_at batch place).reads read })

  test_from_reads : (others : List ℕ) (place : ℕ) → ReadsOf batch others place → reads_of batch others place ≡ true
  test_from_reads others place r =
      passes_by nat_eq (λ k. eq-eqb k k refl) eqb-true (read_by place) others r.other r.among (test_from_meet (access_at batch r.other).writes (access_at batch place).reads r.read)

  is_put : (before : List ℕ) (place : ℕ) → IsPut batch before place (put batch before place)
  is_put before place = record {
    front = λ r. cond-true (reads_of batch before place) (place ∷ before) (before ++ place ∷ []) (test_from_reads before place r);
    back = λ none. cond-false (reads_of batch before place) (place ∷ before) (before ++ place ∷ []) (false_from_ne_true (reads_of batch before place) (λ one. none (reads_from_test before place one)));
  }

  are_in_order : (before more : List ℕ) → AreInOrder batch before more (in_order batch before more)
  unfolding in_order
  are_in_order before [] = refl
  are_in_order before (place ∷ more) = (put batch before place, (is_put before place, are_in_order (put batch before place) more))

pub by_pairs : (batch : List Access) → IsReordered batch (reordered batch)
unfolding reordered
by_pairs batch =
    let carries : ℕ → Bool = λ place. not (is_committed batch place) in
    record {
      kept = filter (is_committed batch) (places (length batch));
      kept_rise = IsStrictlyIncreasing-filter (is_committed batch) (places (length batch)) (places_rise (length batch));
      kept_are = λ place.
          record {
            0 = λ h. let among = passes_from (is_committed batch) (length batch) place h in (among.0, committed_from_test batch place among.1);
            1 = λ is. from_passes (is_committed batch) (length batch) place is.0 (test_from_committed batch place is.1);
          };
      committed = are_in_order batch [] (filter (is_committed batch) (places (length batch)));
      carried = λ place.
          record {
            0 = λ h.
                let among = passes_from carries (length batch) place h in
                (among.0, λ is. true≢false (sym among.1 ∙ not_from_true (is_committed batch place) (test_from_committed batch place is)));
            1 = λ is.
                from_passes carries (length batch) place is.0
                (not_from_false (is_committed batch place) (false_from_ne_true (is_committed batch place) (λ h. is.1 (committed_from_test batch place h))));
          };
      carried_rise = IsStrictlyIncreasing-filter carries (places (length batch)) (places_rise (length batch));
    }

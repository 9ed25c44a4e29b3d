-- Works as those of runs, and what is left of them once some are committed.
use Rattle.std.proofs.Common.{◌≡◌, ℕ, arith, ◌<◌, Bool, true, false, cond, Option, Some, None, List, [], ◌∷◌, length, map as over, refl, sym, ap, ◌∙◌, subst, true≢false}
use Rattle.std.specs.Prelude.{◌&&◌, not, nat_lt, nat_eq, slice_get, is_some}
use Rattle.std.specs.List.{list_any}
use Rattle.std.specs.Option.{option_or}
use Rattle.std.specs.FinMap as map
use Rattle.std.specs.FinSet as set
use Rattle.std.proofs.lemmas.Bool.{ltb-true}
use Rattle.std.proofs.lemmas.List.{length-map, get_or-map}
use Rattle.std.proofs.lemmas.Option.{none-some, slice_get-get_or}
use Rattle.sf_value.specs.Keys.{Key}
use Rattle.sf_value.specs.declared.Act.{Act}
use Rattle.sf_value.specs.declared.value.Value.{Value}
use Rattle.program_meaning.specs.ClassTables.{Source}
use Rattle.program_meaning.specs.World.{State}
use Rattle.program_meaning.specs.RequestRun.{run}
use Rattle.keyed_state.specs.declared.Work.{Work}
use Rattle.keyed_state.specs.Works.{held_record, no_work, work_at, with_records, written_records, after_writes, are_places}
use Rattle.keyed_state.proofs.WrittenLaws.{get-with_work}
use Rattle.serial_order.specs.ConflictFree.{access_of, IsConflictFree, runs_on, record_after}
use Rattle.serial_order.proofs.FramedRuns.{runs_framed}
use Rattle.serial_order.proofs.SerialOrder.{conflict_free_serial, state_by_records}
use Rattle.reservations.specs.Accesses.{access_of_work, accesses_of, no_access, access_at}
use Rattle.reservations.proofs.Lawful.{committed_places}
use Rattle.commit_order.specs.CommittedSerial.{and_more, asked_at, IsWorkOf, AreWorksOf, CommittedIsSerial}

first_of_both : (a b : Bool) → (a && b) ≡ true → a ≡ true
first_of_both true b h = refl
first_of_both false b h = absurd (true≢false (sym h))

second_of_both : (a b : Bool) → (a && b) ≡ true → b ≡ true
second_of_both true b h = h
second_of_both false b h = absurd (true≢false (sym h))

-- the first of these places stands in the list, and so do the others
place_there : (n place : ℕ) (others : List ℕ) → are_places n (place ∷ others) ≡ true → place < n
place_there n place others h =
    ltb-true place n (first_of_both (nat_lt place n) (not (list_any (nat_eq place) others)) (first_of_both (nat_lt place n && not (list_any (nat_eq place) others)) (are_places n others) h))

others_there : (n place : ℕ) (others : List ℕ) → are_places n (place ∷ others) ≡ true → are_places n others ≡ true
others_there n place others h = second_of_both (nat_lt place n && not (list_any (nat_eq place) others)) (are_places n others) h

module _ (src : Source) (snapshot : State) (batch : List Act) (works : List Work) (are : AreWorksOf src snapshot batch works) where
  -- what is asked at a place of the batch
  record Asked (place : ℕ) : Type 0 where
    asked : Act
    is : slice_get batch place ≡ Some asked
    work : IsWorkOf (run src snapshot asked) (work_at works place)
    among : (others : List ℕ) → asked_at batch (place ∷ others) ≡ asked ∷ asked_at batch others

  asked_here : (place : ℕ) → place < length works → Asked place
  unfolding asked_at
  asked_here place within = by (slice_get batch place) refl
    where
      by : (o : Option Act) → slice_get batch place ≡ o → Asked place
      by (Some a) is = record { asked = a; is = is; work = are.each place a is; among = λ others. ap (λ o. and_more o (asked_at batch others)) is }
      by None is =
          let same : length works ≡ length batch = are.as_many in
          absurd (none_there batch place (omega (arith, within, same)) is)
        where
          none_there : (xs : List Act) (i : ℕ) → i < length xs → slice_get xs i ≡ None → ⊥
          none_there [] i less is = omega (arith, less)
          none_there (x ∷ xs) i less is = none-some _ (sym is ∙ slice_get-get_or (x ∷ xs) i x less)

  access_here : (place : ℕ) → place < length works → (a : Asked place) → access_of (run src snapshot a.asked) ≡ access_at (accesses_of works) place
  access_here place within a =
      (λ i. record { reads = sym a.work.reads i; writes = sym a.work.writes i })
      ∙ sym (get_or-map access_of_work works place no_work no_access within)

  -- the committed ones have the accesses of the works at their places
  accesses_are : (places : List ℕ) → are_places (length works) places ≡ true → over access_of (runs_on src snapshot (asked_at batch places)) ≡ over (access_at (accesses_of works)) places
  unfolding asked_at
  accesses_are [] there = refl
  accesses_are (place ∷ others) there =
      let within : place < length works = place_there (length works) place others there in
      let a : Asked place = asked_here place within in
      ap (λ acts. over access_of (runs_on src snapshot acts)) (a.among others)
      ∙ (λ i. access_here place within a i ∷ accesses_are others (others_there (length works) place others there) i)

  -- a work's writes are those of its run
  record_of_work : (s : State) (place : ℕ) (a : Asked place) (q : Key)
      → map.get (with_records s (written_records (work_at works place))) q ≡ cond (set.contains (run src snapshot a.asked).writes q) (map.get (run src snapshot a.asked).state q) (map.get s q)
  record_of_work s place a q =
      get-with_work s (work_at works place) q
      ∙ ap (λ keys. cond (set.contains keys q) (option_or (held_record (work_at works place).held q) (map.get s q)) (map.get s q)) a.work.writes
      ∙ by (set.contains (run src snapshot a.asked).writes q) refl
    where
      there_or : (o other : Option (List Value)) → is_some o ≡ true → option_or o other ≡ o
      there_or None other h = absurd (true≢false (sym h))
      there_or (Some x) other h = refl

      by : (b : Bool) → set.contains (run src snapshot a.asked).writes q ≡ b → cond b (option_or (held_record (work_at works place).held q) (map.get s q)) (map.get s q) ≡ cond b (map.get (run src snapshot a.asked).state q) (map.get s q)
      by false written = refl
      by true written =
          ap (λ o. option_or o (map.get s q)) (a.work.records q written)
          ∙ there_or (map.get (run src snapshot a.asked).state q) (map.get s q) ((runs_framed src).there snapshot a.asked q written)

  records_are : (places : List ℕ) → are_places (length works) places ≡ true → (s : State) (q : Key) → map.get (after_writes s works places) q ≡ record_after (map.get s q) q (runs_on src snapshot (asked_at batch places))
  unfolding asked_at record_after
  records_are [] there s q = refl
  records_are (place ∷ others) there s q =
      let within : place < length works = place_there (length works) place others there in
      let a : Asked place = asked_here place within in
      records_are others (others_there (length works) place others there) (with_records s (written_records (work_at works place))) q
      ∙ ap (λ before. record_after before q (runs_on src snapshot (asked_at batch others))) (record_of_work s place a q)
      ∙ ap (λ acts. record_after (map.get s q) q (runs_on src snapshot acts)) (sym (a.among others))

pub committed_is_serial : CommittedIsSerial
committed_is_serial src snapshot batch works chosen are lawful =
    let there : are_places (length works) chosen.committed ≡ true = ap (λ n. are_places n chosen.committed) (sym (length-map works access_of_work)) ∙ committed_places (accesses_of works) chosen lawful in
    let free : IsConflictFree (over access_of (runs_on src snapshot (asked_at batch chosen.committed))) = subst IsConflictFree (sym (accesses_are src snapshot batch works are chosen.committed there)) lawful.apart in
    let serial = conflict_free_serial src snapshot (asked_at batch chosen.committed) free in
    record {
      outcomes = serial.outcomes;
      state = state_by_records src snapshot (after_writes snapshot works chosen.committed) (asked_at batch chosen.committed) serial (λ q. records_are src snapshot batch works are chosen.committed there snapshot q);
    }

-- One request after another: what the tables tell, and where each place goes.
use Rattle.std.proofs.Common.{◌≡◌, ◌∙◌, ℕ, ◌+◌, ◌<◌, Bool, true, false, not, ◌&&◌, ◌||◌, List, [], ◌∷◌, ◌++◌, length, take, refl, sym, ap, subst}
use Rattle.std.specs.Prelude.{filter, is_some, if◌then◌else◌}
use Rattle.std.specs.List.{list_any}
use Rattle.std.specs.FinMap as finite
use Rattle.std.specs.FinSet as set
use Rattle.std.proofs.lemmas.List.Folds.{list_any-append, list_any_more}
use Rattle.sf_value.specs.Keys.{Key, key_cmp}
use Rattle.serial_order.specs.ConflictFree.{Access}
use Rattle.keyed_state.specs.declared.Work.{Work}
use Rattle.keyed_state.specs.Works.{Keys, keys_of}
use Rattle.reservations.specs.Accesses.{access_of_work, no_access, access_at}
use Rattle.reservations.specs.CommitRules.{places}
use Rattle.reservations.specs.Reservations.{Reserved}
use Rattle.reservations.proofs.ChoiceLaws.{joins, stays_out, carried_more}
use Rattle.batch_reorder.specs.declared.rule2.Earlier.{Earlier}
use Rattle.batch_reorder.specs.declared.rule2.Lists.{Lists}
use Rattle.batch_reorder.specs.Conflicts.{meets, read_after_write, write_after_read, write_after_write, has_earlier}
use Rattle.batch_reorder.specs.Reordering.{is_committed, reads_of, put, in_order}
use Rattle.batch_reorder.specs.Turns.{waits, goes_first, Grows, IsNoted, order_of, IsPlaced, Tells}
use Rattle.batch_reorder.proofs.Tests.{taken_is}
use Rattle.batch_reorder.proofs.Growing.{grows_by_none}

pub noted_waiting : (old new : Earlier) (work : Work) (is_carried : Bool) → is_carried ≡ true → Grows old.readers new.readers work.reads → Grows old.writers new.writers work.writes → new.committed ≡ old.committed → IsNoted old new work is_carried
noted_waiting old new work is_carried is readers writers same = record {
  readers = readers;
  writers = writers;
  committed =
      subst (λ b. Grows old.committed new.committed (if b then [] else work.writes)) (sym is)
      (subst (λ t. Grows old.committed t []) (sym same) (grows_by_none old.committed));
}

-- The tests of the code are those of the rule

turned : (a b : Bool) → (a || b) ≡ not (not a && not b)
turned true b = refl
turned false true = refl
turned false false = refl

module _ (batch : List Access) (place : ℕ) (order : List ℕ) (earlier : Earlier) (tells : Tells earlier batch place order) (work : Work) (at : access_at batch place ≡ access_of_work work) where
  writer_of_writes : list_any (λ a. meets a.writes (keys_of work.writes)) (take place batch) ≡ has_earlier write_after_write batch place
  writer_of_writes = ap (λ b. list_any (λ a. write_after_write a b) (take place batch)) (sym at)

  writer_of_reads : list_any (λ a. meets a.writes (keys_of work.reads)) (take place batch) ≡ has_earlier read_after_write batch place
  writer_of_reads = ap (λ b. list_any (λ a. read_after_write a b) (take place batch)) (sym at)

  reader_of_writes : list_any (λ a. meets a.reads (keys_of work.writes)) (take place batch) ≡ has_earlier write_after_read batch place
  reader_of_writes = ap (λ b. list_any (λ a. write_after_read a b) (take place batch)) (sym at)

  pub waits_is : waits earlier work ≡ not (is_committed batch place)
  waits_is =
      (λ i.
      (taken_is (λ a. a.writes) (take place batch) earlier.writers tells.writers work.writes ∙ writer_of_writes) i
      || ((taken_is (λ a. a.writes) (take place batch) earlier.writers tells.writers work.reads ∙ writer_of_reads) i
      && (taken_is (λ a. a.reads) (take place batch) earlier.readers tells.readers work.writes ∙ reader_of_writes) i))
      ∙ turned (has_earlier write_after_write batch place) (has_earlier read_after_write batch place && has_earlier write_after_read batch place)

  pub first_is : goes_first earlier work ≡ reads_of batch order place
  first_is =
      taken_is (λ other. (access_at batch other).writes) order earlier.committed tells.committed work.reads
      ∙ ap (λ b. list_any (λ other. read_after_write (access_at batch other) b) order) (sym at)

-- One place more

in_order_more : (batch : List Access) (before more : List ℕ) (place : ℕ) → put batch (in_order batch before more) place ≡ in_order batch before (more ++ place ∷ [])
unfolding in_order
in_order_more batch before [] place = refl
in_order_more batch before (other ∷ more) place = in_order_more batch (put batch before other) more place

commits : (b : Bool) → false ≡ not b → b ≡ true
commits true h = refl
commits false h = h

carries : (b : Bool) → true ≡ not b → b ≡ false
carries true h = h
carries false h = refl

module _ (batch : List Access) (place : ℕ) where
  abbrev kept : ℕ → List ℕ
  kept count = filter (is_committed batch) (places count)

  order_more : (is_carried is_first : Bool) (old new : List ℕ) → is_carried ≡ not (is_committed batch place) → is_first ≡ reads_of batch old place → old ≡ in_order batch [] (kept place)
      → new ≡ (if is_carried then old else (if is_first then (place ∷ old) else (old ++ place ∷ []))) → new ≡ in_order batch [] (kept (place + 1))
  order_more true is_first old new waits first before made =
      made ∙ before ∙ ap (in_order batch []) (stays_out (is_committed batch) place (kept place) (kept place) (carries (is_committed batch place) waits) refl refl)
  order_more false is_first old new waits first before made =
      made
      ∙ ap (λ b. if b then (place ∷ old) else (old ++ place ∷ [])) first
      ∙ ap (λ l. put batch l place) before
      ∙ in_order_more batch [] (kept place) place
      ∙ ap (in_order batch []) (joins (is_committed batch) place (kept place) (kept place ++ place ∷ []) (commits (is_committed batch place) waits) refl refl)

-- What the tables tell with it

or_swapped : (a b : Bool) → (a || b) ≡ (b || a)
or_swapped true true = refl
or_swapped true false = refl
or_swapped false true = refl
or_swapped false false = refl

module _ (batch : List Access) (place : ℕ) (within : place < length batch) where
  one_more_touches : (part : Access → Keys) (old new : Reserved) (touched : Keys) (q : Key) → part (access_at batch place) ≡ touched
      → is_some (finite.get new q) ≡ (set.contains touched q || is_some (finite.get old q))
      → is_some (finite.get old q) ≡ list_any (λ a. set.contains (part a) q) (take place batch)
      → is_some (finite.get new q) ≡ list_any (λ a. set.contains (part a) q) (take (place + 1) batch)
  one_more_touches part old new touched q is grows before =
      grows
      ∙ or_swapped (set.contains touched q) (is_some (finite.get old q))
      ∙ (λ i. before i || set.contains (sym is i) q)
      ∙ sym (list_any_more (λ a. set.contains (part a) q) batch place no_access within)

  one_more_committed : (is_carried is_first : Bool) (old new : List ℕ) (before after : Reserved) (work : Work) (q : Key) → access_at batch place ≡ access_of_work work
      → new ≡ (if is_carried then old else (if is_first then (place ∷ old) else (old ++ place ∷ [])))
      → is_some (finite.get after q) ≡ (set.contains (keys_of (if is_carried then [] else work.writes)) q || is_some (finite.get before q))
      → is_some (finite.get before q) ≡ list_any (λ other. set.contains (access_at batch other).writes q) old
      → is_some (finite.get after q) ≡ list_any (λ other. set.contains (access_at batch other).writes q) new
  one_more_committed true is_first old new before after work q at made grows told =
      grows ∙ ap (λ b. b || is_some (finite.get before q)) (set.contains-empty key_cmp q) ∙ told ∙ ap (list_any (λ other. set.contains (access_at batch other).writes q)) (sym made)
  one_more_committed false true old new before after work q at made grows told =
      grows
      ∙ (λ i. set.contains (sym at i).writes q || told i)
      ∙ ap (list_any (λ other. set.contains (access_at batch other).writes q)) (sym made)
  one_more_committed false false old new before after work q at made grows told =
      grows
      ∙ (λ i. set.contains (sym at i).writes q || told i)
      ∙ or_swapped (set.contains (access_at batch place).writes q) (list_any (λ other. set.contains (access_at batch other).writes q) old)
      ∙ ap (λ b. list_any (λ other. set.contains (access_at batch other).writes q) old || b) (or_nothing (set.contains (access_at batch place).writes q))
      ∙ sym (list_any-append (λ other. set.contains (access_at batch other).writes q) old (place ∷ []))
      ∙ ap (list_any (λ other. set.contains (access_at batch other).writes q)) (sym made)
    where
      or_nothing : (b : Bool) → b ≡ (b || false)
      or_nothing true = refl
      or_nothing false = refl

-- The state of the pass

pub record IsSoFar (batch : List Access) (place : ℕ) (earlier : Earlier) (lists : Lists) : Type 0 where
  pub order : order_of lists ≡ in_order batch [] (filter (is_committed batch) (places place))
  pub carried : lists.carried ≡ filter (λ other. not (is_committed batch other)) (places place)
  pub tells : Tells earlier batch place (order_of lists)

pub nothing_yet : (batch : List Access) (earlier : Earlier) (lists : Lists) → earlier.readers ≡ finite.empty → earlier.writers ≡ finite.empty → earlier.committed ≡ finite.empty → order_of lists ≡ [] → lists.carried ≡ []
    → IsSoFar batch 0 earlier lists
unfolding in_order
nothing_yet batch earlier lists readers writers committed order carried = record {
  order = order;
  carried = carried;
  tells = record {
    readers = λ q. ap (λ t. is_some (finite.get t q)) readers ∙ ap is_some (finite.get-empty key_cmp q) ∙ ap (list_any (λ a. set.contains a.reads q)) (none_taken batch);
    writers = λ q. ap (λ t. is_some (finite.get t q)) writers ∙ ap is_some (finite.get-empty key_cmp q) ∙ ap (list_any (λ a. set.contains a.writes q)) (none_taken batch);
    committed = λ q. ap (λ t. is_some (finite.get t q)) committed ∙ ap is_some (finite.get-empty key_cmp q) ∙ ap (list_any (λ other. set.contains (access_at batch other).writes q)) (sym order);
  };
}
  where
    none_taken : (batch : List Access) → [] ≡ take 0 batch
    none_taken [] = refl
    none_taken (a ∷ more) = refl

module _ (batch : List Access) (place : ℕ) (within : place < length batch) (work : Work) (at : access_at batch place ≡ access_of_work work) where
  pub one_more : (earlier after : Earlier) (lists new : Lists) → IsSoFar batch place earlier lists → IsPlaced lists new place (waits earlier work) (goes_first earlier work) → IsNoted earlier after work (waits earlier work)
      → IsSoFar batch (place + 1) after new
  one_more earlier after lists new so_far placed noted =
      let waits_so = waits_is batch place (order_of lists) earlier so_far.tells work at in
      record {
        order = order_more batch place (waits earlier work) (goes_first earlier work) (order_of lists) (order_of new) waits_so (first_is batch place (order_of lists) earlier so_far.tells work at) so_far.order placed.order;
        carried = carried_more (is_committed batch) place lists.carried new.carried (waits earlier work) waits_so so_far.carried placed.carried;
        tells = record {
          readers = λ q. one_more_touches batch place within (λ a. a.reads) earlier.readers after.readers (keys_of work.reads) q (ap (λ a. a.reads) at) (noted.readers.at q) (so_far.tells.readers q);
          writers = λ q. one_more_touches batch place within (λ a. a.writes) earlier.writers after.writers (keys_of work.writes) q (ap (λ a. a.writes) at) (noted.writers.at q) (so_far.tells.writers q);
          committed = λ q.
              one_more_committed batch place within (waits earlier work) (goes_first earlier work) (order_of lists) (order_of new) earlier.committed after.committed work q at placed.order
              (noted.committed.at q) (so_far.tells.committed q);
        };
      }

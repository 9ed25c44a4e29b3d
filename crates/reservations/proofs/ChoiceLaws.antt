-- The choice as it is made, place by place.
use Rattle.std.proofs.Common.{◌≡◌, ◌∙◌, ℕ, zero, suc, ◌+◌, ◌<◌, Bool, true, false, cond, not, ◌||◌, List, [], ◌∷◌, ◌++◌, length, take, refl, sym, ap, arith, add-one}
use Rattle.std.specs.Prelude.{filter, slice_index_or}
use Rattle.std.specs.List.{list_any, range_with_len}
use Rattle.std.specs.FinMap as finite
use Rattle.std.proofs.lemmas.List.{append-nil}
use Rattle.std.proofs.lemmas.List.Elements.{filter-append}
use Rattle.sf_value.specs.Keys.{Key}
use Rattle.serial_order.specs.ConflictFree.{Access}
use Rattle.keyed_state.specs.declared.Work.{Work}
use Rattle.reservations.specs.Accesses.{access_of_work, accesses_of, access_at}
use Rattle.reservations.specs.CommitRules.{places}
use Rattle.reservations.specs.BatchRule.{is_clear}
use Rattle.reservations.specs.Reservations.{Reserved, first_writer, is_before, is_reserved}
use Rattle.reservations.proofs.SetLaws.{all_leave_alone, tests_agree}
use Rattle.reservations.proofs.TableLaws.{written_before}

-- the access at a place is that of the work there
pub access_at_work : (works : List Work) (place : ℕ) (d : Work) → place < length works → access_at (accesses_of works) place ≡ access_of_work (slice_index_or works place d)
access_at_work [] place d within = absurd (omega arith)
access_at_work (w ∷ more) zero d within = refl
access_at_work (w ∷ more) (suc place) d within = access_at_work more place d (omega arith)

-- what the table tells of a work is whether it isn't clear
pub waits_is : (reserved : Reserved) (batch : List Access) (place : ℕ) (work : Work) → access_at batch place ≡ access_of_work work → ((q : Key) → finite.get reserved q ≡ first_writer batch q)
    → (list_any (is_reserved reserved place) work.reads || list_any (is_reserved reserved place) work.writes) ≡ not (is_clear batch place)
waits_is reserved batch place work at is =
    tests_agree (λ q. is_before (finite.get reserved q) place) (take place batch) work (λ q. ap (λ o. is_before o place) (is q) ∙ written_before batch place q)
    ∙ ap (λ a. not (all_leave_alone (take place batch) a)) (sym at)

range_more : (from n : ℕ) → range_with_len from (suc n) ≡ range_with_len from n ++ (from + n) ∷ []
range_more from zero = let same : from ≡ from + 0 = omega arith in ap (λ x. x ∷ []) same
range_more from (suc n) = let same : from + 1 + n ≡ from + suc n = omega arith in ap (λ l. from ∷ l) (range_more (from + 1) n) ∙ ap (λ x. from ∷ (range_with_len (from + 1) n ++ x ∷ [])) same

module _ (p : ℕ → Bool) (i : ℕ) where
  passing_more : filter p (places (i + 1)) ≡ filter p (places i) ++ filter p (i ∷ [])
  passing_more = let same : 0 + i ≡ i = omega arith in rw add-one (ap (filter p) (range_more 0 i ∙ ap (λ x. places i ++ x ∷ []) same)) ∙ filter-append p (places i) (i ∷ [])

  -- a place joins those that pass, or doesn't
  pub joins : (old new : List ℕ) → p i ≡ true → old ≡ filter p (places i) → new ≡ old ++ i ∷ [] → new ≡ filter p (places (i + 1))
  joins old new passes before is = is ∙ ap (λ l. l ++ i ∷ []) before ∙ ap (λ b. filter p (places i) ++ cond b (i ∷ []) []) (sym passes) ∙ sym passing_more

  pub stays_out : (old new : List ℕ) → p i ≡ false → old ≡ filter p (places i) → new ≡ old → new ≡ filter p (places (i + 1))
  stays_out old new passes before is = is ∙ before ∙ sym (append-nil (filter p (places i))) ∙ ap (λ b. filter p (places i) ++ cond b (i ∷ []) []) (sym passes) ∙ sym passing_more

module _ (clear : ℕ → Bool) (i : ℕ) (old new : List ℕ) where
  pub committed_more : (waits : Bool) → waits ≡ not (clear i) → old ≡ filter clear (places i) → new ≡ cond waits old (old ++ i ∷ []) → new ≡ filter clear (places (i + 1))
  committed_more true is before made = stays_out clear i old new (unless (clear i) is) before made
    where
      unless : (b : Bool) → true ≡ not b → b ≡ false
      unless true h = h
      unless false h = refl
  committed_more false is before made = joins clear i old new (unless (clear i) is) before made
    where
      unless : (b : Bool) → false ≡ not b → b ≡ true
      unless true h = refl
      unless false h = h

  pub carried_more : (waits : Bool) → waits ≡ not (clear i) → old ≡ filter (λ x. not (clear x)) (places i) → new ≡ cond waits (old ++ i ∷ []) old → new ≡ filter (λ x. not (clear x)) (places (i + 1))
  carried_more true is before made = joins (λ x. not (clear x)) i old new (sym is) before made
  carried_more false is before made = stays_out (λ x. not (clear x)) i old new (sym is) before made

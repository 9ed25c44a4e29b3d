-- Works that are committed place by place: one that is done with is never met again.
use Rattle.std.proofs.Common.{◌≡◌, ◌∙◌, ℕ, ◌+◌, ◌<◌, ◌≤◌, Bool, true, false, true≢false, not, ◌&&◌, nat_eq, nat_lt, List, [], ◌∷◌, drop, length, Some, refl, sym, ap, subst, arith, add-one, drop-cons}
use Rattle.std.specs.Prelude.{slice_get, slice_set, slice_index_or}
use Rattle.std.specs.List.{list_any}
use Rattle.std.proofs.lemmas.Bool.{ltb-true, eqb-false, or_parts}
use Rattle.std.proofs.lemmas.List.{get_or-set_other, length-set}
use Rattle.std.proofs.lemmas.Option.{get_or_from_slice_get}
use Rattle.keyed_state.specs.declared.Work.{Work}
use Rattle.keyed_state.specs.Contents.{Contents}
use Rattle.keyed_state.specs.Works.{no_work, work_at, with_records, written_records, after_writes, written_count, are_places}

pub next_place : (places : List ℕ) (i : ℕ) → i < length places → drop i places ≡ slice_index_or places i 0 ∷ drop (i + 1) places
next_place places i within = rw add-one (drop-cons places i 0 within)

-- the first of some places, and the others
pub record Places (n place : ℕ) (others : List ℕ) : Type 0 where
  pub within : place < n
  pub new : list_any (nat_eq place) others ≡ false
  pub rest : are_places n others ≡ true

all_three : (a b c : Bool) → (a && not b && c) ≡ true → (a ≡ true) × (b ≡ false) × (c ≡ true)
all_three true true c h = absurd (true≢false (sym h))
all_three true false c h = (refl, refl, h)
all_three false b c h = absurd (true≢false (sym h))

pub places_of : (n place : ℕ) (others : List ℕ) → are_places n (place ∷ others) ≡ true → Places n place others
places_of n place others h = let parts = all_three (nat_lt place n) (list_any (nat_eq place) others) (are_places n others) h in record { within = ltb-true place n parts.0; new = parts.1; rest = parts.2 }

module _ (works : List Work) (place : ℕ) (done : Work) where
  other_work : (q : ℕ) → nat_eq place q ≡ false → work_at (slice_set works place done) q ≡ work_at works q
  other_work q apart = get_or-set_other works place q done no_work (λ same. eqb-false place q apart (sym same))

  writes_past : (places : List ℕ) (s : Contents) → list_any (nat_eq place) places ≡ false → after_writes s (slice_set works place done) places ≡ after_writes s works places
  writes_past [] s new = refl
  writes_past (q ∷ places) s new =
      let apart = or_parts (nat_eq place q) (list_any (nat_eq place) places) new in
      ap (λ w. after_writes (with_records s (written_records w)) (slice_set works place done) places) (other_work q apart.0)
      ∙ writes_past places (with_records s (written_records (work_at works q))) apart.1

  count_past : (places : List ℕ) → list_any (nat_eq place) places ≡ false → written_count (slice_set works place done) places ≡ written_count works places
  count_past [] new = refl
  count_past (q ∷ places) new =
      let apart = or_parts (nat_eq place q) (list_any (nat_eq place) places) new in
      let one : length (written_records (work_at (slice_set works place done) q)) ≡ length (written_records (work_at works q)) = ap (λ w. length (written_records w)) (other_work q apart.0) in
      let rest = count_past places apart.1 in
      omega arith

-- what is left to do when one place is done
pub record IsDone (s new : Contents) (works now : List Work) (all rest : List ℕ) (spare : ℕ) : Type 0 where
  pub contents : after_writes new now rest ≡ after_writes s works all
  pub room : written_count now rest ≤ spare
  pub places : are_places (length now) rest ≡ true

module _ (works : List Work) (all rest : List ℕ) (place : ℕ) (w : Work) (is : all ≡ place ∷ rest) (at : slice_get works place ≡ Some w) where
  here : work_at works place ≡ w
  here = get_or_from_slice_get works place w no_work at

  counted : (spare : ℕ) → written_count works all ≤ spare → length (written_records w) + written_count works rest ≤ spare
  counted spare enough = subst (λ x. length (written_records x) + written_count works rest ≤ spare) here (subst (λ l. written_count works l ≤ spare) is enough)

  pub room_here : (spare : ℕ) → written_count works all ≤ spare → length (written_records w) ≤ spare
  room_here spare enough = let both = counted spare enough in omega arith

  pub one_done : (s new : Contents) (done : Work) (spare left : ℕ) → new ≡ with_records s (written_records w) → spare ≤ left + length (written_records w) → are_places (length works) all ≡ true → written_count works all ≤ spare
      → IsDone s new works (slice_set works place done) all rest left
  one_done s new done spare left made used places enough =
      let parts = places_of (length works) place rest (subst (λ l. are_places (length works) l ≡ true) is places) in
      let both = counted spare enough in
      let past = count_past works place done rest parts.new in
      record {
        contents =
            writes_past works place done rest new parts.new
            ∙ ap (λ t. after_writes t works rest) (made ∙ ap (λ x. with_records s (written_records x)) (sym here))
            ∙ ap (after_writes s works) (sym is);
        room = omega arith;
        places = ap (λ n. are_places n rest) (length-set works place done) ∙ parts.rest;
      }

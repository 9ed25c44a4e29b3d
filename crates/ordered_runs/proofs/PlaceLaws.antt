-- The places of a list, rising, and what is asked and written at them.
use Rattle.std.proofs.Common.{◌≡◌, ℕ, zero, suc, ◌+◌, ◌<◌, ◌≤◌, true, false, not, ◌&&◌, ◌||◌, nat_eq, List, [], ◌∷◌, ◌++◌, Some, length, refl, sym, ap, ◌∙◌, arith, add-one, append_assoc}
use Rattle.std.specs.Prelude.{slice_get}
use Rattle.std.specs.List.{list_any, range_with_len}
use Rattle.std.proofs.lemmas.Bool.{ne_eqb, lt-ltb}
use Rattle.std.proofs.lemmas.List.{get_or_append_left, length-append}
use Rattle.sf_value.specs.declared.Act.{Act}
use Rattle.keyed_state.specs.declared.Work.{Work}
use Rattle.keyed_state.specs.Contents.{Contents}
use Rattle.keyed_state.specs.Works.{no_work, work_at, with_records, written_records, after_writes, are_places}
use Rattle.commit_order.specs.CommittedSerial.{and_more, asked_at}

-- What is asked at all places

there : (front : List Act) (a : Act) (more : List Act) → slice_get (front ++ a ∷ more) (length front) ≡ Some a
there [] a more = refl
there (x ∷ front) a more = there front a more

asked_from : (front asked : List Act) (n : ℕ) → n ≡ length front → asked_at (front ++ asked) (range_with_len n (length asked)) ≡ asked
unfolding asked_at
asked_from front [] n is = refl
asked_from front (a ∷ asked) n is =
    let next : n + 1 ≡ length (front ++ a ∷ []) = omega (arith, is, length-append front (a ∷ [])) in
    (λ i. and_more ((ap (slice_get (front ++ a ∷ asked)) is ∙ there front a asked) i) (asked_at (sym (append_assoc front (a ∷ []) asked) i) (range_with_len (n + 1) (length asked))))
    ∙ ap (λ l. a ∷ l) (asked_from (front ++ a ∷ []) asked (n + 1) next)

pub asked_at_all : (asked : List Act) → asked_at asked (range_with_len 0 (length asked)) ≡ asked
asked_at_all asked = asked_from [] asked 0 refl

-- All places are places

none_before : (q k n : ℕ) → q < k → list_any (nat_eq q) (range_with_len k n) ≡ false
none_before q k zero less = refl
none_before q k (suc n) less = ap (λ b. b || list_any (nat_eq q) (range_with_len (k + 1) n)) (ne_eqb q k (λ same. omega (arith, same, less))) ∙ none_before q (k + 1) n (omega (arith, less))

places_from : (all k n : ℕ) → k + n ≤ all → are_places all (range_with_len k n) ≡ true
places_from all k zero within = refl
places_from all k (suc n) within =
    (λ i. lt-ltb k all (omega (arith, within)) i && not (none_before k (k + 1) n (omega arith) i) && are_places all (range_with_len (k + 1) n)) ∙ places_from all (k + 1) n (omega (arith, within))

pub all_places : (n : ℕ) → are_places n (range_with_len 0 n) ≡ true
all_places n = places_from n 0 n (omega arith)

range_more : (k n : ℕ) → range_with_len k (suc n) ≡ range_with_len k n ++ (k + n) ∷ []
range_more k zero = let same : k ≡ k + 0 = omega arith in ap (λ m. m ∷ []) same
range_more k (suc n) = let same : k + 1 + n ≡ k + suc n = omega arith in ap (λ l. k ∷ l) (range_more (k + 1) n ∙ ap (λ m. range_with_len (k + 1) n ++ m ∷ []) same)

pub one_place_more : (n : ℕ) → range_with_len 0 (n + 1) ≡ range_with_len 0 n ++ n ∷ []
one_place_more n = let same : 0 + n ≡ n = omega arith in ap (range_with_len 0) (add-one n) ∙ range_more 0 n ∙ ap (λ m. range_with_len 0 n ++ m ∷ []) same

-- The writes at all places

writes_append : (works : List Work) (places more : List ℕ) (s : Contents) → after_writes s works (places ++ more) ≡ after_writes (after_writes s works places) works more
writes_append works [] more s = refl
writes_append works (place ∷ places) more s = writes_append works places more (with_records s (written_records (work_at works place)))

writes_stay : (works : List Work) (w : Work) (k n : ℕ) (s : Contents) → k + n ≤ length works → after_writes s (works ++ w ∷ []) (range_with_len k n) ≡ after_writes s works (range_with_len k n)
writes_stay works w k zero s within = refl
writes_stay works w k (suc n) s within =
    ap (λ x. after_writes (with_records s (written_records x)) (works ++ w ∷ []) (range_with_len (k + 1) n)) (get_or_append_left works (w ∷ []) no_work k (omega (arith, within)))
    ∙ writes_stay works w (k + 1) n (with_records s (written_records (work_at works k))) (omega (arith, within))

last_work : (works : List Work) (w : Work) → work_at (works ++ w ∷ []) (length works) ≡ w
last_work [] w = refl
last_work (x ∷ works) w = last_work works w

-- the writes of one work more
pub one_work_more : (works : List Work) (w : Work) (n : ℕ) (s : Contents) → n ≡ length works → after_writes s (works ++ w ∷ []) (range_with_len 0 n ++ length works ∷ []) ≡ with_records (after_writes s works (range_with_len 0 n)) (written_records w)
one_work_more works w n s is =
    writes_append (works ++ w ∷ []) (range_with_len 0 n) (length works ∷ []) s
    ∙ (λ i. with_records (writes_stay works w 0 n s (omega (arith, is)) i) (written_records (last_work works w i)))

-- What is reserved, and for whom.
use Rattle.std.proofs.Common.{◌≡◌, ◌∙◌, ℕ, zero, suc, ◌+◌, ◌<◌, ◌≤◌, min, Bool, true, false, true≢false, cond, ◌||◌, List, [], ◌∷◌, ◌++◌, map as over, length, take, Option, Some, None, refl, sym, ap, arith}
use Rattle.std.specs.Prelude.{slice_index_or}
use Rattle.std.specs.List.{list_any, position_from}
use Rattle.std.specs.Ordering.{eq_by_cmp}
use Rattle.std.specs.FinMap as finite
use Rattle.std.specs.FinSet as set
use Rattle.std.proofs.lemmas.Bool.{lt-ltb, le-ltb, leb-true, leb-false}
use Rattle.std.proofs.lemmas.List.{take_more, length-map, length-take-le, map-append}
use Rattle.sf_value.specs.Keys.{Key, key_cmp, key_of}
use Rattle.sf_value.specs.declared.value.Ref.{Ref}
use Rattle.sf_value.proofs.Maps.{key_total, key_exact, tied_key}
use Rattle.serial_order.specs.ConflictFree.{Access}
use Rattle.keyed_state.specs.declared.Work.{Work}
use Rattle.keyed_state.specs.Works.{keys_of}
use Rattle.reservations.specs.Accesses.{access_of_work, accesses_of}
use Rattle.reservations.specs.Reservations.{Reserved, least_with, keeps, reserved_if, first_writer, is_before}
use Rattle.reservations.proofs.SetLaws.{one_writes}

-- One reservation

-- what is put where it stands already changes nothing
put_again : (reserved : Reserved) (k : Key) (place : ℕ) → finite.get reserved k ≡ Some place → finite.insert reserved k place ≡ reserved
put_again reserved k place is = finite.same_map key_total key_exact (finite.insert reserved k place) reserved (λ q. finite.get-insert key_total reserved k place q ∙ by q (eq_by_cmp key_cmp q k) refl)
  where
    by : (q : Key) (b : Bool) → eq_by_cmp key_cmp q k ≡ b → cond b (Some place) (finite.get reserved q) ≡ finite.get reserved q
    by q true tie = sym (ap (finite.get reserved) (tied_key q k tie) ∙ is)
    by q false tie = refl

-- a reservation that stays is what is put again
pub kept_stays : (reserved : Reserved) (k : Key) (place : ℕ) (before : Option ℕ) → before ≡ finite.get reserved k → keeps before place ≡ true → reserved ≡ finite.insert reserved k (least_with (finite.get reserved k) place)
kept_stays reserved k place None is stays = absurd (true≢false (sym stays))
kept_stays reserved k place (Some kept) is stays =
    let low : kept ≤ place = leb-true kept place stays in
    let least : min kept place ≡ kept = omega arith in
    sym (ap (λ o. finite.insert reserved k (least_with o place)) (sym is) ∙ ap (finite.insert reserved k) least ∙ put_again reserved k kept (sym is))

-- and else the new place is the least
pub new_least : (before : Option ℕ) (place : ℕ) → keeps before place ≡ false → least_with before place ≡ place
new_least None place goes = refl
new_least (Some kept) place goes = let high : place < kept = leb-false kept place goes in omega arith

twice : (before : Option ℕ) (place : ℕ) → least_with (Some (least_with before place)) place ≡ least_with before place
twice None place = omega arith
twice (Some reserved) place = omega arith

reserved_twice : (a b : Bool) (before : Option ℕ) (place : ℕ) → reserved_if a (reserved_if b before place) place ≡ reserved_if (a || b) before place
reserved_twice true true before place = ap Some (twice before place)
reserved_twice true false before place = refl
reserved_twice false b before place = refl

-- one entity more is reserved
pub one_more_reserved : (old now new : Reserved) (place : ℕ) (refs more : List Ref) (at : Ref) → more ≡ refs ++ at ∷ [] → new ≡ finite.insert now (key_of at) (least_with (finite.get now (key_of at)) place)
    → ((q : Key) → finite.get now q ≡ reserved_if (set.contains (keys_of refs) q) (finite.get old q) place)
    → (q : Key) → finite.get new q ≡ reserved_if (set.contains (keys_of more) q) (finite.get old q) place
one_more_reserved old now new place refs more at is made before q =
    ap (λ m. finite.get m q) made
    ∙ finite.get-insert key_total now (key_of at) (least_with (finite.get now (key_of at)) place) q
    ∙ here (eq_by_cmp key_cmp q (key_of at)) refl
    ∙ ap (λ o. reserved_if (eq_by_cmp key_cmp q (key_of at)) o place) (before q)
    ∙ reserved_twice (eq_by_cmp key_cmp q (key_of at)) (set.contains (keys_of refs) q) (finite.get old q) place
    ∙ ap (λ b. reserved_if b (finite.get old q) place) (sym (ap (λ keys. set.contains keys q) keys ∙ set.contains-insert key_total (keys_of refs) (key_of at) q))
  where
    here : (b : Bool) → eq_by_cmp key_cmp q (key_of at) ≡ b → cond b (Some (least_with (finite.get now (key_of at)) place)) (finite.get now q) ≡ reserved_if b (finite.get now q) place
    here true tie = ap (λ key. Some (least_with (finite.get now key) place)) (sym (tied_key q (key_of at) tie))
    here false tie = refl

    keys : keys_of more ≡ set.insert (keys_of refs) (key_of at)
    keys = ap keys_of is ∙ ap set.from_list (map-append key_of refs (at ∷ [])) ∙ set.from_list_push key_total key_exact (over key_of refs) (key_of at)

-- The first that passes, in a list whose places begin at a number

module _ (t : Access → Bool) where
  with_one_more : (from : ℕ) (xs : List Access) (a : Access) → reserved_if (t a) (position_from t from xs) (from + length xs) ≡ position_from t from (xs ++ a ∷ [])
  with_one_more from [] a = let same : from + 0 ≡ from = omega arith in ap (λ n. cond (t a) (Some n) None) same
  with_one_more from (x ∷ xs) a = by (t x) (t a) (with_one_more (from + 1) xs a)
    where
      by : (first last : Bool) → reserved_if last (position_from t (from + 1) xs) (from + 1 + length xs) ≡ position_from t (from + 1) (xs ++ a ∷ [])
          → reserved_if last (cond first (Some from) (position_from t (from + 1) xs)) (from + suc (length xs)) ≡ cond first (Some from) (position_from t (from + 1) (xs ++ a ∷ []))
      by true true later = let same : min from (from + suc (length xs)) ≡ from = omega arith in ap Some same
      by true false later = refl
      by false last later = let same : from + suc (length xs) ≡ from + 1 + length xs = omega arith in ap (reserved_if last (position_from t (from + 1) xs)) same ∙ later

  not_before : (from : ℕ) (xs : List Access) (place : ℕ) → place ≤ from → is_before (position_from t from xs) place ≡ false
  not_before from [] place low = refl
  not_before from (x ∷ xs) place low = by (t x) (not_before (from + 1) xs place (omega arith))
    where
      by : (b : Bool) → is_before (position_from t (from + 1) xs) place ≡ false → is_before (cond b (Some from) (position_from t (from + 1) xs)) place ≡ false
      by true later = le-ltb from place low
      by false later = later

  -- it comes before a place exactly where one before that place passes
  before_is : (from i : ℕ) (xs : List Access) → is_before (position_from t from xs) (from + i) ≡ list_any t (take i xs)
  before_is from zero xs = not_before from xs (from + 0) (omega arith)
  before_is from (suc i) [] = refl
  before_is from (suc i) (x ∷ xs) = by (t x) (before_is (from + 1) i xs)
    where
      by : (b : Bool) → is_before (position_from t (from + 1) xs) (from + 1 + i) ≡ list_any t (take i xs) → is_before (cond b (Some from) (position_from t (from + 1) xs)) (from + suc i) ≡ (b || list_any t (take i xs))
      by true later = lt-ltb from (from + suc i) (omega arith)
      by false later = let same : from + suc i ≡ from + 1 + i = omega arith in ap (is_before (position_from t (from + 1) xs)) same ∙ later

pub written_before : (batch : List Access) (place : ℕ) (q : Key) → is_before (first_writer batch q) place ≡ one_writes (take place batch) q
written_before batch place q = let same : 0 + place ≡ place = omega arith in ap (is_before (first_writer batch q)) (sym same) ∙ before_is (λ a. set.contains a.writes q) 0 place batch

-- Works so far

accesses_more : (works : List Work) (i : ℕ) (w : Work) → i < length works → w ≡ slice_index_or works i w → accesses_of (take (i + 1) works) ≡ accesses_of (take i works) ++ access_of_work w ∷ []
accesses_more works i w within is = ap accesses_of (take_more works i w within ∙ ap (λ x. take i works ++ x ∷ []) (sym is)) ∙ map-append access_of_work (take i works) (w ∷ [])

pub writers_more : (works : List Work) (i : ℕ) (w : Work) (now new : Reserved) → i < length works → w ≡ slice_index_or works i w
    → ((q : Key) → finite.get now q ≡ first_writer (accesses_of (take i works)) q)
    → ((q : Key) → finite.get new q ≡ reserved_if (set.contains (keys_of w.writes) q) (finite.get now q) i)
    → (q : Key) → finite.get new q ≡ first_writer (accesses_of (take (i + 1) works)) q
writers_more works i w now new within is before made q =
    let mapped = length-map (take i works) access_of_work in
    let taken = length-take-le i works (omega arith) in
    let count : i ≡ 0 + length (accesses_of (take i works)) = omega arith in
    made q
    ∙ ap (λ o. reserved_if (set.contains (keys_of w.writes) q) o i) (before q)
    ∙ ap (reserved_if (set.contains (keys_of w.writes) q) (first_writer (accesses_of (take i works)) q)) count
    ∙ with_one_more (λ a. set.contains a.writes q) 0 (accesses_of (take i works)) (access_of_work w)
    ∙ ap (λ l. first_writer l q) (sym (accesses_more works i w within is))

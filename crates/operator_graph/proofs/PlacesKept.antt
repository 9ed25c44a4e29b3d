-- The places of the flights that go on: how many they are, which is the one of a number, and what becomes of them where a flight takes a step.
use Rattle.std.proofs.Common.{◌≡◌, ◌∙◌, ℕ, zero, suc, arith, ◌+◌, ◌%◌, ◌<◌, ◌≤◌, Bool, true, false, List, [], ◌∷◌, ◌++◌, Some, length, take, drop, get_or, refl, sym, ap}
use Rattle.std.specs.Prelude.{slice_get, slice_set}
use Rattle.std.proofs.lemmas.List.{append_assoc, append-nil}
use Rattle.std.proofs.lemmas.Option.{same_Some, none-some}
use Rattle.std.proofs.Math.Nat.{mod-lt}
use Rattle.std.proofs.Math.ListN.{drop_of_length-le}
use Rattle.transaction_steps.specs.Transactions.{is_done}
use Rattle.operator_graph.specs.declared.flight.Flight.{Flight}
use Rattle.operator_graph.specs.Going.{going, place_going, places_going}
use Rattle.operator_graph.proofs.GoingLaws.{from_item, plus_one, none_going, done_first, going_first, place_past, place_here, place_later, no_places, places_past, places_here}
use Rattle.operator_graph.proofs.TurnsTaken.{IsPick}

-- How many

pub as_many_places : (i : ℕ) (fs : List Flight) → length (places_going i fs) ≡ going fs
as_many_places i [] = ap length (no_places i) ∙ sym none_going
as_many_places i (f ∷ fs) = by (is_done f.next.kind) refl (as_many_places (suc i) fs)
  where
    by : (b : Bool) → is_done f.next.kind ≡ b → length (places_going (suc i) fs) ≡ going fs → length (places_going i (f ∷ fs)) ≡ going (f ∷ fs)
    by true over rest = ap length (places_past i f fs over) ∙ rest ∙ sym (done_first f fs over)
    by false runs rest = ap length (places_here i f fs runs) ∙ ap suc rest ∙ sym (going_first f fs runs)

pub few_go_on : (fs : List Flight) → going fs ≤ length fs
few_go_on [] = let none : going [] ≡ 0 = none_going in omega (arith, none)
few_go_on (f ∷ fs) = by (is_done f.next.kind) refl (few_go_on fs)
  where
    by : (b : Bool) → is_done f.next.kind ≡ b → going fs ≤ length fs → going (f ∷ fs) ≤ suc (length fs)
    by true over rest = let same : going (f ∷ fs) ≡ going fs = done_first f fs over in omega (arith, same, rest)
    by false runs rest = let more : going (f ∷ fs) ≡ suc (going fs) = going_first f fs runs in omega (arith, more, rest)

-- Which one

abbrev PlaceIs : ℕ → List Flight → ℕ → Type 0
PlaceIs i fs k = k < going fs → slice_get (places_going i fs) k ≡ Some (i + place_going k fs)

place_past_over : (i : ℕ) (f : Flight) (fs : List Flight) (k : ℕ) → is_done f.next.kind ≡ true → PlaceIs (suc i) fs k → PlaceIs i (f ∷ fs) k
place_past_over i f fs k over rest few =
    let same : going (f ∷ fs) ≡ going fs = done_first f fs over in
    let past : place_going k (f ∷ fs) ≡ suc (place_going k fs) = place_past k f fs over in
    ap (λ ps. slice_get ps k) (places_past i f fs over) ∙ rest (omega (arith, same, few)) ∙ ap Some (omega (arith, past))

place_of_one : (i : ℕ) (f : Flight) (fs : List Flight) (k : ℕ) → is_done f.next.kind ≡ false → ((j : ℕ) → PlaceIs (suc i) fs j) → PlaceIs i (f ∷ fs) k
place_of_one i f fs zero runs rest few = let first : place_going 0 (f ∷ fs) ≡ 0 = place_here f fs runs in ap (λ ps. slice_get ps 0) (places_here i f fs runs) ∙ ap Some (omega (arith, first))
place_of_one i f fs (suc j) runs rest few =
    let more : going (f ∷ fs) ≡ suc (going fs) = going_first f fs runs in
    let later : place_going (suc j) (f ∷ fs) ≡ suc (place_going j fs) = place_later j f fs runs in
    ap (λ ps. slice_get ps (suc j)) (places_here i f fs runs) ∙ rest j (omega (arith, more, few)) ∙ ap Some (omega (arith, later))

pub place_is : (i : ℕ) (fs : List Flight) (k : ℕ) → PlaceIs i fs k
place_is i [] k few = let none : going [] ≡ 0 = none_going in absurd (omega (arith, none, few))
place_is i (f ∷ fs) k few = by (is_done f.next.kind) refl (place_is (suc i) fs)
  where
    by : (b : Bool) → is_done f.next.kind ≡ b → ((j : ℕ) → PlaceIs (suc i) fs j) → slice_get (places_going i (f ∷ fs)) k ≡ Some (i + place_going k (f ∷ fs))
    by true over rest = place_past_over i f fs k over (rest k) few
    by false runs rest = place_of_one i f fs k runs rest few

pub pick_fits : (fs : List Flight) (places : List ℕ) (count pick : ℕ) → places ≡ places_going 0 fs → count ≡ length places → (count ≡ 0 → ⊥) → pick % count < going fs
pick_fits fs places zero pick are counted some = absurd (some refl)
pick_fits fs places (suc n) pick are counted some =
    let some_go : 0 < suc n = omega arith in
    let less : pick % suc n < suc n = mod-lt pick some_go in
    let same : suc n ≡ going fs = counted ∙ ap length are ∙ as_many_places 0 fs in
    omega (arith, less, same)

pub is_pick : (fs : List Flight) (places : List ℕ) (count pick place : ℕ) → places ≡ places_going 0 fs → count ≡ length places → (count ≡ 0 → ⊥) → slice_get places (pick % count) ≡ Some place → IsPick fs count pick place
is_pick fs places count pick place are counted some is =
    let few : pick % count < going fs = pick_fits fs places count pick are counted some in
    let at : place ≡ 0 + place_going (pick % count) fs = same_Some _ _ (sym is ∙ ap (λ ps. slice_get ps (pick % count)) are ∙ place_is 0 fs (pick % count) few) in
    record { is_count = counted ∙ ap length are ∙ as_many_places 0 fs; some = some; is_place = omega (arith, at) }

-- A step

abbrev Keeps : ℕ → List Flight → Flight → ℕ → Type 0
Keeps i fs new k = k < going fs → places_going i (slice_set fs (place_going k fs) new) ≡ places_going i fs

keeps_past : (i : ℕ) (f : Flight) (fs : List Flight) (new : Flight) (k : ℕ) → is_done f.next.kind ≡ true → Keeps (suc i) fs new k → Keeps i (f ∷ fs) new k
keeps_past i f fs new k over rest few =
    let same : going (f ∷ fs) ≡ going fs = done_first f fs over in
    ap (λ p. places_going i (slice_set (f ∷ fs) p new)) (place_past k f fs over) ∙ places_past i f (slice_set fs (place_going k fs) new) over ∙ rest (omega (arith, same, few)) ∙ sym (places_past i f fs over)

keeps_one : (i : ℕ) (f : Flight) (fs : List Flight) (new : Flight) (k : ℕ) → is_done new.next.kind ≡ false → is_done f.next.kind ≡ false → ((j : ℕ) → Keeps (suc i) fs new j) → Keeps i (f ∷ fs) new k
keeps_one i f fs new zero goes runs rest few = ap (λ p. places_going i (slice_set (f ∷ fs) p new)) (place_here f fs runs) ∙ places_here i new fs goes ∙ sym (places_here i f fs runs)
keeps_one i f fs new (suc j) goes runs rest few =
    let more : going (f ∷ fs) ≡ suc (going fs) = going_first f fs runs in
    ap (λ p. places_going i (slice_set (f ∷ fs) p new)) (place_later j f fs runs) ∙ places_here i f (slice_set fs (place_going j fs) new) runs ∙ ap (λ ps. i ∷ ps) (rest j (omega (arith, more, few))) ∙ sym (places_here i f fs runs)

-- one that goes on keeps its place
pub goes_on_there : (i : ℕ) (fs : List Flight) (new : Flight) → is_done new.next.kind ≡ false → (k : ℕ) → Keeps i fs new k
goes_on_there i [] new goes k few = let none : going [] ≡ 0 = none_going in absurd (omega (arith, none, few))
goes_on_there i (f ∷ fs) new goes k few = by (is_done f.next.kind) refl (goes_on_there (suc i) fs new goes)
  where
    by : (b : Bool) → is_done f.next.kind ≡ b → ((j : ℕ) → Keeps (suc i) fs new j) → places_going i (slice_set (f ∷ fs) (place_going k (f ∷ fs)) new) ≡ places_going i (f ∷ fs)
    by true over rest = keeps_past i f fs new k over (rest k) few
    by false runs rest = keeps_one i f fs new k goes runs rest few

abbrev Loses : ℕ → List Flight → Flight → ℕ → Type 0
Loses i fs new k = k < going fs → places_going i (slice_set fs (place_going k fs) new) ≡ take k (places_going i fs) ++ drop (suc k) (places_going i fs)

loses_past : (i : ℕ) (f : Flight) (fs : List Flight) (new : Flight) (k : ℕ) → is_done f.next.kind ≡ true → Loses (suc i) fs new k → Loses i (f ∷ fs) new k
loses_past i f fs new k over rest few =
    let same : going (f ∷ fs) ≡ going fs = done_first f fs over in
    ap (λ p. places_going i (slice_set (f ∷ fs) p new)) (place_past k f fs over) ∙ places_past i f (slice_set fs (place_going k fs) new) over ∙ rest (omega (arith, same, few))
    ∙ sym (ap (λ ps. take k ps ++ drop (suc k) ps) (places_past i f fs over))

loses_one : (i : ℕ) (f : Flight) (fs : List Flight) (new : Flight) (k : ℕ) → is_done new.next.kind ≡ true → is_done f.next.kind ≡ false → ((j : ℕ) → Loses (suc i) fs new j) → Loses i (f ∷ fs) new k
loses_one i f fs new zero ends runs rest few =
    ap (λ p. places_going i (slice_set (f ∷ fs) p new)) (place_here f fs runs) ∙ places_past i new fs ends ∙ sym (ap (λ ps. take 0 ps ++ drop 1 ps) (places_here i f fs runs))
loses_one i f fs new (suc j) ends runs rest few =
    let more : going (f ∷ fs) ≡ suc (going fs) = going_first f fs runs in
    ap (λ p. places_going i (slice_set (f ∷ fs) p new)) (place_later j f fs runs) ∙ places_here i f (slice_set fs (place_going j fs) new) runs ∙ ap (λ ps. i ∷ ps) (rest j (omega (arith, more, few)))
    ∙ sym (ap (λ ps. take (suc j) ps ++ drop (suc (suc j)) ps) (places_here i f fs runs))

-- one that is over then has none
pub ends_there : (i : ℕ) (fs : List Flight) (new : Flight) → is_done new.next.kind ≡ true → (k : ℕ) → Loses i fs new k
ends_there i [] new ends k few = let none : going [] ≡ 0 = none_going in absurd (omega (arith, none, few))
ends_there i (f ∷ fs) new ends k few = by (is_done f.next.kind) refl (ends_there (suc i) fs new ends)
  where
    by : (b : Bool) → is_done f.next.kind ≡ b → ((j : ℕ) → Loses (suc i) fs new j) → places_going i (slice_set (f ∷ fs) (place_going k (f ∷ fs)) new) ≡ take k (places_going i (f ∷ fs)) ++ drop (suc k) (places_going i (f ∷ fs))
    by true over rest = loses_past i f fs new k over (rest k) few
    by false runs rest = loses_one i f fs new k ends runs rest few

-- what was put at a place stands there
pub set_there : {A : Type 0} (xs : List A) (k : ℕ) (old new : A) → slice_get xs k ≡ Some old → slice_get (slice_set xs k new) k ≡ Some new
set_there [] k old new is = absurd (none-some old is)
set_there (x ∷ xs) zero old new is = refl
set_there (x ∷ xs) (suc k) old new is = set_there xs k old new is

-- the places behind a step
pub places_then : (fs after : List Flight) (places later : List ℕ) (count pick place : ℕ) (new : Flight) → IsPick fs count pick place → pick % count < going fs → places ≡ places_going 0 fs → after ≡ slice_set fs place new
    → (is_done new.next.kind ≡ true → later ≡ take (pick % count) places ++ drop (pick % count + 1) places) → (is_done new.next.kind ≡ false → later ≡ places) → later ≡ places_going 0 after
places_then fs after places later count pick place new is few are set taken kept = by (is_done new.next.kind) refl
  where
    at_last : places_going 0 (slice_set fs (place_going (pick % count) fs) new) ≡ places_going 0 after
    at_last = ap (λ p. places_going 0 (slice_set fs p new)) (sym is.is_place) ∙ ap (places_going 0) (sym set)

    by : (b : Bool) → is_done new.next.kind ≡ b → later ≡ places_going 0 after
    by true ends =
        taken ends ∙ ap (λ n. take (pick % count) places ++ drop n places) (plus_one (pick % count)) ∙ ap (λ ps. take (pick % count) ps ++ drop (suc (pick % count)) ps) are
        ∙ sym (ends_there 0 fs new ends (pick % count) few) ∙ at_last
    by false goes = kept goes ∙ are ∙ sym (goes_on_there 0 fs new goes (pick % count) few) ∙ at_last

-- The loop over the flights

-- what is put behind the places of the flights before
pub record IsPlaced (fs : List Flight) (i : ℕ) (made : List ℕ) : Type 0 where
  pub so_far : made ++ places_going i (drop i fs) ≡ places_going 0 fs

pub placed_none : (fs : List Flight) (made : List ℕ) → made ≡ [] → IsPlaced fs 0 made
placed_none fs made none = record { so_far = ap (λ ms. ms ++ places_going 0 fs) none }

pub placed_past : (fs : List Flight) (i : ℕ) (made : List ℕ) (f : Flight) → i < length fs → f ≡ get_or fs i f → is_done f.next.kind ≡ true → IsPlaced fs i made → IsPlaced fs (i + 1) made
placed_past fs i made f within is over so = record {
  so_far =
      ap (λ n. made ++ places_going n (drop (i + 1) fs)) (plus_one i)
      ∙ sym (ap (λ xs. made ++ places_going i xs) (from_item fs i f within is) ∙ ap (λ ps. made ++ ps) (places_past i f (drop (i + 1) fs) over)) ∙ so.so_far;
}

pub placed_one : (fs : List Flight) (i : ℕ) (made more : List ℕ) (f : Flight) → i < length fs → f ≡ get_or fs i f → is_done f.next.kind ≡ false → more ≡ made ++ i ∷ [] → IsPlaced fs i made → IsPlaced fs (i + 1) more
placed_one fs i made more f within is runs one so = record {
  so_far =
      ap (λ ms. ms ++ places_going (i + 1) (drop (i + 1) fs)) one ∙ append_assoc made (i ∷ []) (places_going (i + 1) (drop (i + 1) fs))
      ∙ ap (λ n. made ++ i ∷ places_going n (drop (i + 1) fs)) (plus_one i)
      ∙ sym (ap (λ xs. made ++ places_going i xs) (from_item fs i f within is) ∙ ap (λ ps. made ++ ps) (places_here i f (drop (i + 1) fs) runs)) ∙ so.so_far;
}

pub placed_all : (fs : List Flight) (i : ℕ) (made : List ℕ) → length fs ≤ i → IsPlaced fs i made → made ≡ places_going 0 fs
placed_all fs i made past so = sym (append-nil made) ∙ sym (ap (λ xs. made ++ places_going i xs) (drop_of_length-le fs past) ∙ ap (λ ps. made ++ ps) (no_places i)) ∙ so.so_far

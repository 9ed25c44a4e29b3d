-- Which flights go on, one after another.
use Rattle.std.proofs.Common.{◌≡◌, ◌∙◌, ℕ, suc, arith, ◌+◌, ◌<◌, true, false, List, [], ◌∷◌, length, drop, get_or, refl, sym, ap}
use Rattle.std.specs.Prelude.{if◌then◌else◌}
use Rattle.std.proofs.Math.Seq.{drop-cons}
use Rattle.transaction_steps.specs.Transactions.{is_done}
use Rattle.operator_graph.specs.declared.flight.Flight.{Flight}
use Rattle.operator_graph.specs.Going.{going, here_or, place_going, places_going}

pub plus_one : (n : ℕ) → n + 1 ≡ suc n
plus_one n = omega arith

-- what is left of a list, from the item at a place on
pub from_item : {A : Type 0} (xs : List A) (i : ℕ) (x : A) → i < length xs → x ≡ get_or xs i x → drop i xs ≡ x ∷ drop (i + 1) xs
from_item xs i x within is = drop-cons xs i x within ∙ ap (λ y. y ∷ drop (suc i) xs) (sym is) ∙ ap (λ k. x ∷ drop k xs) (sym (plus_one i))

-- How many

pub none_going : going [] ≡ 0
unfolding going
none_going = refl

pub done_first : (f : Flight) (fs : List Flight) → is_done f.next.kind ≡ true → going (f ∷ fs) ≡ going fs
unfolding going
done_first f fs over = ap (λ b. if b then going fs else suc (going fs)) over

pub going_first : (f : Flight) (fs : List Flight) → is_done f.next.kind ≡ false → going (f ∷ fs) ≡ suc (going fs)
unfolding going
going_first f fs runs = ap (λ b. if b then going fs else suc (going fs)) runs

-- Places

pub place_past : (k : ℕ) (f : Flight) (fs : List Flight) → is_done f.next.kind ≡ true → place_going k (f ∷ fs) ≡ suc (place_going k fs)
unfolding place_going
place_past k f fs over = ap (λ b. if b then suc (place_going k fs) else here_or k (λ j. place_going j fs)) over

pub place_here : (f : Flight) (fs : List Flight) → is_done f.next.kind ≡ false → place_going 0 (f ∷ fs) ≡ 0
unfolding place_going
place_here f fs runs = ap (λ b. if b then suc (place_going 0 fs) else 0) runs

pub place_later : (k : ℕ) (f : Flight) (fs : List Flight) → is_done f.next.kind ≡ false → place_going (suc k) (f ∷ fs) ≡ suc (place_going k fs)
unfolding place_going
place_later k f fs runs = ap (λ b. if b then suc (place_going (suc k) fs) else suc (place_going k fs)) runs

-- the places of those that go on

pub no_places : (i : ℕ) → places_going i [] ≡ []
unfolding places_going
no_places i = refl

pub places_past : (i : ℕ) (f : Flight) (fs : List Flight) → is_done f.next.kind ≡ true → places_going i (f ∷ fs) ≡ places_going (suc i) fs
unfolding places_going
places_past i f fs over = ap (λ b. if b then places_going (suc i) fs else i ∷ places_going (suc i) fs) over

pub places_here : (i : ℕ) (f : Flight) (fs : List Flight) → is_done f.next.kind ≡ false → places_going i (f ∷ fs) ≡ i ∷ places_going (suc i) fs
unfolding places_going
places_here i f fs runs = ap (λ b. if b then places_going (suc i) fs else i ∷ places_going (suc i) fs) runs

-- Marks that are put one by one, each on a method that may suspend, until they are closed.
use Rattle.std.proofs.Common.{inl, inr, zero, suc, ◌≡◌, ℕ, arith, ◌<◌, Bool, true, false, List, [], ◌∷◌, ◌++◌, length, get_or, set, get_or-set_other, Some, refl, sym, ap, ◌∙◌}
use Rattle.std.specs.Prelude.{sum_by, slice_get, Contains}
use Rattle.std.specs.List.{list_any}
use Rattle.std.proofs.lemmas.Bool.{cases_eq}
use Rattle.std.proofs.lemmas.List.Sums.{sum_by-set}
use Rattle.std.proofs.lemmas.List.Folds.{Any-from_list_any, list_any_at}
use Rattle.std.proofs.lemmas.Option.{get_or_from_slice_get, slice_get-get_or}
use Rattle.call_graph.specs.declared.sites.Site.{Site}
use Rattle.call_graph.specs.declared.sites.Site.TheVariants.{Own, Away}
use Rattle.call_graph.specs.Marks.{marked, suspends, MayLeave, leaves, calls, AreExact, IsNext, IsClosed}

-- how many have no mark
abbrev counted : Bool → ℕ
counted true = 0
counted false = 1

abbrev pub left : List Bool → ℕ
left = sum_by counted

pub fewer_left : (rows : List (List Site)) (marks : List Bool) (i : ℕ) → IsNext rows marks i → left (set marks i true) < left marks
fewer_left rows marks i next =
    let was : counted (get_or marks i false) ≡ 1 = ap counted next.has_no_mark in
    omega (arith, sum_by-set counted marks i true false next.within, was)

-- only methods that may suspend have a mark
pub record AreSound (rows : List (List Site)) (marks : List Bool) : Type 0 where
  pub sound : (method : ℕ) → marked marks method ≡ true → MayLeave rows method

one_leaves : (rows : List (List Site)) (marks : List Bool) → AreSound rows marks → (method : ℕ) (row : List Site) → slice_get rows method ≡ Some row → (site : Site) → Contains row site → suspends marks site ≡ true → MayLeave rows method
one_leaves rows marks so_far method row is Away among holds = leaves method row is among
one_leaves rows marks so_far method row is (Own called) among holds = calls method called row is among (so_far.sound called holds)

pub may_leave : (rows : List (List Site)) (marks : List Bool) → AreSound rows marks → (method : ℕ) → method < length rows → list_any (suspends marks) (get_or rows method []) ≡ true → MayLeave rows method
may_leave rows marks so_far method within holds =
    let found = Any-from_list_any (suspends marks) (get_or rows method []) holds in
    one_leaves rows marks so_far method (get_or rows method []) (slice_get-get_or rows method [] within) found.1 (found.0, found.2, found.3) found.4

pub sound_more : (rows : List (List Site)) (marks : List Bool) (i : ℕ) → length marks ≡ length rows → AreSound rows marks → IsNext rows marks i → AreSound rows (set marks i true)
sound_more rows marks i as_many so_far next = record {
  sound = λ method is. elim (cases_eq method i) [
    | inl same ↦ let within : method < length rows = omega (arith, next.within) in may_leave rows marks so_far method within (ap (λ m. list_any (suspends marks) (get_or rows m [])) same ∙ next.holds)
    | inr other ↦ so_far.sound method (sym (get_or-set_other marks i method true false other) ∙ is)
  ];
}

still_none : (marks : List Bool) (method : ℕ) → marked marks method ≡ false → marked (marks ++ false ∷ []) method ≡ false
still_none [] zero none = refl
still_none [] (suc method) none = refl
still_none (b ∷ marks) zero none = none
still_none (b ∷ marks) (suc method) none = still_none marks method none

-- one more without a mark
pub none_more : (old new : List Bool) → ((method : ℕ) → marked old method ≡ false) → new ≡ old ++ false ∷ [] → (method : ℕ) → marked new method ≡ false
none_more old new none more method = ap (λ marks. marked marks method) more ∙ still_none old method (none method)

pub sound_none : (rows : List (List Site)) (marks : List Bool) → ((method : ℕ) → marked marks method ≡ false) → AreSound rows marks
sound_none rows marks none = record { sound = λ method is. let no = none method in absurd (cc) }

holds_one : (rows : List (List Site)) (marks : List Bool) → IsClosed rows marks → (method : ℕ) (row : List Site) → slice_get rows method ≡ Some row → (site : Site) → Contains row site → suspends marks site ≡ true → marked marks method ≡ true
holds_one rows marks closed method row is site among holds =
    let any = list_any_at (suspends marks) row among.0 site among.1 (ap (suspends marks) among.2 ∙ holds) in
    closed method (ap (list_any (suspends marks)) (get_or_from_slice_get rows method row [] is) ∙ any)

-- closed marks have all methods that may suspend
pub complete : (rows : List (List Site)) (marks : List Bool) → IsClosed rows marks → (method : ℕ) → MayLeave rows method → marked marks method ≡ true
complete rows marks closed _ (leaves method row is among) = holds_one rows marks closed method row is Away among refl
complete rows marks closed _ (calls method called row is among more) = holds_one rows marks closed method row is (Own called) among (complete rows marks closed called more)

pub exact : (rows : List (List Site)) (marks : List Bool) → length marks ≡ length rows → AreSound rows marks → IsClosed rows marks → AreExact rows marks
exact rows marks as_many so_far closed = record { each = as_many; exact = λ method. (so_far.sound method, complete rows marks closed method) }

pub ruleset closure_laws = (fewer_left, sound_more, sound_none, exact)

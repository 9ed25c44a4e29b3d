-- Tests of sets by lists, and of lists by one another.
use Rattle.std.proofs.Common.{◌≡◌, ◌∙◌, Bool, true, false, true≢false, ◌||◌, List, [], ◌∷◌, map as over, refl, sym, ap}
use Rattle.std.specs.Prelude.{is_some}
use Rattle.std.specs.List.{list_any}
use Rattle.std.specs.FinMap as finite
use Rattle.std.specs.FinSet as set
use Rattle.std.proofs.lemmas.Bool.{false_from_ne_true}
use Rattle.sf_value.specs.Keys.{Key, key_of}
use Rattle.sf_value.specs.declared.value.Ref.{Ref}
use Rattle.sf_value.proofs.Maps.{key_total}
use Rattle.keyed_state.specs.Works.{Keys, keys_of}
use Rattle.reservations.specs.Reservations.{Reserved}
use Rattle.batch_reorder.specs.Conflicts.{meets}
use Rattle.batch_reorder.specs.MeetingLaws.{one_key_passes, passes_by_key}
use Rattle.batch_reorder.specs.Turns.{is_taken}

same_test : (a b : Bool) → (a ≡ true → b ≡ true) → (b ≡ true → a ≡ true) → a ≡ b
same_test true b to from = sym (to refl)
same_test false b to from = sym (false_from_ne_true b (λ h. true≢false (sym (from h))))

-- a set meets that of a list where one of the list is in it
pub meets_list : (a : Keys) (keys : List Key) → meets a (set.from_list keys) ≡ list_any (set.contains a) keys
meets_list a keys =
    same_test (meets a (set.from_list keys)) (list_any (set.contains a) keys)
    (one_key_passes (set.contains a) {P = list_any (set.contains a) keys ≡ true} (set.items (set.from_list keys))
    (λ q among passes. passes_by_key (set.contains a) keys q (sym (set.contains-from_list key_total keys q) ∙ set.contains-items (set.from_list keys) q ∙ among) passes))
    (one_key_passes (set.contains a) {P = meets a (set.from_list keys) ≡ true} keys
    (λ q among passes. passes_by_key (set.contains a) (set.items (set.from_list keys)) q (sym (set.contains-items (set.from_list keys) q) ∙ set.contains-from_list key_total keys q ∙ among) passes))

any_of_keys : (p : Key → Bool) (refs : List Ref) → list_any p (over key_of refs) ≡ list_any (λ at. p (key_of at)) refs
any_of_keys p [] = refl
any_of_keys p (at ∷ refs) = ap (λ b. p (key_of at) || b) (any_of_keys p refs)

-- Two lists, tested by pairs

or_mixed : (a b c d : Bool) → ((a || b) || (c || d)) ≡ ((a || c) || (b || d))
or_mixed true b c d = refl
or_mixed false true true d = refl
or_mixed false true false d = refl
or_mixed false false c d = refl

module _ {X : Type 0} where
  none_of : (xs : List X) → false ≡ list_any (λ x. false) xs
  none_of [] = refl
  none_of (x ∷ xs) = none_of xs

  any_of_two : (p q : X → Bool) (xs : List X) → (list_any p xs || list_any q xs) ≡ list_any (λ x. p x || q x) xs
  any_of_two p q [] = refl
  any_of_two p q (x ∷ xs) = or_mixed (p x) (list_any p xs) (q x) (list_any q xs) ∙ ap (λ b. (p x || q x) || b) (any_of_two p q xs)

  any_swapped : {Y : Type 0} (r : X → Y → Bool) (xs : List X) (ys : List Y) → list_any (λ y. list_any (λ x. r x y) xs) ys ≡ list_any (λ x. list_any (r x) ys) xs
  any_swapped r xs [] = none_of xs
  any_swapped r xs (y ∷ ys) = ap (λ b. list_any (λ x. r x y) xs || b) (any_swapped r xs ys) ∙ any_of_two (λ x. r x y) (λ x. list_any (r x) ys) xs

  -- where a table tells which entities are in one of these sets, one of a list is reserved where one of the sets meets it
  pub taken_is : (part : X → Keys) (xs : List X) (reserved : Reserved) → ((q : Key) → is_some (finite.get reserved q) ≡ list_any (λ x. set.contains (part x) q) xs)
      → (refs : List Ref) → list_any (is_taken reserved) refs ≡ list_any (λ x. meets (part x) (keys_of refs)) xs
  taken_is part xs reserved is refs =
      (λ i. list_any (λ at. is (key_of at) i) refs)
      ∙ any_swapped (λ x at. set.contains (part x) (key_of at)) xs refs
      ∙ (λ i. list_any (λ x. sym (meets_list (part x) (over key_of refs) ∙ any_of_keys (set.contains (part x)) refs) i) xs)

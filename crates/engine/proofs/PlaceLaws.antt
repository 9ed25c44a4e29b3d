-- Requests at places of a list, where each place is met once.
use Rattle.std.proofs.Common.{◌≡◌, ℕ, zero, suc, ◌+◌, ◌<◌, List, [], ◌∷◌, ◌++◌, map as over, length, get_or, Option, None, Some, refl, sym, ap, ◌∙◌, subst, arith}
use Rattle.std.specs.List.{slice_get, range_with_len, All, AllByRecursion, cons_option}
use Rattle.std.specs.List.Sorted.{IsPermutation}
use Rattle.std.proofs.lemmas.List.{length-append}
use Rattle.std.proofs.lemmas.List.Elements.{filter_map-append, All-head, All-tail}
use Rattle.std.proofs.lemmas.List.FromFn.{length-range_with_len, get_or-range_with_len, fill_by_all}
use Rattle.std.proofs.lemmas.List.Sorted.{All-permutation, IsPermutation-map, length_permutation}
use Rattle.std.proofs.lemmas.Option.{none-some, slice_get-get_or}
use Rattle.sf_value.specs.declared.Act.TheVariants as act
use Rattle.sf_value.specs.declared.Request.{Request}
use Rattle.engine.specs.Batches.{requests_at}

no_request : Request
no_request = record { id = []; act = act.New 0 [] }

module _ (requests : List Request) where
  at : ℕ → Request
  at place = get_or requests place no_request

  -- places in the list
  requests_there : (places : List ℕ) → All (λ place. place < length requests) places → requests_at requests places ≡ over at places
  unfolding at
  requests_there [] within = refl
  requests_there (place ∷ places) within =
      ap (λ o. cons_option o (requests_at requests places)) (slice_get-get_or requests place no_request (All-head (λ p. p < length requests) place places within))
      ∙ ap (λ l. at place ∷ l) (requests_there places (All-tail (λ p. p < length requests) place places within))

  every_place : (n : ℕ) → All (λ place. place < n) (range_with_len 0 n)
  every_place n = λ k d within.
      let count = length-range_with_len 0 n in
      let below : k < n = omega arith in
      let is = get_or-range_with_len 0 n k d below in
      omega arith

  all_there : over at (range_with_len 0 (length requests)) ≡ requests
  unfolding at
  all_there = sym (fill_by_all at requests (length requests) no_request refl (λ k within. refl))

  module _ (committed carried : List ℕ) (once : IsPermutation (range_with_len 0 (length requests)) (committed ++ carried)) where
    -- each request stands in one of the two lists, once
    pub requests_once : IsPermutation requests (requests_at requests committed ++ requests_at requests carried)
    requests_once =
        let within : All (λ place. place < length requests) (committed ++ carried) = All-permutation (λ place. place < length requests) (range_with_len 0 (length requests)) (committed ++ carried) once (every_place (length requests)) in
        let split = sym (requests_there (committed ++ carried) within) ∙ filter_map-append (slice_get requests) committed carried in
        subst (λ l. IsPermutation requests l) split
        (subst (λ l. IsPermutation l (over at (committed ++ carried))) all_there
        (IsPermutation-map at (range_with_len 0 (length requests)) (committed ++ carried) once))

    pub count_once : length (requests_at requests committed) + length (requests_at requests carried) ≡ length requests
    count_once = sym (length-append (requests_at requests committed) (requests_at requests carried)) ∙ length_permutation requests (requests_at requests committed ++ requests_at requests carried) requests_once

-- what holds of each request holds of those at places
module _ (P : Request → Type 0) where
  pub one_at : (requests : List Request) → AllByRecursion P requests → (place : ℕ) (r : Request) → slice_get requests place ≡ Some r → P r
  one_at [] all place r is = absurd (none-some r is)
  one_at (x ∷ xs) all zero r is = let same : x ≡ r = cc in subst P same all.0
  one_at (x ∷ xs) all (suc place) r is = one_at xs all.1 place r is

  pub each_at : (requests : List Request) → AllByRecursion P requests → (places : List ℕ) → AllByRecursion P (requests_at requests places)
  each_at requests all [] = tt
  each_at requests all (place ∷ places) = by (slice_get requests place) refl (each_at requests all places)
    where
      by : (o : Option Request) → slice_get requests place ≡ o → AllByRecursion P (requests_at requests places) → AllByRecursion P (cons_option o (requests_at requests places))
      by None is later = later
      by (Some r) is later = (one_at requests all place r is, later)

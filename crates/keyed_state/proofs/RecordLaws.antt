-- Records that are put one at a time, from the last one on.
use Rattle.std.proofs.Common.{◌≡◌, ◌∙◌, ◌↔◌, ℕ, ◌+◌, ◌-◌, ◌<◌, ◌≤◌, Bool, true, false, true≢false, cond, List, [], ◌∷◌, ◌++◌, take, drop, length, get_or, Some, refl, sym, ap, arith, add-one, drop-cons, length-append}
use Rattle.std.specs.Prelude.{filter, slice_get}
use Rattle.std.proofs.lemmas.List.{take_more, take_all, append-nil}
use Rattle.std.proofs.lemmas.List.Elements.{filter-append}
use Rattle.std.proofs.lemmas.Option.{get_or_from_slice_get}
use Rattle.std.proofs.Math.ListN.{drop_of_length-le}
use Rattle.std.specs.FinMap as finite
use Rattle.sf_value.specs.Keys.{key_of}
use Rattle.sf_value.specs.declared.value.Ref.{Ref}
use Rattle.sf_value.specs.declared.Held.{Held}
use Rattle.keyed_state.specs.Contents.{Contents}
use Rattle.keyed_state.specs.Works.{with_records, is_written}

with_records-append : (s : Contents) (xs ys : List Held) → with_records s (xs ++ ys) ≡ with_records (with_records s ys) xs
with_records-append s [] ys = refl
with_records-append s (x ∷ xs) ys = ap (λ m. finite.insert m (key_of x.at) x.fields.fields) (with_records-append s xs ys)

not_empty : {A : Type 0} (xs : List A) (b : Bool) → (b ≡ true) ↔ (xs ≡ []) → b ≡ false → 0 < length xs
not_empty [] b iff h = absurd (true≢false (sym (iff.1 refl) ∙ h))
not_empty (x ∷ xs) b iff h = omega arith

-- a list as its front and its last element, which was taken out
pub record IsLast {A : Type 0} (all front : List A) (last : A) : Type 0 where
  pub is : all ≡ front ++ last ∷ []
  pub length_is : length all ≡ length front + 1

pub last_taken : {A : Type 0} (all front : List A) (empty : Bool) (n : ℕ) (last : A) → (empty ≡ true) ↔ (all ≡ []) → empty ≡ false → n ≡ length all → slice_get all (n - 1) ≡ Some last → front ≡ take (n - 1) all ++ drop (n - 1 + 1) all
    → IsLast all front last
last_taken all front empty n last iff some count value rest =
    let more : 0 < length all = not_empty all empty iff some in
    let past : length all ≤ n - 1 + 1 = omega arith in
    let below : n - 1 < length all = omega arith in
    let front_is : front ≡ take (n - 1) all = rest ∙ ap (λ l. take (n - 1) all ++ l) (drop_of_length-le all past) ∙ append-nil (take (n - 1) all) in
    let all_is : all ≡ front ++ last ∷ [] = sym (take_all (n - 1 + 1) all past) ∙ take_more all (n - 1) last below ∙ ap (λ v. take (n - 1) all ++ v ∷ []) (get_or_from_slice_get all (n - 1) last last value) ∙ ap (λ l. l ++ last ∷ []) (sym front_is) in
    record { is = all_is; length_is = ap length all_is ∙ length-append front (last ∷ []) }

module _ (writes : List Ref) where
  abbrev pub written : List Held → List Held
  written held = filter (is_written writes) held

  -- the last record goes in first
  pub last_first : (s : Contents) (all front : List Held) (last : Held) → all ≡ front ++ last ∷ [] → with_records s (written all) ≡ with_records (with_records s (written (last ∷ []))) (written front)
  last_first s all front last is = ap (λ l. with_records s (written l)) is ∙ ap (with_records s) (filter-append (is_written writes) front (last ∷ [])) ∙ with_records-append s (written front) (written (last ∷ []))

  pub count_of_last : (all front : List Held) (last : Held) → all ≡ front ++ last ∷ [] → length (written all) ≡ length (written front) + length (written (last ∷ []))
  count_of_last all front last is = ap (λ l. length (written l)) is ∙ ap length (filter-append (is_written writes) front (last ∷ [])) ∙ length-append (written front) (written (last ∷ []))

  pub one_put : (s : Contents) (h : Held) → is_written writes h ≡ true → with_records s (written (h ∷ [])) ≡ finite.insert s (key_of h.at) h.fields.fields
  one_put s h is = ap (λ b. with_records s (cond b (h ∷ []) [])) is

  pub none_put : (s : Contents) (h : Held) → is_written writes h ≡ false → with_records s (written (h ∷ [])) ≡ s
  none_put s h is = ap (λ b. with_records s (cond b (h ∷ []) [])) is

  pub one_counted : (h : Held) → is_written writes h ≡ true → length (written (h ∷ [])) ≡ 1
  one_counted h is = ap (λ b. length (cond b (h ∷ []) [])) is

  pub none_counted : (h : Held) → is_written writes h ≡ false → length (written (h ∷ [])) ≡ 0
  none_counted h is = ap (λ b. length (cond b (h ∷ []) [])) is

-- the next record of a list is counted, and then those behind it
pub count_of_next : (writes : List Ref) (all : List Held) (i : ℕ) (h : Held) → i < length all → h ≡ get_or all i h → length (written writes (drop i all)) ≡ length (written writes (h ∷ [])) + length (written writes (drop (i + 1) all))
count_of_next writes all i h within is =
    let next : drop i all ≡ h ∷ drop (i + 1) all = rw add-one (drop-cons all i h within) ∙ ap (λ x. x ∷ drop (i + 1) all) (sym is) in
    ap (λ l. length (written writes l)) next
    ∙ ap length (filter-append (is_written writes) (h ∷ []) (drop (i + 1) all))
    ∙ length-append (written writes (h ∷ [])) (written writes (drop (i + 1) all))

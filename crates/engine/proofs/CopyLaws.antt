-- Lists that a loop copies, element by element.
use Rattle.std.proofs.Common.{◌≡◌, ℕ, ◌+◌, ◌<◌, Bool, true, false, cond, not, ◌||◌, nat_eq, Option, List, [], ◌∷◌, ◌++◌, length, take, get_or, refl, sym, ap, ◌∙◌, arith, append-nil}
use Rattle.std.specs.Prelude.{filter, filter_map}
use Rattle.std.specs.List.{slice_get, list_any, range_with_len, cons_option}
use Rattle.std.proofs.lemmas.Cmp.{nat_eq_equiv}
use Rattle.std.proofs.lemmas.List.{take_more}
use Rattle.std.proofs.lemmas.List.Elements.{filter-append, filter_map-append}
use Rattle.sf_value.specs.declared.Entry.{Entry}
use Rattle.sf_value.specs.declared.Request.{Request}
use Rattle.ordered_runs.proofs.PlaceLaws.{one_place_more}
use Rattle.engine.specs.Batches.{requests_at, replies_from}

-- the next element is copied behind those before it
pub copied_more : {T : Type 0} (xs : List T) (i : ℕ) (x : T) → i < length xs → x ≡ get_or xs i x → take (i + 1) xs ≡ take i xs ++ x ∷ []
copied_more xs i x within is = take_more xs i x within ∙ ap (λ y. take i xs ++ y ∷ []) (sym is)

-- what the next place gives comes behind what those before it gave
pub given_more : {T : Type 0} (give : ℕ → Option T) (places : List ℕ) (i : ℕ) → i < length places → filter_map give (take (i + 1) places) ≡ filter_map give (take i places) ++ cons_option (give (get_or places i 0)) []
given_more give places i within = ap (filter_map give) (take_more places i 0 within) ∙ filter_map-append give (take i places) (get_or places i 0 ∷ [])

-- the next entry is replied to at the next place
pub reply_more : (place : ℕ) (es : List Entry) (e : Entry) → replies_from place (es ++ e ∷ []) ≡ replies_from place es ++ record { seq = place + length es; outcome = e.outcome } ∷ []
reply_more place [] e = let same : place ≡ place + 0 = omega arith in ap (λ n. record { seq = n; outcome = e.outcome } ∷ []) same
reply_more place (x ∷ es) e =
    let same : place + 1 + length es ≡ place + length (x ∷ es) = omega arith in
    ap (λ l. record { seq = place; outcome = x.outcome } ∷ l) (reply_more (place + 1) es e ∙ ap (λ n. replies_from (place + 1) es ++ record { seq = n; outcome = e.outcome } ∷ []) same)

-- The other places

any_flipped : (i : ℕ) (xs : List ℕ) → list_any (λ y. nat_eq y i) xs ≡ list_any (nat_eq i) xs
any_flipped i [] = refl
any_flipped i (x ∷ xs) = λ j. nat_eq_equiv.symm x i j || any_flipped i xs j

-- a place is none of these
abbrev is_other : List ℕ → ℕ → Bool
is_other places place = not (list_any (nat_eq place) places)

-- the request at the next place is copied, unless it is one of these
pub other_more : (requests : List Request) (places : List ℕ) (i : ℕ) (skipped : Bool) (o : Option Request) (copies more : List Request) → skipped ≡ list_any (λ y. nat_eq y i) places → o ≡ slice_get requests i
    → copies ≡ requests_at requests (filter (λ place. not (list_any (nat_eq place) places)) (range_with_len 0 i)) → more ≡ cond skipped copies (copies ++ cons_option o [])
    → more ≡ requests_at requests (filter (λ place. not (list_any (nat_eq place) places)) (range_with_len 0 (i + 1)))
other_more requests places i skipped o copies more skips there before is =
    is
    ∙ ap (λ b. cond b copies (copies ++ cons_option o [])) (skips ∙ any_flipped i places)
    ∙ by (list_any (nat_eq i) places)
    ∙ ap (requests_at requests) (sym (ap (filter (is_other places)) (one_place_more i) ∙ filter-append (is_other places) (range_with_len 0 i) (i ∷ [])))
  where
    by : (b : Bool) → cond b copies (copies ++ cons_option o []) ≡ requests_at requests (filter (is_other places) (range_with_len 0 i) ++ cond (not b) (i ∷ []) [])
    by true = before ∙ ap (requests_at requests) (sym (append-nil (filter (is_other places) (range_with_len 0 i))))
    by false = (λ j. before j ++ cons_option (there j) []) ∙ sym (filter_map-append (slice_get requests) (filter (is_other places) (range_with_len 0 i)) (i ∷ []))

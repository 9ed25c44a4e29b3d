-- The longest front of a text that is UTF-8 is the whole text, or ends before a byte that isn't ASCII.
use Rattle.std.proofs.Common.{◌≡◌, ℕ, zero, suc, ◌<◌, ◌≤◌, false, List, [], ◌∷◌, length, take, get_or, sym, subst, ◌∙◌, arith, ⊎_elim, true≢false}
use Rattle.std.specs.Prelude.{IsUtf8, slice_index}
use Rattle.std.specs.Str.{is_utf8}
use Rattle.std.specs.Str.Lossy.{valid_len_up_to, utf8_valid_len}
use Rattle.std.proofs.Math.Seq.{take-suc}
use Rattle.std.proofs.lemmas.Bool.{cases_Bool, cases_lt, cond-true, cond-false}
use Rattle.std.proofs.lemmas.Str.{IsUtf8-from_is_utf8, is_utf8-from_IsUtf8, IsUtf8-nil, IsUtf8-append, IsUtf8-from_ascii}
use Rattle.std.proofs.lemmas.Str.Ascii.{IsAscii-from_all}

-- the search comes to a front that is UTF-8
front : (bs : List ℕ) (m : ℕ) → IsUtf8 (take (valid_len_up_to bs m) bs)
front bs zero = IsUtf8-nil
front bs (suc m) = ⊎_elim
    (λ yes. subst (λ n. IsUtf8 (take n bs)) (sym (cond-true _ _ _ yes)) (IsUtf8-from_is_utf8 _ yes))
    (λ no. subst (λ n. IsUtf8 (take n bs)) (sym (cond-false _ _ _ no)) (front bs m))
    (cases_Bool (is_utf8 (take (suc m) bs)))

-- and one byte more is refused
refused : (bs : List ℕ) (m : ℕ) → valid_len_up_to bs m < m → is_utf8 (take (suc (valid_len_up_to bs m)) bs) ≡ false
refused bs zero less = absurd (omega (arith, less))
refused bs (suc m) less = ⊎_elim
    (λ yes. absurd (omega (arith, less, cond-true _ (suc m) (valid_len_up_to bs m) yes)))
    (λ no.
    let is : valid_len_up_to bs (suc m) ≡ valid_len_up_to bs m = cond-false _ _ _ no in
    subst (λ n. is_utf8 (take (suc n) bs) ≡ false) (sym is) (⊎_elim
    (λ below. refused bs m below)
    (λ above.
    let same : m ≡ valid_len_up_to bs m = omega (arith, less, is, above) in
    subst (λ n. is_utf8 (take (suc n) bs) ≡ false) same no)
    (cases_lt (valid_len_up_to bs m) m)))
    (cases_Bool (is_utf8 (take (suc m) bs)))

pub valid_is_utf8 : (bs : List ℕ) → IsUtf8 (take (utf8_valid_len bs) bs)
unfolding utf8_valid_len
valid_is_utf8 bs = front bs (length bs)

one_is_utf8 : (b : ℕ) → b < 128 → IsUtf8 (b ∷ [])
one_is_utf8 b ascii = IsUtf8-from_ascii (b ∷ []) (IsAscii-from_all (b ∷ []) (λ k d less.
    let first : 0 ≡ k = omega (arith, less) in
    subst (λ j. get_or (b ∷ []) j d < 128) first ascii))

-- a front that is UTF-8 goes on behind an ASCII byte
goes_on : (bs : List ℕ) (n : ℕ) → n < length bs → IsUtf8 (take n bs) → slice_index bs n < 128 → IsUtf8 (take (suc n) bs)
goes_on bs n within utf8 ascii = subst IsUtf8 (sym (take-suc bs n 0 within))
    (IsUtf8-append (take n bs) (slice_index bs n ∷ []) utf8 (one_is_utf8 (slice_index bs n) ascii))

pub stops_before_wide : (bs : List ℕ) → utf8_valid_len bs < length bs → 128 ≤ slice_index bs (utf8_valid_len bs)
unfolding utf8_valid_len
stops_before_wide bs less = ⊎_elim
    (λ ascii. absurd (true≢false (sym (is_utf8-from_IsUtf8 _ (goes_on bs _ less (front bs (length bs)) ascii)) ∙ refused bs (length bs) less)))
    (λ wide. wide)
    (cases_lt (slice_index bs (valid_len_up_to bs (length bs))) 128)

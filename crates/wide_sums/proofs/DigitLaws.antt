-- The digits of a number in two words.
use Rattle.std.proofs.Common.{ℕ, ◌≡◌, ◌+◌, ◌-◌, ◌*◌, ◌^◌, ◌<◌, ◌≤◌, ◌/◌, ◌%◌, ◌++◌, ◌∷◌, [], List, length, drop, slice_set, refl, sym, ap, ◌∙◌, arith, zero, suc, decimal, append-nil, append_assoc}
use Rattle.std.proofs.Math.Nat.{mul_assoc, mul_comm}
use Rattle.std.proofs.lemmas.Fmt.{decimal_step_wide}
use Rattle.std.proofs.lemmas.List.{drop-set}
use Rattle.std.specs.Prelude.{Bool, true, false, ℤ, pos, neg_ℤ}
use Rattle.std.specs.Fmt.{signed_decimal}
use Rattle.wide_sums.specs.Sums.{last_digits, signed}

at_least : (h p : ℕ) → 0 < h → p ≤ h * p
at_least zero p some = absurd (omega arith)
at_least (suc g) p some = omega arith

-- the digits of a number with so many behind those of another one
pub digits_behind : (k h l : ℕ) → 0 < h → l < 10 ^ k → h * 10 ^ k + l < 10 ^ 64 → decimal (h * 10 ^ k + l) ≡ decimal h ++ last_digits k l
unfolding last_digits
digits_behind zero h l some small fits = ap decimal (omega arith) ∙ sym (append-nil (decimal h))
digits_behind (suc k) h l some small fits =
    let n : ℕ = h * 10 ^ suc k + l in
    let power : 10 ^ suc k ≡ 10 * 10 ^ k = omega arith in
    let more : h * 10 ^ suc k ≡ 10 * (h * 10 ^ k) = ap (λ m. h * m) power ∙ sym (mul_assoc h 10 (10 ^ k)) ∙ ap (λ m. m * 10 ^ k) (mul_comm h 10) ∙ mul_assoc 10 h (10 ^ k) in
    let up : 10 ^ k ≤ h * 10 ^ k = at_least h (10 ^ k) some in
    let front : n / 10 ≡ h * 10 ^ k + l / 10 = omega (arith, more) in
    let end : n % 10 ≡ l % 10 = omega (arith, more) in
    decimal_step_wide n (omega (arith, more, up)) fits
    ∙ ap (λ d. decimal (n / 10) ++ ((48 + d) ∷ [])) end
    ∙ ap (λ m. decimal m ++ ((48 + l % 10) ∷ [])) front
    ∙ ap (λ ds. ds ++ ((48 + l % 10) ∷ [])) (digits_behind k h (l / 10) some (omega arith) (omega (arith, more, fits)))
    ∙ append_assoc (decimal h) (last_digits k (l / 10)) ((48 + l % 10) ∷ [])

-- one digit more in front of those that are there
pub digit_put : (at n : ℕ) (digits whole : List ℕ) → 0 < at → at ≤ length digits → last_digits at n ++ drop at digits ≡ whole
    → last_digits (at - 1) (n / 10) ++ drop (at - 1) (slice_set digits (at - 1) (48 + n % 10)) ≡ whole
unfolding last_digits
digit_put zero n digits whole some within is = absurd (omega arith)
digit_put (suc k) n digits whole some within is =
    let d : ℕ = 48 + n % 10 in
    let less : suc k - 1 ≡ k = omega arith in
    let up : k + 1 ≡ suc k = omega arith in
    ap (λ m. last_digits m (n / 10) ++ drop m (slice_set digits m d)) less
    ∙ ap (λ ds. last_digits k (n / 10) ++ ds) (drop-set digits k d (omega arith) ∙ ap (λ m. d ∷ drop m digits) up)
    ∙ sym (append_assoc (last_digits k (n / 10)) (d ∷ []) (drop (suc k) digits))
    ∙ is

pub none_behind : (at n : ℕ) (digits whole : List ℕ) → at ≤ 0 → last_digits at n ++ drop at digits ≡ whole → digits ≡ whole
unfolding last_digits
none_behind zero n digits whole none is = is
none_behind (suc k) n digits whole none is = absurd (omega arith)

below : (n : ℕ) → 0 < n → signed_decimal (neg_ℤ (pos n)) ≡ 45 ∷ decimal n
below zero some = absurd (omega arith)
below (suc n) some = refl

-- the sign of a number
abbrev pub sign_of : Bool → List ℕ
sign_of false = []
sign_of true = 45 ∷ []

-- the text of a number in two words, behind its sign
pub written : (negative : Bool) (size : ℕ) (sum : ℤ) (sign front back : List ℕ) → sum ≡ signed negative size → (negative ≡ true → 0 < size) → sign ≡ sign_of negative
    → front ++ back ≡ decimal size → sign ++ (front ++ back) ≡ signed_decimal sum
written false size sum sign front back is some s e = ap (λ l. l ++ (front ++ back)) s ∙ e ∙ sym (ap signed_decimal is)
written true size sum sign front back is some s e = ap (λ l. l ++ (front ++ back)) s ∙ ap (λ l. 45 ∷ l) e ∙ sym (ap signed_decimal is ∙ below size (some refl))

-- How far a word reaches: a number, true, false and null are no longer than the bytes up to the next operator or space.
use Rattle.std.proofs.Common.{◌≡◌, ℕ, suc, ◌+◌, ◌-◌, ◌≤◌, Bool, true, false, ◌&&◌, ◌||◌, ◌==◌, cond, nat_eq, List, [], ◌∷◌, ◌++◌, length, take, drop, Option, Some, None, option_and_then, refl, ap, ◌∙◌, subst, arith}
use Rattle.std.specs.List.{prefix_len, starts_with}
use Rattle.std.specs.Char.{is_ascii_digit}
use Rattle.std.proofs.lemmas.Bool.{and_parts, eqb-true}
use Rattle.std.proofs.lemmas.Bool.Decides.{nat_tests}
use Rattle.std.proofs.lemmas.List.{take-append-drop, length-take}
use Rattle.std.proofs.lemmas.Slice.Eq.{bytes_eq-Decides}
use Rattle.json.specs.Print.{token_text}
use Rattle.json.specs.Token.{Token, number, boolean, null, bad}
use Rattle.json.specs.Word.{is_operator, is_space, head, ends_word, after_digits, after_minus, after_sign, after_whole, after_fraction, after_exponent, after_number, number_before, literal, word}

-- a byte that no word passes
abbrev ends : ℕ → Bool
ends x = is_operator x || is_space x

-- how many bytes stand before the first such byte
unfoldable pub word_span : List ℕ → ℕ
word_span [] = 0
word_span (x ∷ xs) = cond (ends x) 0 (suc (word_span xs))

pub span_at_end : (x : ℕ) (xs : List ℕ) → ends x ≡ true → word_span (x ∷ xs) ≡ 0
unfolding word_span
span_at_end x xs is = ap (λ b. cond b 0 (suc (word_span xs))) is

pub span_on : (x : ℕ) (xs : List ℕ) → ends x ≡ false → word_span (x ∷ xs) ≡ suc (word_span xs)
unfolding word_span
span_on x xs is = ap (λ b. cond b 0 (suc (word_span xs))) is

pub span_most : (x : ℕ) (xs : List ℕ) → word_span (x ∷ xs) ≤ suc (word_span xs)
unfolding word_span
span_most x xs = by (ends x)
  where
    by : (b : Bool) → cond b 0 (suc (word_span xs)) ≤ suc (word_span xs)
    by true = omega arith
    by false = omega arith

-- from a text to its rest no end is passed
abbrev Reaches : List ℕ → List ℕ → Type 0
Reaches t rest = word_span t + length rest ≡ length t + word_span rest

-- where there is a rest
abbrev ReachesIf : List ℕ → Option (List ℕ) → Type 0
ReachesIf t None = Unit {0}
ReachesIf t (Some rest) = Reaches t rest

then_if : (t u : List ℕ) (o : Option (List ℕ)) → Reaches t u → ReachesIf u o → ReachesIf t o
then_if t u None reaches on = tt
then_if t u (Some rest) reaches on = omega (arith, reaches, on)

and_if : (f : List ℕ → Option (List ℕ)) → ((u : List ℕ) → ReachesIf u (f u)) → (t : List ℕ) (o : Option (List ℕ)) → ReachesIf t o → ReachesIf t (option_and_then f o)
and_if f on t None reaches = tt
and_if f on t (Some u) reaches = then_if t u (f u) reaches (on u)

either_if : (t : List ℕ) (b : Bool) (x y : Option (List ℕ)) → (b ≡ true → ReachesIf t x) → ReachesIf t y → ReachesIf t (cond b x y)
either_if t true x y f g = f refl
either_if t false x y f g = g

either : (t : List ℕ) (b : Bool) (u v : List ℕ) → (b ≡ true → Reaches t u) → Reaches t v → Reaches t (cond b u v)
either t true u v f g = f refl
either t false u v f g = g

still : (t : List ℕ) → Reaches t t
still t = omega arith

-- ---- one byte, and digits

one_byte : (c : ℕ) (t : List ℕ) → ends c ≡ false → (head t == c) ≡ true → Reaches t (drop 1 t)
one_byte c [] plain is = still []
one_byte c (x ∷ xs) plain is = omega (arith, span_on x xs (ap ends (eqb-true x c is) ∙ plain))

either_byte : (a c : ℕ) (t : List ℕ) → ends a ≡ false → ends c ≡ false → ((head t == a) || (head t == c)) ≡ true → Reaches t (drop 1 t)
either_byte a c t plain_a plain_c is = by (head t == a) refl is
  where
    by : (b : Bool) → (head t == a) ≡ b → (b || (head t == c)) ≡ true → Reaches t (drop 1 t)
    by true here h = one_byte a t plain_a here
    by false here h = one_byte c t plain_c h

digit_plain : (x : ℕ) → is_ascii_digit x ≡ true → ends x ≡ false
digit_plain x h = grind (arith, nat_tests)

digits_reach : (t : List ℕ) → Reaches t (drop (prefix_len is_ascii_digit t) t)
digits_reach [] = still []
digits_reach (x ∷ xs) = by (is_ascii_digit x) (digit_plain x) (digits_reach xs)
  where
    by : (b : Bool) → (b ≡ true → ends x ≡ false) → Reaches xs (drop (prefix_len is_ascii_digit xs) xs) → Reaches (x ∷ xs) (drop (cond b (1 + prefix_len is_ascii_digit xs) 0) (x ∷ xs))
    by true plain on =
        let next : suc (prefix_len is_ascii_digit xs) ≡ 1 + prefix_len is_ascii_digit xs = omega arith in
        subst (λ k. Reaches (x ∷ xs) (drop k (x ∷ xs))) next (omega (arith, span_on x xs (plain refl), on))
    by false plain on = still (x ∷ xs)

-- ---- the parts of a number

digits_if : (t : List ℕ) → ReachesIf t (after_digits t)
digits_if t = by (prefix_len is_ascii_digit t == 0)
  where
    by : (b : Bool) → ReachesIf t (cond b None (Some (drop (prefix_len is_ascii_digit t) t)))
    by true = tt
    by false = digits_reach t

minus_reaches : (t : List ℕ) → Reaches t (after_minus t)
minus_reaches t = either t (head t == 45) (drop 1 t) t (one_byte 45 t refl) (still t)

sign_reaches : (t : List ℕ) → Reaches t (after_sign t)
sign_reaches t = either t ((head t == 45) || (head t == 43)) (drop 1 t) t (either_byte 45 43 t refl refl) (still t)

whole_if : (t : List ℕ) → ReachesIf t (after_whole t)
whole_if t = either_if t (head t == 48) (Some (drop 1 t)) (after_digits t) (one_byte 48 t refl) (digits_if t)

fraction_if : (t : List ℕ) → ReachesIf t (after_fraction t)
fraction_if t = either_if t (head t == 46) (after_digits (drop 1 t)) (Some t) (λ is. then_if t (drop 1 t) (after_digits (drop 1 t)) (one_byte 46 t refl is) (digits_if (drop 1 t))) (still t)

exponent_if : (t : List ℕ) → ReachesIf t (after_exponent t)
exponent_if t =
    let behind = drop 1 t in
    either_if t ((head t == 101) || (head t == 69)) (after_digits (after_sign behind)) (Some t)
    (λ is. then_if t behind (after_digits (after_sign behind)) (either_byte 101 69 t refl refl is)
    (then_if behind (after_sign behind) (after_digits (after_sign behind)) (sign_reaches behind) (digits_if (after_sign behind)))) (still t)

number_if : (t : List ℕ) → ReachesIf t (after_number t)
unfolding after_number
number_if t =
    let whole = after_whole (after_minus t) in
    and_if after_exponent exponent_if t (option_and_then after_fraction whole)
    (and_if after_fraction fraction_if t whole (then_if t (after_minus t) whole (minus_reaches t) (whole_if (after_minus t))))

-- ---- words

-- a token's text is no longer than the word at the front
abbrev IsWithin : List ℕ → Token → Type 0
IsWithin t k = length (token_text k) ≤ word_span t

either_within : (t : List ℕ) (b : Bool) (x y : Token) → (b ≡ true → IsWithin t x) → IsWithin t y → IsWithin t (cond b x y)
either_within t true x y f g = f refl
either_within t false x y f g = g

number_within : (t : List ℕ) (o : Option (List ℕ)) → ReachesIf t o → IsWithin t (number_before t o)
number_within t None reaches = omega arith
number_within t (Some rest) reaches =
    either_within t (ends_word rest) (number (take (length t - length rest) t)) bad (λ is. omega (arith, length-take (length t - length rest) t, reaches)) (omega arith)

-- the name of a literal, and what stands behind it
literal_within : (name : List ℕ) (k : Token) (t : List ℕ) → ((rest : List ℕ) → length (token_text k) ≤ word_span (name ++ rest)) → IsWithin t (literal name k t)
literal_within name k t passes = either_within t (starts_with nat_eq t name && ends_word (drop (length name) t)) k bad here (omega arith)
  where
    here : (starts_with nat_eq t name && ends_word (drop (length name) t)) ≡ true → IsWithin t k
    here is =
        let both = and_parts (starts_with nat_eq t name) (ends_word (drop (length name) t)) is in
        let front : name ≡ take (length name) t = (bytes_eq-Decides name (take (length name) t)).0 both.0 in
        subst (λ l. length (token_text k) ≤ word_span l) (ap (λ l. l ++ drop (length name) t) front ∙ take-append-drop (length name) t) (passes (drop (length name) t))

pub word_within : (t : List ℕ) → length (token_text (word t)) ≤ word_span t
unfolding word word_span
word_within t =
    either_within t (head t == 116) (literal (116 ∷ 114 ∷ 117 ∷ 101 ∷ []) (boolean true) t) _ (λ is. literal_within (116 ∷ 114 ∷ 117 ∷ 101 ∷ []) (boolean true) t (λ rest. omega arith))
    (either_within t (head t == 102) (literal (102 ∷ 97 ∷ 108 ∷ 115 ∷ 101 ∷ []) (boolean false) t) _ (λ is. literal_within (102 ∷ 97 ∷ 108 ∷ 115 ∷ 101 ∷ []) (boolean false) t (λ rest. omega arith))
    (either_within t (head t == 110) (literal (110 ∷ 117 ∷ 108 ∷ 108 ∷ []) null t) _ (λ is. literal_within (110 ∷ 117 ∷ 108 ∷ 108 ∷ []) null t (λ rest. omega arith))
    (number_within t (after_number t) (number_if t))))

-- The texts of a line: each is UTF-8 where the line is, and no longer than what spells it.
use Rattle.std.proofs.Common.{◌≡◌, ℕ, ◌+◌, ◌*◌, ◌<◌, ◌≤◌, Bool, true, false, ◌&&◌, ◌==◌, cond, List, [], ◌∷◌, ◌++◌, length, get_or, drop, Option, Some, None, option_and_then, refl, sym, ap, subst, ◌∙◌, append_assoc, append-nil, arith}
use Rattle.std.specs.Prelude.{nat_lt}
use Rattle.std.specs.Char.{digit_value, is_digit, encode_utf8, IsScalar}
use Rattle.std.specs.Str.{IsUtf8}
use Rattle.std.proofs.lemmas.Bool.{eqb-true, and_parts, true≢false}
use Rattle.std.proofs.lemmas.Bool.Decides.{nat_tests}
use Rattle.std.proofs.lemmas.List.{take_at, drop_at, length-append, get_or-append-add}
use Rattle.std.proofs.lemmas.Str.{IsUtf8-append, IsUtf8-take, IsUtf8-drop, IsUtf8-encode, encode_ascii, IsCharBoundary-before_ascii, IsCharBoundary-after_ascii, length-encode, len_utf8_bounds}
use Rattle.std.proofs.Math.Utf8.{low_scalar}
use Rattle.json.specs.Text.{code_unit, short_escape, is_high_surrogate, is_low_surrogate, surrogate_pair, Within, plain, after_backslash, after_u, after_high, prepend, content}
use Rattle.json.specs.Lex.{operator, space, other, Mode, in_string, in_escape}
use Rattle.json.specs.Word.{is_operator, is_space}
use Rattle.json.specs.Align.{span_byte, span}

-- ---- UTF-8 and single bytes

-- an ASCII byte parts a text in two
pub parted : (front rest : List ℕ) (x : ℕ) → x < 128 → IsUtf8 (front ++ x ∷ rest) → IsUtf8 front × IsUtf8 rest
parted front rest x small u =
    let text = front ++ x ∷ rest in
    let at = length front in
    let one : length (front ++ x ∷ []) ≡ at + 1 = length-append front (x ∷ []) in
    let within : at < length text = omega (arith, length-append front (x ∷ rest)) in
    let start : at + 0 ≡ at = omega arith in
    let byte : get_or text at 0 ≡ x = ap (λ k. get_or text k 0) (sym start) ∙ get_or-append-add front (x ∷ rest) 0 0 in
    let low : get_or text at 0 < 128 = omega (arith, byte) in
    let before = IsUtf8-take text at u (IsCharBoundary-before_ascii text at within low) in
    let behind = IsUtf8-drop text (at + 1) u (IsCharBoundary-after_ascii text at u within low) in
    let seam : drop (at + 1) text ≡ rest = ap (drop (at + 1)) (sym (append_assoc front (x ∷ []) rest)) ∙ drop_at (front ++ x ∷ []) rest (at + 1) one in
    (subst IsUtf8 (take_at front (x ∷ rest) at refl) before, subst IsUtf8 seam behind)

pub after_ascii : (x : ℕ) (rest : List ℕ) → x < 128 → IsUtf8 (x ∷ rest) → IsUtf8 rest
after_ascii x rest small u = (parted [] rest x small u).1

one_ascii : (x : ℕ) → x < 128 → IsUtf8 (x ∷ [])
one_ascii x small = subst IsUtf8 (encode_ascii x small) (IsUtf8-encode x (low_scalar x (omega arith)))

-- ---- what escapes are

equal : (x y : ℕ) (P : ℕ → Type 0) → (x == y) ≡ true → P y → P x
equal x y P is = subst P (sym (eqb-true x y is))

hex_range : (x : ℕ) → is_digit x 16 ≡ true → x < 103
hex_range x h = grind (arith, nat_tests)

hex_value : (x : ℕ) → is_digit x 16 ≡ true → digit_value x < 16
hex_value x h = grind (arith, nat_tests)

is_unit : (b : Bool) (n u : ℕ) → cond b (Some n) None ≡ Some u → (b ≡ true) × (n ≡ u)
is_unit true n u e = (refl, cc)
is_unit false n u e = absurd cc

-- four hex digits are of ASCII, and spell a number of 16 bits
pub record IsCodeUnit (a b c d u : ℕ) : Type 0 where
  pub first : is_digit a 16 ≡ true
  pub second : is_digit b 16 ≡ true
  pub third : is_digit c 16 ≡ true
  pub fourth : is_digit d 16 ≡ true
  pub most : u < 65536

unit_is : (a b c d u : ℕ) → code_unit a b c d ≡ Some u → IsCodeUnit a b c d u
unfolding code_unit
unit_is a b c d u e =
    let known = is_unit (is_digit a 16 && is_digit b 16 && is_digit c 16 && is_digit d 16) (digit_value a * 4096 + digit_value b * 256 + digit_value c * 16 + digit_value d) u e in
    let abc = and_parts (is_digit a 16 && is_digit b 16 && is_digit c 16) (is_digit d 16) known.0 in
    let ab = and_parts (is_digit a 16 && is_digit b 16) (is_digit c 16) abc.0 in
    let both = and_parts (is_digit a 16) (is_digit b 16) ab.0 in
    record {
      first = both.0;
      second = both.1;
      third = ab.1;
      fourth = abc.1;
      most = omega (arith, known.1, hex_value a both.0, hex_value b both.1, hex_value c ab.1, hex_value d abc.1);
    }

escape_range : (x c : ℕ) → short_escape x ≡ Some c → (x < 128) × (c < 128)
unfolding short_escape
escape_range x c e = grind (arith, nat_tests)

unit_scalar : (u : ℕ) → u < 65536 → is_high_surrogate u ≡ false → is_low_surrogate u ≡ false → IsScalar u
unit_scalar u most high low = grind (arith, nat_tests)

pair_scalar : (h l : ℕ) → is_high_surrogate h ≡ true → is_low_surrogate l ≡ true → IsScalar (surrogate_pair h l)
pair_scalar h l high low = grind (arith, nat_tests)

length-encoded : (c : ℕ) → length (encode_utf8 c) ≤ 4
length-encoded c = omega (arith, length-encode c, (len_utf8_bounds c).1)

-- ---- what texts are

-- a text, where there is one, has fewer bytes than this, and is UTF-8 behind those in front of it
abbrev pub FitsBehind : List ℕ → ℕ → Option (List ℕ) → Type 0
FitsBehind front n None = Unit {0}
FitsBehind front n (Some text) = (length text < n) × IsUtf8 (front ++ text)

fits_more : (front : List ℕ) (m n : ℕ) (o : Option (List ℕ)) → FitsBehind front m o → m ≤ n → FitsBehind front n o
fits_more front m n None fits le = tt
fits_more front m n (Some text) fits le = (omega (arith, fits.0), fits.1)

fits_behind : (front bytes : List ℕ) (m n : ℕ) (o : Option (List ℕ)) → FitsBehind (front ++ bytes) m o → length bytes + m ≤ n → FitsBehind front n (prepend bytes o)
fits_behind front bytes m n None fits le = tt
fits_behind front bytes m n (Some text) fits le = (omega (arith, fits.0, length-append bytes text), subst IsUtf8 (append_assoc front bytes text) fits.1)

either : (front : List ℕ) (n : ℕ) (b : Bool) (x y : Option (List ℕ)) → (b ≡ true → FitsBehind front n x) → (b ≡ false → FitsBehind front n y) → FitsBehind front n (cond b x y)
either front n true x y f g = f refl
either front n false x y f g = g refl

given : (front : List ℕ) (n : ℕ) (o : Option ℕ) (f : ℕ → Option (List ℕ)) → ((u : ℕ) → o ≡ Some u → FitsBehind front n (f u)) → FitsBehind front n (option_and_then f o)
given front n None f h = tt
given front n (Some u) f h = h u refl

-- ---- how far a string reaches

abbrev pub mode : Within → Mode
mode plain = in_string
mode after_backslash = in_escape
mode after_u = in_string
mode (after_high h) = in_string

passes : (x : ℕ) (xs : List ℕ) → (x == 34) ≡ false → (x == 92) ≡ false → span in_string (x ∷ xs) ≡ 1 + span in_string xs
unfolding span
passes x xs q b = rw (q, b) (by (is_operator x) (is_space x))
  where
    by : (o s : Bool) → span_byte in_string (cond o operator (cond s space other)) (λ next. span next xs) ≡ 1 + span in_string xs
    by true s = refl
    by false true = refl
    by false false = refl

escapes : (x : ℕ) (xs : List ℕ) → (x == 92) ≡ true → span in_string (x ∷ xs) ≡ 1 + span in_escape xs
unfolding span
escapes x xs is = equal x 92 (λ y. span in_string (y ∷ xs) ≡ 1 + span in_escape xs) is refl

escaped : (x : ℕ) (xs : List ℕ) → span in_escape (x ∷ xs) ≡ 1 + span in_string xs
unfolding span
escaped x xs = refl

closes : (x : ℕ) (xs : List ℕ) → (x == 34) ≡ true → 1 ≤ span in_string (x ∷ xs)
unfolding span
closes x xs is = equal x 34 (λ y. 1 ≤ span in_string (y ∷ xs)) is (omega arith)

no_hex : (x c : ℕ) → is_digit c 16 ≡ false → is_digit x 16 ≡ true → (x == c) ≡ false
no_hex x c none is = by (x == c) (eqb-true x c)
  where
    by : (b : Bool) → (b ≡ true → x ≡ c) → b ≡ false
    by true same = absurd (true≢false (sym is ∙ ap (λ y. is_digit y 16) (same refl) ∙ none))
    by false same = refl

hex_passes : (x : ℕ) (xs : List ℕ) → is_digit x 16 ≡ true → span in_string (x ∷ xs) ≡ 1 + span in_string xs
hex_passes x xs is = passes x xs (no_hex x 34 refl is) (no_hex x 92 refl is)

unit_passes : (a b c d u : ℕ) (xs : List ℕ) → IsCodeUnit a b c d u → span in_string (a ∷ b ∷ c ∷ d ∷ xs) ≡ 4 + span in_string xs
unit_passes a b c d u xs is = omega (arith, hex_passes a (b ∷ c ∷ d ∷ xs) is.first, hex_passes b (c ∷ d ∷ xs) is.second, hex_passes c (d ∷ xs) is.third, hex_passes d xs is.fourth)

behind_unit : (a b c d u : ℕ) (xs : List ℕ) → IsCodeUnit a b c d u → IsUtf8 (a ∷ b ∷ c ∷ d ∷ xs) → IsUtf8 xs
behind_unit a b c d u xs is utf8 =
    let small : (x : ℕ) → is_digit x 16 ≡ true → x < 128 = λ x h. omega (arith, hex_range x h) in
    after_ascii d xs (small d is.fourth) (after_ascii c (d ∷ xs) (small c is.third) (after_ascii b (c ∷ d ∷ xs) (small b is.second) (after_ascii a (b ∷ c ∷ d ∷ xs) (small a is.first) utf8)))

-- ---- the content of a string

-- the bytes in front and those to come are UTF-8: together within plain bytes, and each for itself within an escape
abbrev pub Begins : Within → List ℕ → List ℕ → Type 0
Begins plain front xs = IsUtf8 (front ++ xs)
Begins after_backslash front xs = IsUtf8 front × IsUtf8 xs
Begins after_u front xs = IsUtf8 front × IsUtf8 xs
Begins (after_high h) front xs = (is_high_surrogate h ≡ true) × (IsUtf8 front × IsUtf8 xs)

joined : (front : List ℕ) (c : ℕ) (xs : List ℕ) → IsUtf8 front → IsUtf8 (encode_utf8 c) → IsUtf8 xs → IsUtf8 ((front ++ encode_utf8 c) ++ xs)
joined front c xs f e u = IsUtf8-append (front ++ encode_utf8 c) xs (IsUtf8-append front (encode_utf8 c) f e) u

pub content_fits : (w : Within) (front xs : List ℕ) → Begins w front xs → FitsBehind front (span (mode w) xs) (content w xs)
unfolding content
content_fits plain front [] u = tt
content_fits plain front (x ∷ xs) u =
    let n = span in_string (x ∷ xs) in
    let later : FitsBehind (front ++ x ∷ []) (span in_string xs) (content plain xs) = content_fits plain (front ++ x ∷ []) xs (subst IsUtf8 (sym (append_assoc front (x ∷ []) xs)) u) in
    either front n (x == 34) (Some []) _ (λ q. quoted q)
    (λ q. either front n (x == 92) _ _ (λ b. fits_more front _ n _ (content_fits after_backslash front xs (around 92 b (omega arith))) (omega (arith, escapes x xs b)))
    (λ b. either front n (nat_lt x 32) None _ (λ low. tt) (λ low. fits_behind front (x ∷ []) _ n _ later (omega (arith, passes x xs q b)))))
  where
    around : (c : ℕ) → (x == c) ≡ true → c < 128 → IsUtf8 front × IsUtf8 xs
    around c is small = parted front xs x (equal x c (λ y. y < 128) is small) u

    quoted : (x == 34) ≡ true → FitsBehind front (span in_string (x ∷ xs)) (Some [])
    quoted q = (omega (arith, closes x xs q), subst IsUtf8 (sym (append-nil front)) (around 34 q (omega arith)).0)
content_fits after_backslash front [] u = tt
content_fits after_backslash front (x ∷ xs) u =
    let n = span in_escape (x ∷ xs) in
    either front n (x == 117) _ _
    (λ is. fits_more front _ n _ (content_fits after_u front xs (u.0, after_ascii x xs (equal x 117 (λ y. y < 128) is (omega arith)) u.1)) (omega (arith, escaped x xs)))
    (λ is. given front n (short_escape x) (λ c. prepend (c ∷ []) (content plain xs))
    (λ c e.
    let known = escape_range x c e in
    let begins = IsUtf8-append (front ++ c ∷ []) xs (IsUtf8-append front (c ∷ []) u.0 (one_ascii c known.1)) (after_ascii x xs known.0 u.1) in
    fits_behind front (c ∷ []) _ n _ (content_fits plain (front ++ c ∷ []) xs begins) (omega (arith, escaped x xs))))
content_fits after_u front [] u = tt
content_fits after_u front (a ∷ []) u = tt
content_fits after_u front (a ∷ b ∷ []) u = tt
content_fits after_u front (a ∷ b ∷ c ∷ []) u = tt
content_fits after_u front (a ∷ b ∷ c ∷ d ∷ xs) u =
    let n = span in_string (a ∷ b ∷ c ∷ d ∷ xs) in
    given front n (code_unit a b c d) _
    (λ v e.
    let unit = unit_is a b c d v e in
    let rest = behind_unit a b c d v xs unit u.1 in
    let longer = unit_passes a b c d v xs unit in
    either front n (is_high_surrogate v) _ _ (λ high. fits_more front _ n _ (content_fits (after_high v) front xs (high, (u.0, rest))) (omega (arith, longer)))
    (λ high. either front n (is_low_surrogate v) None _ (λ low. tt)
    (λ low. fits_behind front (encode_utf8 v) _ n _ (content_fits plain (front ++ encode_utf8 v) xs (joined front v xs u.0 (IsUtf8-encode v (unit_scalar v unit.most high low)) rest))
    (omega (arith, longer, length-encoded v)))))
content_fits (after_high h) front [] u = tt
content_fits (after_high h) front (s ∷ []) u = tt
content_fits (after_high h) front (s ∷ v ∷ []) u = tt
content_fits (after_high h) front (s ∷ v ∷ a ∷ []) u = tt
content_fits (after_high h) front (s ∷ v ∷ a ∷ b ∷ []) u = tt
content_fits (after_high h) front (s ∷ v ∷ a ∷ b ∷ c ∷ []) u = tt
content_fits (after_high h) front (s ∷ v ∷ a ∷ b ∷ c ∷ d ∷ xs) u =
    let n = span in_string (s ∷ v ∷ a ∷ b ∷ c ∷ d ∷ xs) in
    either front n ((s == 92) && (v == 117)) _ None
    (λ both. given front n (code_unit a b c d) _
    (λ low e.
    let signs = and_parts (s == 92) (v == 117) both in
    let unit = unit_is a b c d low e in
    let units = after_ascii v (a ∷ b ∷ c ∷ d ∷ xs) (equal v 117 (λ y. y < 128) signs.1 (omega arith)) (after_ascii s (v ∷ a ∷ b ∷ c ∷ d ∷ xs) (equal s 92 (λ y. y < 128) signs.0 (omega arith)) u.1.1) in
    let rest = behind_unit a b c d low xs unit units in
    let pair = surrogate_pair h low in
    either front n (is_low_surrogate low) _ None
    (λ is. fits_behind front (encode_utf8 pair) _ n _ (content_fits plain (front ++ encode_utf8 pair) xs (joined front pair xs u.1.0 (IsUtf8-encode pair (pair_scalar h low u.0 is)) rest))
    (omega (arith, escapes s (v ∷ a ∷ b ∷ c ∷ d ∷ xs) signs.0, escaped v (a ∷ b ∷ c ∷ d ∷ xs), unit_passes a b c d low xs unit, length-encoded pair)))
    (λ is. tt)))
    (λ both. tt)

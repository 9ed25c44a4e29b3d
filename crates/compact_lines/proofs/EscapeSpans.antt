-- How far a string reaches: its content, escaped as shortly as may be, is shorter than the bytes up to its closing quote, that one included.
use Rattle.std.proofs.Common.{◌≡◌, ℕ, suc, ◌+◌, ◌<◌, ◌≤◌, Bool, true, false, ◌&&◌, ◌||◌, ◌==◌, cond, List, [], ◌∷◌, ◌++◌, length, get_or, Option, Some, None, option_and_then, refl, sym, ap, ap₂, ◌∙◌, subst, arith, append_assoc, append-nil, length-append, inl, inr}
use Rattle.std.specs.Prelude.{nat_lt}
use Rattle.std.specs.Char.{is_digit, encode_utf8}
use Rattle.std.proofs.lemmas.Bool.{eqb-true, eq-eqb, and_parts, true≢false, cases_lt}
use Rattle.std.proofs.lemmas.Bool.Decides.{nat_tests}
use Rattle.std.proofs.lemmas.Str.{encode_ascii, inside_one, length-encode, len_utf8_bounds}
use Rattle.json.specs.Text.{code_unit, short_escape, is_high_surrogate, is_low_surrogate, surrogate_pair, Within, plain, after_backslash, after_u, after_high, prepend, content}
use Rattle.json.specs.Lex.{operator, space, other, in_string, in_escape}
use Rattle.json.specs.Word.{is_operator, is_space}
use Rattle.json.specs.Align.{span_byte, span}
use Rattle.json.specs.Print.{escape_byte, escape}
use Rattle.json.proofs.Printed.Strings.{escape_byte_plain}
use Rattle.json_texts.proofs.TextLengths.{quoted_short}
use Rattle.request_json.proofs.LineTexts.{mode}

-- ---- escapes

pub escape-append : (xs ys : List ℕ) → escape (xs ++ ys) ≡ escape xs ++ escape ys
escape-append [] ys = refl
escape-append (x ∷ xs) ys = ap (λ l. escape_byte x ++ l) (escape-append xs ys) ∙ sym (append_assoc (escape_byte x) (escape xs) (escape ys))

one_escape : (x : ℕ) → length (escape (x ∷ [])) ≤ 6
one_escape x = omega (arith, quoted_short (x ∷ []), length-append (escape (x ∷ [])) (34 ∷ []))

plain_escape : (x : ℕ) → (x ≡ 34 → ⊥) → (x ≡ 92 → ⊥) → 32 ≤ x → escape (x ∷ []) ≡ x ∷ []
plain_escape x quote backslash high = append-nil (escape_byte x) ∙ escape_byte_plain x quote backslash high

-- bytes beyond ASCII have none
high_unescaped : (xs : List ℕ) → ((k : ℕ) → k < length xs → 128 ≤ get_or xs k 0) → escape xs ≡ xs
high_unescaped [] high = refl
high_unescaped (x ∷ xs) high =
    let first : 128 ≤ x = high 0 (omega arith) in
    ap₂ (λ (a b : List ℕ). a ++ b) (escape_byte_plain x (λ e. omega arith) (λ e. omega arith) (omega arith)) (high_unescaped xs (λ k within. high (suc k) (omega arith)))

pub encoded_short : (c : ℕ) → length (escape (encode_utf8 c)) ≤ 6
encoded_short c = elim (cases_lt c 128) [
  | inl low ↦ subst (λ bytes. length (escape bytes) ≤ 6) (sym (encode_ascii c low)) (one_escape c)
  | inr big ↦
      let high : (k : ℕ) → k < length (encode_utf8 c) → 128 ≤ get_or (encode_utf8 c) k 0 = λ k within. elim (cases_lt (get_or (encode_utf8 c) k 0) 128) [
        | inl low ↦ absurd (omega (arith, inside_one c [] (encode_utf8 c) k (sym (append-nil (encode_utf8 c))) within low))
        | inr is ↦ is
      ] in
      omega (arith, ap length (high_unescaped (encode_utf8 c) high), length-encode c, (len_utf8_bounds c).1)
]

-- what a letter behind a backslash stands for is escaped by two bytes at most
abbrev IsShortIf : Option ℕ → Type 0
IsShortIf None = Unit {0}
IsShortIf (Some c) = length (escape (c ∷ [])) ≤ 2

short_either : (b : Bool) (x y : Option ℕ) → (b ≡ true → IsShortIf x) → IsShortIf y → IsShortIf (cond b x y)
short_either true x y f g = f refl
short_either false x y f g = g

same_short : (x : ℕ) → ((x == 34) || (x == 92) || (x == 47)) ≡ true → length (escape (x ∷ [])) ≤ 2
unfolding escape_byte
same_short x is = by (x == 34) (x == 92) (x == 47) (eqb-true x 34) (eqb-true x 92) (eqb-true x 47) is
  where
    by : (q b s : Bool) → (q ≡ true → x ≡ 34) → (b ≡ true → x ≡ 92) → (s ≡ true → x ≡ 47) → (q || b || s) ≡ true → length (escape (x ∷ [])) ≤ 2
    by true b s f g h is = subst (λ y. length (escape (y ∷ [])) ≤ 2) (sym (f refl)) (omega arith)
    by false true s f g h is = subst (λ y. length (escape (y ∷ [])) ≤ 2) (sym (g refl)) (omega arith)
    by false false true f g h is = subst (λ y. length (escape (y ∷ [])) ≤ 2) (sym (h refl)) (omega arith)
    by false false false f g h is = absurd (true≢false (sym is))

letter_short : (x : ℕ) → IsShortIf (short_escape x)
unfolding short_escape escape_byte
letter_short x =
    short_either ((x == 34) || (x == 92) || (x == 47)) (Some x) _ (same_short x)
    (short_either (x == 98) (Some 8) _ (λ is. omega arith) (short_either (x == 102) (Some 12) _ (λ is. omega arith) (short_either (x == 110) (Some 10) _ (λ is. omega arith)
    (short_either (x == 114) (Some 13) _ (λ is. omega arith) (short_either (x == 116) (Some 9) None (λ is. omega arith) tt)))))

-- ---- how far a string reaches

passes : (x : ℕ) (xs : List ℕ) → (x == 34) ≡ false → (x == 92) ≡ false → span in_string (x ∷ xs) ≡ 1 + span in_string xs
unfolding span
passes x xs q b = rw (q, b) (by (is_operator x) (is_space x))
  where
    by : (o s : Bool) → span_byte in_string (cond o operator (cond s space other)) (λ next. span next xs) ≡ 1 + span in_string xs
    by true s = refl
    by false true = refl
    by false false = refl

begins_escape : (x : ℕ) (xs : List ℕ) → (x == 92) ≡ true → span in_string (x ∷ xs) ≡ 1 + span in_escape xs
unfolding span
begins_escape x xs is = ap (λ y. span in_string (y ∷ xs)) (eqb-true x 92 is)

goes_on : (x : ℕ) (xs : List ℕ) → span in_escape (x ∷ xs) ≡ 1 + span in_string xs
unfolding span
goes_on x xs = refl

closes : (x : ℕ) (xs : List ℕ) → (x == 34) ≡ true → span in_string (x ∷ xs) ≡ 1
unfolding span
closes x xs is = ap (λ y. span in_string (y ∷ xs)) (eqb-true x 34 is)

no_hex : (x c : ℕ) → is_digit c 16 ≡ false → is_digit x 16 ≡ true → (x == c) ≡ false
no_hex x c none is = by (x == c) (eqb-true x c)
  where
    by : (b : Bool) → (b ≡ true → x ≡ c) → b ≡ false
    by true same = absurd (true≢false (sym is ∙ ap (λ y. is_digit y 16) (same refl) ∙ none))
    by false same = refl

hex_passes : (x : ℕ) (xs : List ℕ) → is_digit x 16 ≡ true → span in_string (x ∷ xs) ≡ 1 + span in_string xs
hex_passes x xs is = passes x xs (no_hex x 34 refl is) (no_hex x 92 refl is)

all_hex : (b : Bool) (n u : ℕ) → cond b (Some n) None ≡ Some u → b ≡ true
all_hex true n u is = refl
all_hex false n u is = absurd cc

unit_passes : (a b c d u : ℕ) (xs : List ℕ) → code_unit a b c d ≡ Some u → span in_string (a ∷ b ∷ c ∷ d ∷ xs) ≡ 4 + span in_string xs
unfolding code_unit
unit_passes a b c d u xs is =
    let abcd = and_parts (is_digit a 16 && is_digit b 16 && is_digit c 16) (is_digit d 16) (all_hex _ _ u is) in
    let abc = and_parts (is_digit a 16 && is_digit b 16) (is_digit c 16) abcd.0 in
    let ab = and_parts (is_digit a 16) (is_digit b 16) abc.0 in
    omega (arith, hex_passes a (b ∷ c ∷ d ∷ xs) ab.0, hex_passes b (c ∷ d ∷ xs) ab.1, hex_passes c (d ∷ xs) abc.1, hex_passes d xs abcd.1)

-- ---- the content of a string

-- a text, where there is one, is escaped in fewer bytes than this
abbrev pub IsEscapedIn : ℕ → Option (List ℕ) → Type 0
IsEscapedIn n None = Unit {0}
IsEscapedIn n (Some text) = length (escape text) < n

more : (m n : ℕ) (o : Option (List ℕ)) → IsEscapedIn m o → m ≤ n → IsEscapedIn n o
more m n None fits le = tt
more m n (Some text) fits le = omega (arith, fits)

behind : (bytes : List ℕ) (m n : ℕ) (o : Option (List ℕ)) → IsEscapedIn m o → length (escape bytes) + m ≤ n → IsEscapedIn n (prepend bytes o)
behind bytes m n None fits le = tt
behind bytes m n (Some text) fits le = omega (arith, fits, ap length (escape-append bytes text), length-append (escape bytes) (escape text))

either : (n : ℕ) (b : Bool) (x y : Option (List ℕ)) → (b ≡ true → IsEscapedIn n x) → (b ≡ false → IsEscapedIn n y) → IsEscapedIn n (cond b x y)
either n true x y f g = f refl
either n false x y f g = g refl

given : (n : ℕ) (o : Option ℕ) (f : ℕ → Option (List ℕ)) → ((u : ℕ) → o ≡ Some u → IsEscapedIn n (f u)) → IsEscapedIn n (option_and_then f o)
given n None f h = tt
given n (Some u) f h = h u refl

apart : (x c : ℕ) → (x == c) ≡ false → x ≡ c → ⊥
apart x c fails same = true≢false (sym (eq-eqb x c same) ∙ fails)

visible : (x : ℕ) → nat_lt x 32 ≡ false → 32 ≤ x
visible x fails = grind (arith, nat_tests)

short_if : (x c : ℕ) → short_escape x ≡ Some c → length (escape (c ∷ [])) ≤ 2
short_if x c is = subst IsShortIf is (letter_short x)

-- how many bytes of an escape stand before a place within it
abbrev before : Within → ℕ
before plain = 0
before after_backslash = 1
before after_u = 2
before (after_high h) = 6

content_escaped : (w : Within) (xs : List ℕ) → IsEscapedIn (before w + span (mode w) xs) (content w xs)
unfolding content
content_escaped plain [] = tt
content_escaped plain (x ∷ xs) =
    let n = 0 + span in_string (x ∷ xs) in
    either n (x == 34) (Some []) _ (λ q. omega (arith, closes x xs q))
    (λ q. either n (x == 92) (content after_backslash xs) _ (λ b. more _ n (content after_backslash xs) (content_escaped after_backslash xs) (omega (arith, begins_escape x xs b)))
    (λ b. either n (nat_lt x 32) None _ (λ low. tt)
    (λ low. behind (x ∷ []) _ n (content plain xs) (content_escaped plain xs) (omega (arith, passes x xs q b, ap length (plain_escape x (apart x 34 q) (apart x 92 b) (visible x low)))))))
content_escaped after_backslash [] = tt
content_escaped after_backslash (x ∷ xs) =
    let n = 1 + span in_escape (x ∷ xs) in
    either n (x == 117) (content after_u xs) _ (λ u. more _ n (content after_u xs) (content_escaped after_u xs) (omega (arith, goes_on x xs)))
    (λ u. given n (short_escape x) (λ c. prepend (c ∷ []) (content plain xs))
    (λ c is. behind (c ∷ []) _ n (content plain xs) (content_escaped plain xs) (omega (arith, goes_on x xs, short_if x c is))))
content_escaped after_u [] = tt
content_escaped after_u (a ∷ []) = tt
content_escaped after_u (a ∷ b ∷ []) = tt
content_escaped after_u (a ∷ b ∷ c ∷ []) = tt
content_escaped after_u (a ∷ b ∷ c ∷ d ∷ xs) =
    let n = 2 + span in_string (a ∷ b ∷ c ∷ d ∷ xs) in
    given n (code_unit a b c d) _
    (λ u is.
    either n (is_high_surrogate u) (content (after_high u) xs) _ (λ high. more _ n (content (after_high u) xs) (content_escaped (after_high u) xs) (omega (arith, unit_passes a b c d u xs is)))
    (λ high. either n (is_low_surrogate u) None _ (λ low. tt)
    (λ low. behind (encode_utf8 u) _ n (content plain xs) (content_escaped plain xs) (omega (arith, unit_passes a b c d u xs is, encoded_short u)))))
content_escaped (after_high h) [] = tt
content_escaped (after_high h) (s ∷ []) = tt
content_escaped (after_high h) (s ∷ v ∷ []) = tt
content_escaped (after_high h) (s ∷ v ∷ a ∷ []) = tt
content_escaped (after_high h) (s ∷ v ∷ a ∷ b ∷ []) = tt
content_escaped (after_high h) (s ∷ v ∷ a ∷ b ∷ c ∷ []) = tt
content_escaped (after_high h) (s ∷ v ∷ a ∷ b ∷ c ∷ d ∷ xs) =
    let n = 6 + span in_string (s ∷ v ∷ a ∷ b ∷ c ∷ d ∷ xs) in
    either n ((s == 92) && (v == 117)) _ None
    (λ both. given n (code_unit a b c d) _
    (λ low is.
    let pair = encode_utf8 (surrogate_pair h low) in
    either n (is_low_surrogate low) (prepend pair (content plain xs)) None
    (λ yes. behind pair _ n (content plain xs) (content_escaped plain xs)
    (omega (arith, begins_escape s (v ∷ a ∷ b ∷ c ∷ d ∷ xs) (and_parts (s == 92) (v == 117) both).0, goes_on v (a ∷ b ∷ c ∷ d ∷ xs), unit_passes a b c d low xs is, encoded_short (surrogate_pair h low))))
    (λ other. tt)))
    (λ other. tt)

pub string_escaped : (xs : List ℕ) → IsEscapedIn (span in_string xs) (content plain xs)
string_escaped xs = more (0 + span in_string xs) (span in_string xs) (content plain xs) (content_escaped plain xs) (omega arith)

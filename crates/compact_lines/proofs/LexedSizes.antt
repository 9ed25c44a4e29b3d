-- The tokens of a text, written with no space, take no more bytes than the text.
use Rattle.std.proofs.Common.{◌≡◌, ℕ, suc, ◌+◌, ◌-◌, ◌≤◌, Bool, true, false, true≢false, ◌==◌, ◌||◌, cond, List, [], ◌∷◌, length, Option, Some, None, refl, sym, arith, length-append}
use Rattle.json.specs.Ascii as ascii
use Rattle.json.specs.Token.{Token, begin_object, end_object, begin_array, end_array, key, string, number, boolean, null, bad}
use Rattle.json.specs.Text.{plain, content}
use Rattle.json.specs.Word.{is_operator, is_space}
use Rattle.json.specs.Lex.{Lexeme, token, comma, colon, Class, quote, backslash, operator, space, other, class, operator_lexeme, string_token, Mode, between, in_word, in_string, in_escape, lex_byte, lex, Place, fresh, after_value, after_comma, after_key, begins_colon, may_begin, may_close, if_allowed, place_token, punctuate, tokens}
use Rattle.json.specs.Align.{span_byte, span}
use Rattle.json.specs.Print.{escape, quoted, token_text, ends}
use Rattle.compact_lines.proofs.EscapeSpans.{IsEscapedIn, string_escaped}
use Rattle.compact_lines.proofs.WordSpans.{word_span, span_at_end, span_most, word_within}

-- ---- lexemes

abbrev lexeme_size : Lexeme → ℕ
lexeme_size (token t) = length (token_text t)
lexeme_size comma = 1
lexeme_size colon = 1

abbrev lexemes_size : List Lexeme → ℕ
lexemes_size [] = 0
lexemes_size (l ∷ ls) = lexeme_size l + lexemes_size ls

size_either : (b : Bool) (x y : Lexeme) → lexeme_size x ≤ 1 → lexeme_size y ≤ 1 → lexeme_size (cond b x y) ≤ 1
size_either true x y h k = h
size_either false x y h k = k

operator_size : (x : ℕ) → lexeme_size (operator_lexeme x) ≤ 1
operator_size x =
    size_either (x == ascii.open_brace) _ _ (omega arith) (size_either (x == ascii.close_brace) _ _ (omega arith)
    (size_either (x == ascii.open_bracket) _ _ (omega arith) (size_either (x == ascii.close_bracket) _ _ (omega arith) (size_either (x == ascii.comma) _ _ (omega arith) (omega arith)))))

-- a string with its quotes
string_size : (n : ℕ) (o : Option (List ℕ)) → IsEscapedIn n o → length (token_text (string_token o)) ≤ 1 + n
string_size n None fits = omega arith
string_size n (Some text) fits = omega (arith, fits, length-append (escape text) (34 ∷ []))

ends_there : (x : ℕ) (c : Class) → class x ≡ c → (c ≡ operator → (is_operator x || is_space x) ≡ true) × (c ≡ space → (is_operator x || is_space x) ≡ true)
ends_there x c is = by (x == 34) (x == 92) (is_operator x) (is_space x) is
  where
    by : (q b o s : Bool) → cond q quote (cond b backslash (cond o operator (cond s space other))) ≡ c → (c ≡ operator → (o || s) ≡ true) × (c ≡ space → (o || s) ≡ true)
    by true b o s is = (λ e. cc, λ e. cc)
    by false true o s is = (λ e. cc, λ e. cc)
    by false false true s is = (λ e. refl, λ e. cc)
    by false false false true is = (λ e. cc, λ e. refl)
    by false false false false is = (λ e. cc, λ e. cc)

-- how many of the bytes to come belong to what was read already
abbrev passed : Mode → List ℕ → ℕ
passed between xs = 0
passed in_word xs = word_span xs
passed in_string xs = span in_string xs
passed in_escape xs = span in_escape xs

abbrev passed_byte : Mode → Class → ℕ → List ℕ → ℕ
passed_byte between c x xs = 0
passed_byte in_word c x xs = word_span (x ∷ xs)
passed_byte in_string c x xs = span_byte in_string c (λ next. span next xs)
passed_byte in_escape c x xs = span_byte in_escape c (λ next. span next xs)

abbrev Lexed : List ℕ → Mode → Type 0
Lexed xs m = lexemes_size (lex m xs) + passed m xs ≤ length xs

step : (m : Mode) (c : Class) (x : ℕ) (xs : List ℕ) → class x ≡ c → ((next : Mode) → Lexed xs next) → lexemes_size (lex_byte m c x xs (λ next. lex next xs)) + passed_byte m c x xs ≤ suc (length xs)
step between quote x xs is more = omega (arith, more in_string, string_size (span in_string xs) (content plain xs) (string_escaped xs))
step between backslash x xs is more = omega (arith, more in_word)
step between operator x xs is more = omega (arith, more between, operator_size x)
step between space x xs is more = omega (arith, more between)
step between other x xs is more = omega (arith, more in_word, word_within (x ∷ xs), span_most x xs)
step in_word quote x xs is more = omega (arith, more in_word, span_most x xs)
step in_word backslash x xs is more = omega (arith, more in_word, span_most x xs)
step in_word operator x xs is more =
    omega (arith, more between, operator_size x, span_at_end x xs ((ends_there x operator is).0 refl))
step in_word space x xs is more = omega (arith, more between, span_at_end x xs ((ends_there x space is).1 refl))
step in_word other x xs is more = omega (arith, more in_word, span_most x xs)
step in_string quote x xs is more = omega (arith, more between)
step in_string backslash x xs is more = omega (arith, more in_escape)
step in_string operator x xs is more = omega (arith, more in_string)
step in_string space x xs is more = omega (arith, more in_string)
step in_string other x xs is more = omega (arith, more in_string)
step in_escape c x xs is more = omega (arith, more in_string)

lexed : (m : Mode) (xs : List ℕ) → Lexed xs m
unfolding lex span word_span
lexed between [] = omega arith
lexed in_word [] = omega arith
lexed in_string [] = omega arith
lexed in_escape [] = omega arith
lexed between (x ∷ xs) = step between (class x) x xs refl (λ next. lexed next xs)
lexed in_word (x ∷ xs) = step in_word (class x) x xs refl (λ next. lexed next xs)
lexed in_string (x ∷ xs) = step in_string (class x) x xs refl (λ next. lexed next xs)
lexed in_escape (x ∷ xs) = step in_escape (class x) x xs refl (λ next. lexed next xs)

-- ---- tokens

-- a comma stands behind a value and before what is no end
abbrev pub comma_size : Bool → Token → ℕ
comma_size false t = 0
comma_size true begin_object = 1
comma_size true end_object = 0
comma_size true begin_array = 1
comma_size true end_array = 0
comma_size true (key s) = 1
comma_size true (string s) = 1
comma_size true (number s) = 1
comma_size true (boolean b) = 1
comma_size true null = 1
comma_size true bad = 0

-- tokens, behind a value or not
abbrev pub tokens_size : Bool → List Token → ℕ
tokens_size behind [] = 0
tokens_size behind (t ∷ ts) = comma_size behind t + (length (token_text t) + tokens_size (ends t) ts)

-- Tokens at a place take so many bytes at most. Behind a comma that was counted they are written with it, and behind a key its colon is still to come.
abbrev Takes : Place → ℕ → List Token → Type 0
Takes fresh n ts = tokens_size false ts ≤ n
Takes after_value n ts = tokens_size true ts ≤ n
Takes after_comma n ts = tokens_size true ts ≤ n + 1
Takes after_key n ts = tokens_size false ts ≤ n - 1

bad_takes : (p : Place) (n : ℕ) → Takes p n (bad ∷ [])
bad_takes fresh n = omega arith
bad_takes after_value n = omega arith
bad_takes after_comma n = omega arith
bad_takes after_key n = omega arith

begins : (p : Place) (t : Token) (k : Place → List Token) (next : Place) (n : ℕ) → comma_size true t ≤ 1 → length (token_text t) + tokens_size (ends t) (k next) ≤ n → Takes p n (if_allowed (may_begin p) t k next)
begins fresh t k next n one le = omega (arith, le)
begins after_value t k next n one le = bad_takes after_value n
begins after_comma t k next n one le = omega (arith, one, le)
begins after_key t k next n one le = bad_takes after_key n

closes : (p : Place) (t : Token) (k : Place → List Token) (n : ℕ) → comma_size true t ≡ 0 → length (token_text t) + tokens_size (ends t) (k after_value) ≤ n → Takes p n (if_allowed (may_close p) t k after_value)
closes fresh t k n none le = omega (arith, le)
closes after_value t k n none le = omega (arith, none, le)
closes after_comma t k n none le = bad_takes after_comma n
closes after_key t k n none le = bad_takes after_key n

abbrev Follows : List Lexeme → (Place → List Token) → Type 0
Follows ls k = (next : Place) → Takes next (lexemes_size ls) (k next)

placed : (p : Place) (t : Token) (b : Bool) (ls : List Lexeme) (k : Place → List Token) → (b ≡ true → 1 ≤ lexemes_size ls) → Follows ls k → Takes p (length (token_text t) + lexemes_size ls) (place_token p t b k)
placed p begin_object b ls k colons more = begins p begin_object k fresh _ (omega arith) (omega (arith, more fresh))
placed p end_object b ls k colons more = closes p end_object k _ refl (omega (arith, more after_value))
placed p begin_array b ls k colons more = begins p begin_array k fresh _ (omega arith) (omega (arith, more fresh))
placed p end_array b ls k colons more = closes p end_array k _ refl (omega (arith, more after_value))
placed p (key s) b ls k colons more = bad_takes p _
placed p (string s) true ls k colons more = begins p (key s) k after_key _ (omega arith) (omega (arith, more after_key, colons refl, length-append (quoted s) (58 ∷ [])))
placed p (string s) false ls k colons more = begins p (string s) k after_value _ (omega arith) (omega (arith, more after_value))
placed p (number s) b ls k colons more = begins p (number s) k after_value _ (omega arith) (omega (arith, more after_value))
placed p (boolean c) b ls k colons more = begins p (boolean c) k after_value _ (omega arith) (omega (arith, more after_value))
placed p null b ls k colons more = begins p null k after_value _ (omega arith) (omega (arith, more after_value))
placed p bad b ls k colons more = bad_takes p _

colon_size : (ls : List Lexeme) → begins_colon ls ≡ true → 1 ≤ lexemes_size ls
colon_size [] is = absurd (true≢false (sym is))
colon_size (token t ∷ ls) is = absurd (true≢false (sym is))
colon_size (comma ∷ ls) is = omega arith
colon_size (colon ∷ ls) is = omega arith

punctuated : (p : Place) (ls : List Lexeme) → Takes p (lexemes_size ls) (punctuate p ls)
unfolding punctuate
punctuated fresh [] = omega arith
punctuated after_value [] = omega arith
punctuated after_comma [] = bad_takes after_comma 0
punctuated after_key [] = bad_takes after_key 0
punctuated fresh (token t ∷ ls) = placed fresh t (begins_colon ls) ls (λ next. punctuate next ls) (colon_size ls) (λ next. punctuated next ls)
punctuated after_value (token t ∷ ls) = placed after_value t (begins_colon ls) ls (λ next. punctuate next ls) (colon_size ls) (λ next. punctuated next ls)
punctuated after_comma (token t ∷ ls) = placed after_comma t (begins_colon ls) ls (λ next. punctuate next ls) (colon_size ls) (λ next. punctuated next ls)
punctuated after_key (token t ∷ ls) = placed after_key t (begins_colon ls) ls (λ next. punctuate next ls) (colon_size ls) (λ next. punctuated next ls)
punctuated fresh (comma ∷ ls) = bad_takes fresh _
punctuated after_value (comma ∷ ls) = omega (arith, punctuated after_comma ls)
punctuated after_comma (comma ∷ ls) = bad_takes after_comma _
punctuated after_key (comma ∷ ls) = bad_takes after_key _
punctuated fresh (colon ∷ ls) = bad_takes fresh _
punctuated after_value (colon ∷ ls) = bad_takes after_value _
punctuated after_comma (colon ∷ ls) = bad_takes after_comma _
punctuated after_key (colon ∷ ls) = omega (arith, punctuated fresh ls)

pub tokens_short : (text : List ℕ) → tokens_size false (tokens text) ≤ length text
tokens_short text = omega (arith, lexed between text, punctuated fresh (lex between text))

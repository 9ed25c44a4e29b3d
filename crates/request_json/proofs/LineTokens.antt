-- The tokens of a line: how many bytes they take at least, and that their texts are UTF-8 where the line is.
use Rattle.std.proofs.Common.{◌≡◌, ℕ, suc, ◌+◌, ◌<◌, ◌≤◌, Bool, true, false, ◌==◌, cond, List, [], ◌∷◌, ◌++◌, length, Option, Some, None, refl, sym, subst, append_assoc, arith}
use Rattle.std.specs.Str.{IsUtf8}
use Rattle.std.proofs.lemmas.Bool.{eqb-true}
use Rattle.json.specs.Ascii as ascii
use Rattle.json.specs.Token.{Token, begin_object, end_object, begin_array, end_array, key, string, number, boolean, null, bad}
use Rattle.json.specs.Text.{plain}
use Rattle.json.specs.Word.{is_operator, is_space, head, ends_word, after_number, number_before, literal, word}
use Rattle.json.specs.Lex.{Lexeme, token, comma, colon, Class, quote, backslash, operator, space, other, class, operator_lexeme, string_token, Mode, between, in_word, in_string, in_escape, lex_byte, lex, Place, fresh, after_value, after_comma, after_key, begins_colon, may_begin, may_close, if_allowed, place_token, punctuate, tokens}
use Rattle.json.specs.Align.{span_byte, span}
use Rattle.request_json.proofs.LineTexts.{FitsBehind, parted, content_fits}

-- ---- lexemes

-- the bytes that a lexeme takes at least
abbrev pub lexeme_least : Lexeme → ℕ
lexeme_least (token begin_object) = 0
lexeme_least (token end_object) = 0
lexeme_least (token begin_array) = 1
lexeme_least (token end_array) = 0
lexeme_least (token (key s)) = 0
lexeme_least (token (string s)) = 2 + length s
lexeme_least (token (number s)) = 1
lexeme_least (token (boolean b)) = 1
lexeme_least (token null) = 1
lexeme_least (token bad) = 0
lexeme_least comma = 1
lexeme_least colon = 0

abbrev pub lexemes_least : List Lexeme → ℕ
lexemes_least [] = 0
lexemes_least (l ∷ ls) = lexeme_least l + lexemes_least ls

-- its text is UTF-8, where it has one
abbrev pub IsSoundToken : Token → Type 0
IsSoundToken begin_object = Unit {0}
IsSoundToken end_object = Unit {0}
IsSoundToken begin_array = Unit {0}
IsSoundToken end_array = Unit {0}
IsSoundToken (key s) = Unit {0}
IsSoundToken (string s) = IsUtf8 s
IsSoundToken (number s) = Unit {0}
IsSoundToken (boolean b) = Unit {0}
IsSoundToken null = Unit {0}
IsSoundToken bad = Unit {0}

abbrev pub IsSoundLexeme : Lexeme → Type 0
IsSoundLexeme (token t) = IsSoundToken t
IsSoundLexeme comma = Unit {0}
IsSoundLexeme colon = Unit {0}

abbrev pub AreSoundLexemes : List Lexeme → Type 0
AreSoundLexemes [] = Unit {0}
AreSoundLexemes (l ∷ ls) = IsSoundLexeme l × AreSoundLexemes ls

-- a lexeme that counts as one byte at most, and has no text
abbrev IsPlain : Lexeme → Type 0
IsPlain l = (lexeme_least l ≤ 1) × IsSoundLexeme l

plain_either : (b : Bool) (x y : Lexeme) → IsPlain x → IsPlain y → IsPlain (cond b x y)
plain_either true x y p q = p
plain_either false x y p q = q

plain_token : (b : Bool) (x y : Token) → IsPlain (token x) → IsPlain (token y) → IsPlain (token (cond b x y))
plain_token true x y p q = p
plain_token false x y p q = q

operator_plain : (x : ℕ) → IsPlain (operator_lexeme x)
operator_plain x =
    plain_either (x == ascii.open_brace) _ _ (omega arith, tt) (plain_either (x == ascii.close_brace) _ _ (omega arith, tt)
    (plain_either (x == ascii.open_bracket) _ _ (omega arith, tt) (plain_either (x == ascii.close_bracket) _ _ (omega arith, tt) (plain_either (x == ascii.comma) _ _ (omega arith, tt) (omega arith, tt)))))

number_plain : (t : List ℕ) (o : Option (List ℕ)) → IsPlain (token (number_before t o))
number_plain t None = (omega arith, tt)
number_plain t (Some rest) = plain_token (ends_word rest) _ _ (omega arith, tt) (omega arith, tt)

literal_plain : (name : List ℕ) (x : Token) (t : List ℕ) → IsPlain (token x) → IsPlain (token (literal name x t))
literal_plain name x t p = plain_token _ x bad p (omega arith, tt)

word_plain : (t : List ℕ) → IsPlain (token (word t))
unfolding word
word_plain t =
    plain_token (head t == ascii.lower_t) _ _ (literal_plain ascii.true_text (boolean true) t (omega arith, tt)) (plain_token (head t == ascii.lower_f) _ _ (literal_plain ascii.false_text (boolean false) t (omega arith, tt))
    (plain_token (head t == ascii.lower_n) _ _ (literal_plain ascii.null_text null t (omega arith, tt)) (number_plain t (after_number t))))

-- what is lexed takes no more bytes than there are, but those of the string that it begins in, and its texts are UTF-8
abbrev Lexed : ℕ → ℕ → List Lexeme → Type 0
Lexed most passed ls = (lexemes_least ls + passed ≤ most) × AreSoundLexemes ls

one_more : (n : ℕ) (l : Lexeme) (ls : List Lexeme) (passed : ℕ) → IsPlain l → Lexed n passed ls → Lexed (suc n) 0 (l ∷ ls)
one_more n l ls passed p h = (omega (arith, p.0, h.0), (p.1, h.1))

string_more : (n : ℕ) (o : Option (List ℕ)) (ls : List Lexeme) (passed : ℕ) → FitsBehind [] passed o → Lexed n passed ls → Lexed (suc n) 0 (token (string_token o) ∷ ls)
string_more n None ls passed fits h = (omega (arith, h.0), (tt, h.1))
string_more n (Some s) ls passed fits h = (omega (arith, fits.0, h.0), (fits.1, h.1))

no_more : (n : ℕ) (ls : List Lexeme) (passed : ℕ) → Lexed n passed ls → Lexed (suc n) 0 ls
no_more n ls passed h = (omega (arith, h.0), h.1)

inside : (n : ℕ) (ls : List Lexeme) (passed : ℕ) → Lexed n passed ls → Lexed (suc n) (1 + passed) ls
inside n ls passed h = (omega (arith, h.0), h.1)

abbrev lexes : List ℕ → Mode → Type 0
lexes xs m = Lexed (length xs) (span m xs) (lex m xs)

step : (m : Mode) (c : Class) (x : ℕ) (xs : List ℕ) → ((next : Mode) → lexes xs next) → (c ≡ quote → IsUtf8 xs) → Lexed (suc (length xs)) (span_byte m c (λ next. span next xs)) (lex_byte m c x xs (λ next. lex next xs))
step between quote x xs more u = string_more _ _ _ _ (content_fits plain [] xs (u refl)) (more in_string)
step between backslash x xs more u = one_more _ (token bad) _ _ (omega arith, tt) (more in_word)
step between operator x xs more u = one_more _ (operator_lexeme x) _ _ (operator_plain x) (more between)
step between space x xs more u = no_more _ _ _ (more between)
step between other x xs more u = one_more _ (token (word (x ∷ xs))) _ _ (word_plain (x ∷ xs)) (more in_word)
step in_word quote x xs more u = no_more _ _ _ (more in_word)
step in_word backslash x xs more u = no_more _ _ _ (more in_word)
step in_word operator x xs more u = one_more _ (operator_lexeme x) _ _ (operator_plain x) (more between)
step in_word space x xs more u = no_more _ _ _ (more between)
step in_word other x xs more u = no_more _ _ _ (more in_word)
step in_string quote x xs more u = (omega (arith, (more between).0), (more between).1)
step in_string backslash x xs more u = inside _ _ _ (more in_escape)
step in_string operator x xs more u = inside _ _ _ (more in_string)
step in_string space x xs more u = inside _ _ _ (more in_string)
step in_string other x xs more u = inside _ _ _ (more in_string)
step in_escape c x xs more u = inside _ _ _ (more in_string)

is_quote : (x : ℕ) → class x ≡ quote → x ≡ 34
is_quote x = by (x == 34) (x == 92) (is_operator x) (is_space x) (eqb-true x 34)
  where
    by : (q b o s : Bool) → (q ≡ true → x ≡ 34) → cond q quote (cond b backslash (cond o operator (cond s space other))) ≡ quote → x ≡ 34
    by true b o s is e = is refl
    by false true o s is e = cc
    by false false true s is e = cc
    by false false false true is e = cc
    by false false false false is e = cc

lexed : (m : Mode) (front xs : List ℕ) → IsUtf8 (front ++ xs) → lexes xs m
unfolding lex span
lexed between front [] u = (omega arith, tt)
lexed in_word front [] u = (omega arith, tt)
lexed in_string front [] u = (omega arith, tt)
lexed in_escape front [] u = (omega arith, tt)
lexed m front (x ∷ xs) u =
    step m (class x) x xs (λ next. lexed next (front ++ x ∷ []) xs (subst IsUtf8 (sym (append_assoc front (x ∷ []) xs)) u))
    (λ is. (parted front xs x (subst (λ y. y < 128) (sym (is_quote x is)) (omega arith)) u).1)

-- ---- tokens

-- the bytes that a token takes at least: a number's with the comma that parts it from the next
abbrev pub token_least : Token → ℕ
token_least begin_object = 0
token_least end_object = 0
token_least begin_array = 1
token_least end_array = 0
token_least (key s) = 0
token_least (string s) = 2 + length s
token_least (number s) = 2
token_least (boolean b) = 1
token_least null = 1
token_least bad = 0

abbrev pub tokens_least : List Token → ℕ
tokens_least [] = 0
tokens_least (t ∷ ts) = token_least t + tokens_least ts

abbrev pub AreSoundTokens : List Token → Type 0
AreSoundTokens [] = Unit {0}
AreSoundTokens (t ∷ ts) = IsSoundToken t × AreSoundTokens ts

-- the comma that is still to be counted at a place
abbrev commas : Place → ℕ
commas fresh = 1
commas after_value = 0
commas after_comma = 1
commas after_key = 1

abbrev Placed : ℕ → List Token → Type 0
Placed most ts = (tokens_least ts ≤ most) × AreSoundTokens ts

bad_placed : (n : ℕ) → Placed n (bad ∷ [])
bad_placed n = (omega arith, (tt, tt))

abbrev Follows : List Lexeme → (Place → List Token) → Type 0
Follows ls k = (next : Place) → Placed (lexemes_least ls + commas next) (k next)

begins : (p : Place) (t : Token) (next : Place) (ls : List Lexeme) (k : Place → List Token) → Follows ls k → IsSoundToken t → token_least t + commas next ≤ lexeme_least (token t) + 1 → Placed (lexeme_least (token t) + lexemes_least ls + commas p) (if_allowed (may_begin p) t k next)
begins fresh t next ls k more sound le = (omega (arith, (more next).0, le), (sound, (more next).1))
begins after_value t next ls k more sound le = bad_placed _
begins after_comma t next ls k more sound le = (omega (arith, (more next).0, le), (sound, (more next).1))
begins after_key t next ls k more sound le = bad_placed _

ends : (p : Place) (t : Token) (ls : List Lexeme) (k : Place → List Token) → Follows ls k → IsSoundToken t → token_least t ≤ lexeme_least (token t) → Placed (lexeme_least (token t) + lexemes_least ls + commas p) (if_allowed (may_close p) t k after_value)
ends fresh t ls k more sound le = (omega (arith, (more after_value).0, le), (sound, (more after_value).1))
ends after_value t ls k more sound le = (omega (arith, (more after_value).0, le), (sound, (more after_value).1))
ends after_comma t ls k more sound le = bad_placed _
ends after_key t ls k more sound le = bad_placed _

text_begins : (p : Place) (s : List ℕ) (b : Bool) (ls : List Lexeme) (k : Place → List Token) → Follows ls k → IsUtf8 s → Placed (2 + length s + lexemes_least ls + commas p) (place_token p (string s) b k)
text_begins fresh s true ls k more sound = (omega (arith, (more after_key).0), (tt, (more after_key).1))
text_begins after_value s true ls k more sound = bad_placed _
text_begins after_comma s true ls k more sound = (omega (arith, (more after_key).0), (tt, (more after_key).1))
text_begins after_key s true ls k more sound = bad_placed _
text_begins p s false ls k more sound = begins p (string s) after_value ls k more sound (omega arith)

placed : (p : Place) (t : Token) (b : Bool) (ls : List Lexeme) (k : Place → List Token) → Follows ls k → IsSoundToken t → Placed (lexeme_least (token t) + lexemes_least ls + commas p) (place_token p t b k)
placed p begin_object b ls k more sound = begins p begin_object fresh ls k more tt (omega arith)
placed p end_object b ls k more sound = ends p end_object ls k more tt (omega arith)
placed p begin_array b ls k more sound = begins p begin_array fresh ls k more tt (omega arith)
placed p end_array b ls k more sound = ends p end_array ls k more tt (omega arith)
placed p (key s) b ls k more sound = bad_placed _
placed p (string s) b ls k more sound = text_begins p s b ls k more sound
placed p (number s) b ls k more sound = begins p (number s) after_value ls k more tt (omega arith)
placed p (boolean c) b ls k more sound = begins p (boolean c) after_value ls k more tt (omega arith)
placed p null b ls k more sound = begins p null after_value ls k more tt (omega arith)
placed p bad b ls k more sound = bad_placed _

punctuated : (p : Place) (ls : List Lexeme) → AreSoundLexemes ls → Placed (lexemes_least ls + commas p) (punctuate p ls)
unfolding punctuate
punctuated fresh [] h = (omega arith, tt)
punctuated after_value [] h = (omega arith, tt)
punctuated after_comma [] h = bad_placed _
punctuated after_key [] h = bad_placed _
punctuated fresh (token t ∷ ls) h = placed fresh t (begins_colon ls) ls (λ next. punctuate next ls) (λ next. punctuated next ls h.1) h.0
punctuated after_value (token t ∷ ls) h = placed after_value t (begins_colon ls) ls (λ next. punctuate next ls) (λ next. punctuated next ls h.1) h.0
punctuated after_comma (token t ∷ ls) h = placed after_comma t (begins_colon ls) ls (λ next. punctuate next ls) (λ next. punctuated next ls h.1) h.0
punctuated after_key (token t ∷ ls) h = placed after_key t (begins_colon ls) ls (λ next. punctuate next ls) (λ next. punctuated next ls h.1) h.0
punctuated fresh (comma ∷ ls) h = bad_placed _
punctuated after_value (comma ∷ ls) h = let m = punctuated after_comma ls h.1 in (omega (arith, m.0), m.1)
punctuated after_comma (comma ∷ ls) h = bad_placed _
punctuated after_key (comma ∷ ls) h = bad_placed _
punctuated fresh (colon ∷ ls) h = bad_placed _
punctuated after_value (colon ∷ ls) h = bad_placed _
punctuated after_comma (colon ∷ ls) h = bad_placed _
punctuated after_key (colon ∷ ls) h = let m = punctuated fresh ls h.1 in (omega (arith, m.0), m.1)

-- the tokens of a text take no more than its bytes and one comma, and their texts are UTF-8 where it is
pub tokens_fit : (text : List ℕ) → IsUtf8 text → (tokens_least (tokens text) ≤ length text + 1) × AreSoundTokens (tokens text)
tokens_fit text u =
    let l = lexed between [] text u in
    let t = punctuated fresh (lex between text) l.1 in
    (omega (arith, l.0, t.0), t.1)

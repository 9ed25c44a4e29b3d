-- The ints of a text's logical lines have 128 bits: a wider literal is a fault.
use Rattle.std.proofs.Common.{ℕ, ℤ, List}
use Rattle.std.specs.Prelude.{FitsSigned}
use Rattle.std.specs.Int.{w128}
use Rattle.std.proofs.lemmas.Int.{fits_signed_from_abs}
use Rattle.py_tree.specs.declared.names.Place.{Place}
use Rattle.py_tree.specs.Tokens.{PlainToken, PlainLine}
use Rattle.py_lexer.specs.Cursor.{At}
use Rattle.py_lexer.specs.LogicalLines.{Outcome, found, stops, led_by, token, IsNumber, number_bad, number_wide, number_is, IsString, string_stops, string_is, IsSign, sign_is, sign_none, IsToken, token_broken, token_word, token_number, token_string, token_sign, IsTokens, tokens_stop, tokens_gap, tokens_end, tokens_open, tokens_more, IsLine, line_misplaced, line_stops, line_is, IsLines, lines_end, lines_bare, lines_bare_stops, lines_stop, lines_more, Lexed, has_lines, has_fault, IsText, text_too_long, text_stops, text_lines}
use Rattle.accepted_texts.proofs.LeftInts.{KindInts, TokensInts, LinesInts}

-- an int of 128 bits
abbrev pub IsReal : ℤ → Type 0
IsReal = FitsSigned w128

abbrev OneToken : Outcome PlainToken → Type 0
OneToken (found t m) = KindInts IsReal t.kind
OneToken (stops f) = Unit {0}

abbrev SomeTokens : Outcome (List PlainToken) → Type 0
SomeTokens (found ts m) = TokensInts IsReal ts
SomeTokens (stops f) = Unit {0}

abbrev OneLine : Outcome PlainLine → Type 0
OneLine (found l m) = TokensInts IsReal l.tokens
OneLine (stops f) = Unit {0}

abbrev SomeLines : Outcome (List PlainLine) → Type 0
SomeLines (found ls m) = LinesInts IsReal ls
SomeLines (stops f) = Unit {0}

number : (i : At) (o : Outcome PlainToken) → IsNumber i o → OneToken o
unfolding token
number i o (number_bad e) = tt
number i o (number_wide e w) = tt
number i o (number_is e w) = fits_signed_from_abs w128 _ w

string : (i : At) (o : Outcome PlainToken) → IsString i o → OneToken o
unfolding token
string i o (string_stops b) = tt
string i o (string_is b) = tt

one_sign : (i : At) (o : Outcome PlainToken) → IsSign i o → OneToken o
unfolding token
one_sign i o (sign_is e) = tt
one_sign i o (sign_none e) = tt

one_token : (i : At) (o : Outcome PlainToken) → IsToken i o → OneToken o
unfolding token
one_token i o (token_broken z) = tt
one_token i o (token_word z l) = tt
one_token i o (token_number z l d n) = number i o n
one_token i o (token_string z l d q t) = string i o t
one_token i o (token_sign z l d q t) = one_sign i o t

led_tokens : (t : PlainToken) (o : Outcome (List PlainToken)) → KindInts IsReal t.kind → SomeTokens o → SomeTokens (led_by t o)
led_tokens t (found ts m) first s = (first, s)
led_tokens t (stops f) first s = tt

tokens : (b : List Place) (i : At) (o : Outcome (List PlainToken)) → IsTokens b i o → SomeTokens o
tokens b i o (tokens_stop t) = tt
tokens b i o (tokens_gap t g) = tt
tokens b i o (tokens_end t g e n) = (one_token i _ t, tt)
tokens b i o (tokens_open t g e n) = tt
tokens b i o (tokens_more t g e more) = led_tokens _ _ (one_token i _ t) (tokens _ _ _ more)

line : (cs : List ℕ) (i : At) (o : Outcome PlainLine) → IsLine cs i o → OneLine o
line cs i o (line_misplaced c) = tt
line cs i o (line_stops c t) = tt
line cs i o (line_is c t) = tokens _ _ _ t

led_lines : (l : PlainLine) (o : Outcome (List PlainLine)) → TokensInts IsReal l.tokens → SomeLines o → SomeLines (led_by l o)
led_lines l (found ls m) first s = (first, s)
led_lines l (stops f) first s = tt

lines : (cs : List ℕ) (i : At) (o : Outcome (List PlainLine)) → IsLines cs i o → SomeLines o
lines cs i o (lines_end a) = tt
lines cs i o (lines_bare a t b more) = lines _ _ o more
lines cs i o (lines_bare_stops a t b) = tt
lines cs i o (lines_stop a t l) = tt
lines cs i o (lines_more a t l more) = led_lines _ _ (line cs i _ l) (lines _ _ _ more)

abbrev ReadInts : Lexed → Type 0
ReadInts (has_lines ls) = LinesInts IsReal ls
ReadInts (has_fault f) = Unit {0}

read_ints : (text : List ℕ) (read : Lexed) → IsText text read → ReadInts read
read_ints text read (text_too_long n) = tt
read_ints text read (text_stops n h) = tt
read_ints text read (text_lines n h) = lines _ _ _ h

pub lexed_ints : (text : List ℕ) (ls : List PlainLine) → IsText text (has_lines ls) → LinesInts IsReal ls
lexed_ints text ls is = read_ints text (has_lines ls) is

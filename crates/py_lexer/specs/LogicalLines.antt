-- The logical lines of a text, or its first fault (Python Language Reference, lexical analysis). Reading from a place
-- comes to what is found there and the place behind it, or stops with a fault.
use Rattle.std.specs.Prelude.{◌≡◌, ℕ, ◌+◌, ◌*◌, ◌-◌, ◌<◌, ◌≤◌, ◌^◌, pos, Bool, true, false, not, ◌||◌, ◌&&◌, ◌==◌, nat_lt, if◌then◌else◌, List, [], ◌∷◌, ◌++◌, length, take, slice_get, slice_index_or, slice_range, Option, Some, None}
use Rattle.py_tree.specs.declared.names.Place.{Place}
use Rattle.py_tree.specs.StringText.{escape}
use Rattle.py_tree.specs.Tokens.{Lexeme, LWord, LInt, LStr, LSign, PlainToken, PlainLine, signs}
use Rattle.py_lexer.specs.declared.fault.LexKind.{LexKind}
use Rattle.py_lexer.specs.declared.fault.LexKind.TheVariants.{TooLong, NotUtf8, TabIndent, BadDedent, BadEscape, OpenString, BadNumber, LiteralTooWide, BadCharacter, OpenBracket}
use Rattle.py_lexer.specs.declared.fault.LexFault.{LexFault}
use Rattle.py_lexer.specs.declared.strings.Quote.{Quote}
use Rattle.py_lexer.specs.Cursor.{At, start, at_end, byte, rest, place, moved, is_line_end, past_line, ends, is_broken, stray, fault_at, is_letter, is_digit, is_backslash, is_hash, is_quote, is_blank, word_len, digits, blanks, spaces, sign}
use Rattle.py_lexer.specs.Columns.{IsBadDedent}

pub data Outcome (A : Type 0) : Type 0 where
  found : A → At → Outcome A
  stops : LexFault → Outcome A

-- nothing is found but the place behind
abbrev pub Nothing : Type 0
Nothing = Unit {0}

abbrev pub reaches : At → Outcome Nothing
reaches m = found tt m

-- an item before what follows
abbrev pub led_by : {A : Type 0} → A → Outcome (List A) → Outcome (List A)
led_by x (found xs m) = found (x ∷ xs) m
led_by x (stops f) = stops f

-- a comment behind its sign, up to the line's end
pub data IsComment : At → Outcome Nothing → Type 0 where
  comment_ends : {i : At} → ends i ≡ true → IsComment i (reaches i)
  comment_stops : {i : At} {k : LexKind} → ends i ≡ false → stray i ≡ Some k → IsComment i (stops (fault_at k i))
  comment_more : {i : At} {o : Outcome Nothing} → ends i ≡ false → stray i ≡ None → IsComment (moved 1 i) o → IsComment i o

-- what separates tokens where so many brackets are open: spaces, tabs, comments, within brackets line ends, and a
-- backslash directly before a line end
unfoldable pub joins : At → Bool
joins i = is_backslash (byte i) && is_line_end (moved 1 i)

unfoldable pub passes_line : ℕ → At → Bool
passes_line depth i = nat_lt 0 depth && is_line_end i

pub data IsGap : ℕ → At → Outcome Nothing → Type 0 where
  gap_blank : {d : ℕ} {i : At} {o : Outcome Nothing} → is_blank (byte i) ≡ true → IsGap d (moved 1 i) o → IsGap d i o
  gap_comment : {d : ℕ} {i m : At} {o : Outcome Nothing} → is_hash (byte i) ≡ true → IsComment (moved 1 i) (reaches m) → IsGap d m o → IsGap d i o
  gap_stops : {d : ℕ} {i : At} {f : LexFault} → is_hash (byte i) ≡ true → IsComment (moved 1 i) (stops f) → IsGap d i (stops f)
  gap_line : {d : ℕ} {i : At} {o : Outcome Nothing} → passes_line d i ≡ true → IsGap d (past_line i) o → IsGap d i o
  gap_join : {d : ℕ} {i : At} {o : Outcome Nothing} → joins i ≡ true → IsGap d (past_line (moved 1 i)) o → IsGap d i o
  gap_ends : {d : ℕ} {i : At} → is_blank (byte i) ≡ false → is_hash (byte i) ≡ false → passes_line d i ≡ false → joins i ≡ false → IsGap d i (reaches i)

-- a quote stands three times here
abbrev pub stands_thrice : ℕ → At → Bool
stands_thrice mark i = byte i == mark && byte (moved 1 i) == mark && byte (moved 2 i) == mark

-- the quotes that begin a string here
unfoldable pub quote_at : At → Quote
quote_at i = record { mark = byte i; is_triple = stands_thrice (byte i) i }

abbrev pub quote_len : Quote → ℕ
quote_len q = if q.is_triple then 3 else 1

unfoldable pub closes : Quote → At → Bool
closes q i = if q.is_triple then stands_thrice q.mark i else byte i == q.mark

-- one byte of a string, or one escape
pub data IsPiece : At → Outcome Nothing → Type 0 where
  piece_stops : {i : At} {k : LexKind} → stray i ≡ Some k → IsPiece i (stops (fault_at k i))
  piece_byte : {i : At} → stray i ≡ None → is_backslash (byte i) ≡ false → IsPiece i (reaches (moved 1 i))
  piece_escape : {i : At} {e : ℕ × ℕ} → stray i ≡ None → is_backslash (byte i) ≡ true → escape (rest (moved 1 i)) ≡ Some e → IsPiece i (reaches (moved (1 + e.1) i))
  piece_bad : {i : At} → stray i ≡ None → is_backslash (byte i) ≡ true → escape (rest (moved 1 i)) ≡ None → IsPiece i (stops (fault_at BadEscape i))

-- the rest of a string that began at s, up to behind its closing quotes
pub data IsBody : Quote → At → At → Outcome Nothing → Type 0 where
  body_open : {q : Quote} {s i : At} → at_end i ≡ true → IsBody q s i (stops (fault_at OpenString s))
  body_broken : {q : Quote} {s i : At} → at_end i ≡ false → is_broken i ≡ true → IsBody q s i (stops (fault_at NotUtf8 i))
  body_closed : {q : Quote} {s i : At} → at_end i ≡ false → is_broken i ≡ false → closes q i ≡ true → IsBody q s i (reaches (moved (quote_len q) i))
  body_cut : {q : Quote} {s i : At} → at_end i ≡ false → is_broken i ≡ false → closes q i ≡ false → is_line_end i ≡ true → q.is_triple ≡ false → IsBody q s i (stops (fault_at OpenString s))
  body_line : {q : Quote} {s i : At} {o : Outcome Nothing} → at_end i ≡ false → is_broken i ≡ false → closes q i ≡ false → is_line_end i ≡ true → q.is_triple ≡ true → IsBody q s (past_line i) o → IsBody q s i o
  body_stops : {q : Quote} {s i : At} {f : LexFault} → at_end i ≡ false → is_broken i ≡ false → closes q i ≡ false → is_line_end i ≡ false → IsPiece i (stops f) → IsBody q s i (stops f)
  body_more : {q : Quote} {s i m : At} {o : Outcome Nothing} → at_end i ≡ false → is_broken i ≡ false → closes q i ≡ false → is_line_end i ≡ false → IsPiece i (reaches m) → IsBody q s m o → IsBody q s i o

-- digits, with at most one underscore between two of them; the test is whether a digit came before
abbrev pub are_digits : Bool → List ℕ → Bool
are_digits after [] = after
are_digits after (b ∷ bs) = if b == 95 then after && are_digits false bs else are_digits true bs

-- the number that digits make, behind the number so_far
abbrev pub value_from : ℕ → List ℕ → ℕ
value_from so_far [] = so_far
value_from so_far (b ∷ bs) = if b == 95 then value_from so_far bs else value_from (10 * so_far + (b - 48)) bs

abbrev pub value_of : List ℕ → ℕ
value_of = value_from 0

-- a zero stands before another value
abbrev pub leads_with_zero : List ℕ → Bool
leads_with_zero [] = false
leads_with_zero (b ∷ bs) = b == 48 && nat_lt 0 (value_of (b ∷ bs))

-- digits make a number where this byte follows them
abbrev pub makes_number : List ℕ → ℕ → Bool
makes_number run next = are_digits false run && not (leads_with_zero run) && not (is_letter next || next == 46)

unfoldable pub is_number : At → Bool
is_number i = makes_number (digits i) (byte (moved (length (digits i)) i))

-- the token from i up to m
unfoldable pub token : Lexeme → At → At → PlainToken
token kind i m = record { kind = kind; bytes = slice_range i.text i.at m.at; place = place i }

-- how many bytes a sign has
unfoldable pub sign_len : ℕ → ℕ
sign_len number = length (slice_index_or signs number [])

unfoldable pub behind_word : At → At
behind_word i = moved (word_len i) i

unfoldable pub behind_digits : At → At
behind_digits i = moved (length (digits i)) i

-- digits: of the two faults at one place the first of the list is met
pub data IsNumber : At → Outcome PlainToken → Type 0 where
  number_bad : {i : At} → is_number i ≡ false → IsNumber i (stops (fault_at BadNumber i))
  number_wide : {i : At} → is_number i ≡ true → 2 ^ 127 ≤ value_of (digits i) → IsNumber i (stops (fault_at LiteralTooWide i))
  number_is : {i : At} → is_number i ≡ true → value_of (digits i) < 2 ^ 127 → IsNumber i (found (token (LInt (pos (value_of (digits i)))) i (behind_digits i)) (behind_digits i))

-- quotes, and what follows up to the closing ones
pub data IsString : At → Outcome PlainToken → Type 0 where
  string_stops : {i : At} {f : LexFault} → IsBody (quote_at i) i (moved (quote_len (quote_at i)) i) (stops f) → IsString i (stops f)
  string_is : {i m : At} → IsBody (quote_at i) i (moved (quote_len (quote_at i)) i) (reaches m) → IsString i (found (token LStr i m) m)

-- a sign, or a character that begins no token
pub data IsSign : At → Outcome PlainToken → Type 0 where
  sign_is : {i : At} {n : ℕ} → sign i ≡ Some n → IsSign i (found (token (LSign n) i (moved (sign_len n) i)) (moved (sign_len n) i))
  sign_none : {i : At} → sign i ≡ None → IsSign i (stops (fault_at BadCharacter i))

-- the token that begins here
pub data IsToken : At → Outcome PlainToken → Type 0 where
  token_broken : {i : At} → is_broken i ≡ true → IsToken i (stops (fault_at NotUtf8 i))
  token_word : {i : At} → is_broken i ≡ false → is_letter (byte i) ≡ true → IsToken i (found (token LWord i (behind_word i)) (behind_word i))
  token_number : {i : At} {o : Outcome PlainToken} → is_broken i ≡ false → is_letter (byte i) ≡ false → is_digit (byte i) ≡ true → IsNumber i o → IsToken i o
  token_string : {i : At} {o : Outcome PlainToken} → is_broken i ≡ false → is_letter (byte i) ≡ false → is_digit (byte i) ≡ false → is_quote (byte i) ≡ true → IsString i o → IsToken i o
  token_sign : {i : At} {o : Outcome PlainToken} → is_broken i ≡ false → is_letter (byte i) ≡ false → is_digit (byte i) ≡ false → is_quote (byte i) ≡ false → IsSign i o → IsToken i o

-- a bracket of either kind
abbrev pub opens : Lexeme → Bool
opens (LSign n) = n == 11 || n == 13
opens LWord = false
opens (LInt n) = false
opens LStr = false

abbrev pub shuts : Lexeme → Bool
shuts (LSign n) = n == 12 || n == 14
shuts LWord = false
shuts (LInt n) = false
shuts LStr = false

-- the places of the brackets that are open behind a token, the outermost first: a closing bracket ends the innermost
abbrev pub open_behind : List Place → PlainToken → List Place
open_behind brackets t =
    if opens t.kind then brackets ++ t.place ∷ []
    else (if shuts t.kind then take (length brackets - 1) brackets
    else brackets)

-- the innermost of the open brackets
abbrev pub innermost : List Place → Option Place
innermost brackets = slice_get brackets (length brackets - 1)

abbrev pub open_bracket : Place → LexFault
open_bracket place = record { place = place; kind = OpenBracket }

-- the tokens of a logical line from the one on that begins here, where these brackets are open
pub data IsTokens : List Place → At → Outcome (List PlainToken) → Type 0 where
  tokens_stop : {b : List Place} {i : At} {f : LexFault} → IsToken i (stops f) → IsTokens b i (stops f)
  tokens_gap : {b : List Place} {i n : At} {t : PlainToken} {f : LexFault} → IsToken i (found t n) → IsGap (length (open_behind b t)) n (stops f) → IsTokens b i (stops f)
  tokens_end : {b : List Place} {i n m : At} {t : PlainToken} → IsToken i (found t n) → IsGap (length (open_behind b t)) n (reaches m) → ends m ≡ true → innermost (open_behind b t) ≡ None → IsTokens b i (found (t ∷ []) m)
  tokens_open : {b : List Place} {i n m : At} {t : PlainToken} {p : Place} → IsToken i (found t n) → IsGap (length (open_behind b t)) n (reaches m) → ends m ≡ true → innermost (open_behind b t) ≡ Some p → IsTokens b i (stops (open_bracket p))
  tokens_more : {b : List Place} {i n m : At} {t : PlainToken} {o : Outcome (List PlainToken)} → IsToken i (found t n) → IsGap (length (open_behind b t)) n (reaches m) → ends m ≡ false → IsTokens (open_behind b t) m o → IsTokens b i (led_by t o)

-- past the spaces and tabs here
unfoldable pub unblanked : At → At
unblanked i = moved (blanks i) i

unfoldable pub unspaced : At → At
unspaced i = moved (spaces i) i

-- a tab stands before what is neither space nor tab
unfoldable pub has_tab : At → Bool
has_tab i = byte (unspaced i) == 9

-- behind its spaces and tabs, a line has more than a comment
unfoldable pub has_token : At → Bool
has_token i = not (ends i) && not (is_hash (byte i))

-- what is left of a line without a token, behind its spaces and tabs
pub data IsBare : At → Outcome Nothing → Type 0 where
  bare_ends : {i : At} → ends i ≡ true → IsBare i (reaches i)
  bare_comment : {i : At} {o : Outcome Nothing} → ends i ≡ false → is_hash (byte i) ≡ true → IsComment (moved 1 i) o → IsBare i o

-- the column of a line with a token, behind lines with these columns, and the place of that token
pub data IsColumn : List ℕ → At → Outcome ℕ → Type 0 where
  column_tab : {cs : List ℕ} {i : At} → has_tab i ≡ true → IsColumn cs i (stops (fault_at TabIndent (unspaced i)))
  column_broken : {cs : List ℕ} {i : At} → has_tab i ≡ false → is_broken (unblanked i) ≡ true → IsColumn cs i (stops (fault_at NotUtf8 (unblanked i)))
  column_dedent : {cs : List ℕ} {i : At} → has_tab i ≡ false → is_broken (unblanked i) ≡ false → IsBadDedent (spaces i) cs → IsColumn cs i (stops (fault_at BadDedent (unblanked i)))
  column_is : {cs : List ℕ} {i : At} → has_tab i ≡ false → is_broken (unblanked i) ≡ false → (IsBadDedent (spaces i) cs → ⊥) → IsColumn cs i (found (spaces i) (unblanked i))

-- the logical line that begins here, behind lines with these columns
pub data IsLine : List ℕ → At → Outcome PlainLine → Type 0 where
  line_misplaced : {cs : List ℕ} {i : At} {f : LexFault} → IsColumn cs i (stops f) → IsLine cs i (stops f)
  line_stops : {cs : List ℕ} {i j : At} {c : ℕ} {f : LexFault} → IsColumn cs i (found c j) → IsTokens [] j (stops f) → IsLine cs i (stops f)
  line_is : {cs : List ℕ} {i j m : At} {c : ℕ} {ts : List PlainToken} → IsColumn cs i (found c j) → IsTokens [] j (found ts m) → IsLine cs i (found (record { column = c; tokens = ts }) m)

-- the logical lines from the beginning of a line on, behind lines with these columns
pub data IsLines : List ℕ → At → Outcome (List PlainLine) → Type 0 where
  lines_end : {cs : List ℕ} {i : At} → at_end i ≡ true → IsLines cs i (found [] i)
  lines_bare : {cs : List ℕ} {i m : At} {o : Outcome (List PlainLine)} → at_end i ≡ false → has_token (unblanked i) ≡ false → IsBare (unblanked i) (reaches m) → IsLines cs (past_line m) o → IsLines cs i o
  lines_bare_stops : {cs : List ℕ} {i : At} {f : LexFault} → at_end i ≡ false → has_token (unblanked i) ≡ false → IsBare (unblanked i) (stops f) → IsLines cs i (stops f)
  lines_stop : {cs : List ℕ} {i : At} {f : LexFault} → at_end i ≡ false → has_token (unblanked i) ≡ true → IsLine cs i (stops f) → IsLines cs i (stops f)
  lines_more : {cs : List ℕ} {i m : At} {l : PlainLine} {o : Outcome (List PlainLine)} → at_end i ≡ false → has_token (unblanked i) ≡ true → IsLine cs i (found l m) → IsLines (cs ++ l.column ∷ []) (past_line m) o → IsLines cs i (led_by l o)

-- what a text is: logical lines, or a first fault
pub data Lexed : Type 0 where
  has_lines : List PlainLine → Lexed
  has_fault : LexFault → Lexed

abbrev pub first_place : Place
first_place = record { line = 1; col = 1 }

pub data IsText : List ℕ → Lexed → Type 0 where
  text_too_long : {text : List ℕ} → 1048576 < length text → IsText text (has_fault (record { place = first_place; kind = TooLong }))
  text_stops : {text : List ℕ} {f : LexFault} → length text ≤ 1048576 → IsLines [] (start text) (stops f) → IsText text (has_fault f)
  text_lines : {text : List ℕ} {ls : List PlainLine} {m : At} → length text ≤ 1048576 → IsLines [] (start text) (found ls m) → IsText text (has_lines ls)

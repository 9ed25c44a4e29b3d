-- A place in a text, and what stands there.
use Rattle.std.specs.Prelude.{ℕ, ◌+◌, ◌-◌, ◌≤◌, Bool, not, ◌||◌, ◌&&◌, ◌==◌, nat_le, nat_lt, if◌then◌else◌, List, length, drop, take_while, slice_index, Option, Some, None, position, nat_eq}
use Rattle.std.specs.List.{starts_with}
use Rattle.std.specs.Str.Lossy.{utf8_valid_len}
use Rattle.py_tree.specs.declared.names.Place.{Place}
use Rattle.py_tree.specs.Tokens.{signs}
use Rattle.py_lexer.specs.declared.fault.LexKind.{LexKind}
use Rattle.py_lexer.specs.declared.fault.LexKind.TheVariants.{NotUtf8, BadCharacter}
use Rattle.py_lexer.specs.declared.fault.LexFault.{LexFault}

-- a place: how many bytes stand before it, its line from 1, and 1 plus the bytes before it on that line
pub record At : Type 0 where
  pub text : List ℕ
  pub at : ℕ
  pub line : ℕ
  pub col : ℕ

abbrev pub start : List ℕ → At
start text = record { text = text; at = 0; line = 1; col = 1 }

-- so that no count leaves its type
pub record IsWithin (text : List ℕ) (at line col : ℕ) : Type 0 where
  pub in_text : at ≤ length text
  pub size : length text ≤ 1048576
  pub lines : line ≤ at + 1
  pub cols : col ≤ at + 1

unfoldable pub at_end : At → Bool
at_end i = nat_le (length i.text) i.at

-- the byte here, and 0 past the end
unfoldable pub byte : At → ℕ
byte i = slice_index i.text i.at

-- the bytes from here on
unfoldable pub rest : At → List ℕ
rest i = drop i.at i.text

unfoldable pub place : At → Place
place i = record { line = i.line; col = i.col }

-- n bytes further on the same line
unfoldable pub moved : ℕ → At → At
moved n i = record i { at = i.at + n; col = i.col + n }

-- n bytes further, and on the next line
unfoldable pub next_line : ℕ → At → At
next_line n i = record i { at = i.at + n; line = i.line + 1; col = 1 }

-- how many bytes are left
unfoldable pub bytes_left : At → ℕ
bytes_left i = length i.text - i.at

-- how long the line end here is: LF, or CR LF
unfoldable pub line_end : At → ℕ
line_end i = if byte i == 10 then 1 else (if byte i == 13 && byte (moved 1 i) == 10 then 2 else 0)

unfoldable pub is_line_end : At → Bool
is_line_end i = nat_lt 0 (line_end i)

-- past the line end here, if there is one
unfoldable pub past_line : At → At
past_line i = if is_line_end i then next_line (line_end i) i else i

-- a line end, or the text's end
unfoldable pub ends : At → Bool
ends i = at_end i || is_line_end i

-- bytes that aren't UTF-8 begin here, or have begun before
unfoldable pub is_broken : At → Bool
is_broken i = not (at_end i) && nat_le (utf8_valid_len i.text) i.at

-- what no line holds, in strings and comments too, but at its end: bytes that aren't UTF-8, a zero byte and a CR
unfoldable pub stray : At → Option LexKind
stray i =
    if is_broken i then Some NotUtf8
    else (if byte i == 0 || byte i == 13 then Some BadCharacter
    else None)

unfoldable pub fault_at : LexKind → At → LexFault
fault_at kind i = record { place = place i; kind = kind }

abbrev pub is_letter : ℕ → Bool
is_letter b = (nat_le 65 b && nat_le b 90) || b == 95 || (nat_le 97 b && nat_le b 122)

abbrev pub is_digit : ℕ → Bool
is_digit b = nat_le 48 b && nat_le b 57

abbrev pub is_word : ℕ → Bool
is_word b = is_letter b || is_digit b

abbrev pub is_numeric : ℕ → Bool
is_numeric b = is_digit b || b == 95

abbrev pub is_space : ℕ → Bool
is_space b = b == 32

abbrev pub is_blank : ℕ → Bool
is_blank b = b == 32 || b == 9

abbrev pub is_backslash : ℕ → Bool
is_backslash b = b == 92

abbrev pub is_hash : ℕ → Bool
is_hash b = b == 35

abbrev pub is_quote : ℕ → Bool
is_quote b = b == 39 || b == 34

-- the letters, digits and underscores here
unfoldable pub word_len : At → ℕ
word_len i = length (take_while is_word (rest i))

-- the digits and underscores here
unfoldable pub digits : At → List ℕ
digits i = take_while is_numeric (rest i)

-- the spaces and tabs here; the spaces before the first tab or anything else
unfoldable pub blanks : At → ℕ
blanks i = length (take_while is_blank (rest i))

unfoldable pub spaces : At → ℕ
spaces i = length (take_while is_space (rest i))

-- the number of the first sign of the list that stands here
unfoldable pub sign : At → Option ℕ
sign i = position (starts_with nat_eq (rest i)) signs

-- Where tokens stand in their text.
use Rattle.std.specs.Prelude.{◌≡◌, ℕ, ◌+◌, ◌<◌, ◌≤◌, List, [], ◌∷◌, length, slice_index, IsUtf8}
use Rattle.std.specs.Str.Lossy.{utf8_valid_len}
use Rattle.py_tree.specs.StringText.{quotes, enclosed}
use Rattle.py_lexer.specs.declared.strings.Quote.{Quote}
use Rattle.py_lexer.specs.declared.token.TokenKind.TheVariants.{Str}
use Rattle.py_lexer.specs.declared.token.Token.{Token}
use Rattle.py_lexer.specs.declared.token.Line.{Line}
use Rattle.py_lexer.specs.Cursor.{At}
use Rattle.py_lexer.specs.LogicalLines.{quote_len}
use Rattle.py_lexer.specs.Views.{bytes_of}

-- the closing quotes stand before the second place and no earlier than the first, and all before them is UTF-8
pub record ClosedBetween (q : Quote) (from upto : At) : Type 0 where
  pub quotes_at : ℕ
  pub behind : from.at ≤ quotes_at
  pub ends : upto.at ≡ quotes_at + quote_len q
  pub valid : quotes_at < utf8_valid_len from.text
  pub mark : slice_index from.text quotes_at ≡ q.mark

-- a token spans bytes of its text, and its place counts no more than the bytes before it; a string has its quotes, and what it
-- encloses is UTF-8
pub record IsOf (text : List ℕ) (t : Token) : Type 0 where
  pub some : t.start < t.end
  pub within : t.end ≤ length text
  pub line : t.place.line ≤ t.start + 1
  pub col : t.place.col ≤ t.start + 1
  pub quoted : t.kind ≡ Str → quotes (bytes_of text t) + quotes (bytes_of text t) ≤ length (bytes_of text t)
  pub utf8 : t.kind ≡ Str → IsUtf8 (enclosed (bytes_of text t))

-- tokens of this text, each behind the one before, from a place up to another
pub data Rise (text : List ℕ) : ℕ → List Token → ℕ → Type 0 where
  risen : {from upto : ℕ} → from ≤ upto → Rise text from [] upto
  rise : {from upto : ℕ} {t : Token} {ts : List Token} → from ≤ t.start → IsOf text t → Rise text t.end ts upto → Rise text from (t ∷ ts) upto

-- the same for the tokens of lines
pub data LinesRise (text : List ℕ) : ℕ → List Line → ℕ → Type 0 where
  lines_risen : {from upto : ℕ} → from ≤ upto → LinesRise text from [] upto
  lines_rise : {from mid upto : ℕ} {l : Line} {ls : List Line} → Rise text from l.tokens mid → LinesRise text mid ls upto → LinesRise text from (l ∷ ls) upto

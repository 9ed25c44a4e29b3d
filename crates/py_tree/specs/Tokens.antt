-- Logical lines of tokens, as the grammar reads them (Python Language Reference, lexical analysis).
use Rattle.std.specs.Prelude.{ℕ, ℤ, List, [], ◌∷◌, codes}
use Rattle.py_tree.specs.declared.names.Place.{Place}

-- a word, a number, a string, or the sign of this number in the list of signs
pub data Lexeme : Type 0 where
  LWord : Lexeme
  LInt : (n : ℤ) → Lexeme
  LStr : Lexeme
  LSign : (number : ℕ) → Lexeme

-- a token: what it is, the bytes that it is spelt by, and the place of the first of them
pub record PlainToken : Type 0 where
  pub kind : Lexeme
  pub bytes : List ℕ
  pub place : Place

-- a logical line: how many spaces stand before its first token, and its tokens
pub record PlainLine : Type 0 where
  pub column : ℕ
  pub tokens : List PlainToken

-- the signs by their numbers; none begins a later one, so the first that fits is the longest
abbrev pub signs : List (List ℕ)
signs =
    codes "//=" ∷ codes "->" ∷ codes "==" ∷ codes "!=" ∷ codes "<=" ∷ codes ">=" ∷ codes "//" ∷ codes "+=" ∷ codes "-=" ∷ codes "*=" ∷ codes "%="
    ∷ codes "(" ∷ codes ")" ∷ codes "[" ∷ codes "]" ∷ codes ":" ∷ codes "," ∷ codes ";" ∷ codes "." ∷ codes "=" ∷ codes "<" ∷ codes ">"
    ∷ codes "+" ∷ codes "-" ∷ codes "*" ∷ codes "%" ∷ codes "@" ∷ []

-- Where reading stands in a text, and that a reading function answers what the grammar says.
use Rattle.std.specs.Prelude.{ℕ, ◌≡◌, ◌+◌, ◌≤◌, Bool, false, List, [], ◌∷◌, map, length, slice_get, Some, Result, Ok, Err}
use Rattle.py_tree.specs.declared.names.Place.{Place}
use Rattle.py_tree.specs.Reading.{Input, Outcome, found, stops, Nothing, is_str_kind}
use Rattle.py_tree.specs.PlainProgram.{plain_program}
use Rattle.py_tree.specs.Tokens.{PlainLine}
use Rattle.py_tree.specs.Grammar.{IsProgram, has_tree, has_fault}
use Rattle.py_lexer.specs.declared.token.Token.{Token}
use Rattle.py_lexer.specs.declared.token.Line.{Line}
use Rattle.py_lexer.specs.Spans.{IsOf, Rise, LinesRise}
use Rattle.py_lexer.specs.Views.{plain_kind, plain_token, plain_line}
use Rattle.py_parser.specs.declared.program.Parsed.{Parsed}
use Rattle.py_parser.specs.declared.syntax_error.SyntaxError.{SyntaxError}
use Rattle.py_parser.specs.declared.syntax_error.SyntaxError.TheVariants.{Fault, NoMemory}

-- what is left of a program's lines
abbrev pub input : List ℕ → List Token → Place → List Line → List (List ℕ) → Input
input text tokens behind lines names = record { tokens = map (plain_token text) tokens; behind = behind; lines = map (plain_line text) lines; names = names }

abbrev pub tokens_of_first : List Line → List Token
tokens_of_first [] = []
tokens_of_first (l ∷ ls) = l.tokens

abbrev pub first_is_string : List Token → Bool
first_is_string [] = false
first_is_string (t ∷ ts) = is_str_kind (plain_kind t.kind)

-- each is a token of the text
pub record AreOf (text : List ℕ) (tokens : List Token) : Type 0 where
  pub each : (n : ℕ) (t : Token) → slice_get tokens n ≡ Some t → IsOf text t

-- the tokens stand in the text one behind the other, and no more names were numbered than bytes were read
pub record IsReading (text : List ℕ) (tokens : List Token) (lines : List Line) (names : List (List ℕ)) : Type 0 where
  pub from : ℕ
  pub upto : ℕ
  pub short : length text ≤ 1048576
  pub rise : Rise text from tokens upto
  pub lines_rise : LinesRise text upto lines (length text)
  pub few : length names ≤ from + 18

-- what a reading function answers is what the grammar says; want of memory is free
abbrev pub Comes : {X A : Type 0} → (X → A) → (Outcome A → Type 0) → Result X SyntaxError → Input → Type 0
Comes view Is (Ok x) new = Is (found (view x) new)
Comes view Is (Err NoMemory) new = Unit {0}
Comes view Is (Err (Fault f)) new = Is (stops f)

-- the same of what leaves no trace
abbrev pub Passes : (Outcome Nothing → Type 0) → Result Nothing SyntaxError → Input → Type 0
Passes Is (Ok x) new = Is (found x new)
Passes Is (Err NoMemory) new = Unit {0}
Passes Is (Err (Fault f)) new = Is (stops f)

-- the answer of the parser is the one outcome of the lines; want of memory is free
abbrev pub Parses : List PlainLine → Result Parsed SyntaxError → Type 0
Parses lines (Ok p) = IsProgram lines (has_tree (plain_program p.program) p.names)
Parses lines (Err NoMemory) = Unit {0}
Parses lines (Err (Fault f)) = IsProgram lines (has_fault f)

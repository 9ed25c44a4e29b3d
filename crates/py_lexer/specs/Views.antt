-- Tokens and lines as the definitions see them, and what reading comes to.
use Rattle.std.specs.Prelude.{◌≡◌, ℕ, List, Option, Some, None, map, slice_range, Result, Ok, Err}
use Rattle.py_tree.specs.declared.names.Place.{Place}
use Rattle.py_tree.specs.Tokens.{Lexeme, LWord, LInt, LStr, LSign, PlainToken, PlainLine}
use Rattle.py_lexer.specs.declared.token.TokenKind.{TokenKind}
use Rattle.py_lexer.specs.declared.token.TokenKind.TheVariants.{Word, Int, Str, Sign}
use Rattle.py_lexer.specs.declared.token.Token.{Token}
use Rattle.py_lexer.specs.declared.token.Line.{Line}
use Rattle.py_lexer.specs.declared.fault.LexFault.{LexFault}
use Rattle.py_lexer.specs.declared.fault.LexError.{LexError}
use Rattle.py_lexer.specs.declared.fault.LexError.TheVariants.{Fault, NoMemory}
use Rattle.py_lexer.specs.Cursor.{At}
use Rattle.py_lexer.specs.LogicalLines.{Outcome, found, stops, has_lines, has_fault, open_bracket, IsText}

abbrev pub plain_kind : TokenKind → Lexeme
plain_kind Word = LWord
plain_kind (Int n) = LInt n
plain_kind Str = LStr
plain_kind (Sign n) = LSign n

-- the bytes of this text that a token spans
abbrev pub bytes_of : List ℕ → Token → List ℕ
bytes_of text t = slice_range text t.start t.end

abbrev pub plain_token : List ℕ → Token → PlainToken
plain_token text t = record { kind = plain_kind t.kind; bytes = bytes_of text t; place = t.place }

abbrev pub plain_line : List ℕ → Line → PlainLine
plain_line text l = record { column = l.column; tokens = map (plain_token text) l.tokens }

-- what a reading function answers is what the rules say
abbrev pub Meets : {X A : Type 0} → (X → A) → (Outcome A → Type 0) → Result X LexFault → At → Type 0
Meets view Is (Ok x) new = Is (found (view x) new)
Meets view Is (Err f) new = Is (stops f)

-- and of one that takes memory: want of it is free
abbrev pub Comes : {X A : Type 0} → (X → A) → (Outcome A → Type 0) → Result X LexError → At → Type 0
Comes view Is (Ok x) new = Is (found (view x) new)
Comes view Is (Err NoMemory) new = Unit {0}
Comes view Is (Err (Fault f)) new = Is (stops f)

-- a line's tokens, unless a bracket is open
abbrev pub Closes : Option Place → List Token → Result (List Token) LexError → Type 0
Closes None items r = r ≡ Ok items
Closes (Some p) items r = r ≡ Err (Fault (open_bracket p))

-- the lines of the text, or its fault
abbrev pub Lexes : List ℕ → Result (List Line) LexError → Type 0
Lexes text (Ok lines) = IsText text (has_lines (map (plain_line text) lines))
Lexes text (Err NoMemory) = Unit {0}
Lexes text (Err (Fault f)) = IsText text (has_fault f)

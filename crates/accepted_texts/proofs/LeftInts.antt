-- Each int of what is left to read has a property, and those that are left behind the next part have it too.
use Rattle.std.proofs.Common.{ℤ, pos, List, [], ◌∷◌}
use Rattle.py_tree.specs.Tokens.{Lexeme, LWord, LInt, LStr, LSign, PlainToken, PlainLine}
use Rattle.py_tree.specs.Reading.{Input, next, named, texted, next_line, int_value, int_of, first_token, other_tokens, first_of_lines, other_lines}

-- a token that is an int
abbrev pub KindInts : (ℤ → Type 0) → Lexeme → Type 0
KindInts P LWord = Unit {0}
KindInts P (LInt n) = P n
KindInts P LStr = Unit {0}
KindInts P (LSign number) = Unit {0}

abbrev pub TokensInts : (ℤ → Type 0) → List PlainToken → Type 0
TokensInts P [] = Unit {0}
TokensInts P (t ∷ ts) = KindInts P t.kind × TokensInts P ts

abbrev pub LinesInts : (ℤ → Type 0) → List PlainLine → Type 0
LinesInts P [] = Unit {0}
LinesInts P (l ∷ ls) = TokensInts P l.tokens × LinesInts P ls

pub record LeftInts (P : ℤ → Type 0) (i : Input) : Type 0 where
  pub tokens : TokensInts P i.tokens
  pub lines : LinesInts P i.lines

-- ---- what a step leaves

module _ (P : ℤ → Type 0) where
  others : (ts : List PlainToken) → TokensInts P ts → TokensInts P (other_tokens ts)
  others [] s = tt
  others (t ∷ ts) s = s.1

  pub passed : (i : Input) → LeftInts P i → LeftInts P (next i)
  unfolding next
  passed i s = record { tokens = others i.tokens s.tokens; lines = s.lines }

  pub passed_name : (i : Input) → LeftInts P i → LeftInts P (named i)
  unfolding named next
  passed_name i s = record { tokens = others i.tokens s.tokens; lines = s.lines }

  pub passed_text : (i : Input) → LeftInts P i → LeftInts P (texted i)
  unfolding texted next
  passed_text i s = record { tokens = others i.tokens s.tokens; lines = s.lines }

  first_line : (ls : List PlainLine) → LinesInts P ls → TokensInts P (first_of_lines ls)
  first_line [] s = tt
  first_line (l ∷ ls) s = s.0

  lines_behind : (ls : List PlainLine) → LinesInts P ls → LinesInts P (other_lines ls)
  lines_behind [] s = tt
  lines_behind (l ∷ ls) s = s.1

  pub begun : (i : Input) → LeftInts P i → LeftInts P (next_line i)
  unfolding next_line
  begun i s = record { tokens = first_line i.lines s.lines; lines = lines_behind i.lines s.lines }

  -- ---- the int that stands next; where none does, it reads as 0

  of_kind : (k : Lexeme) → P (pos 0) → KindInts P k → P (int_of k)
  of_kind LWord nought s = nought
  of_kind (LInt n) nought s = s
  of_kind LStr nought s = nought
  of_kind (LSign number) nought s = nought

  of_first : (ts : List PlainToken) → P (pos 0) → TokensInts P ts → P (int_of (first_token ts).kind)
  of_first [] nought s = nought
  of_first (t ∷ ts) nought s = of_kind t.kind nought s.0

  pub int_here : (i : Input) → P (pos 0) → LeftInts P i → P (int_value i)
  unfolding int_value
  int_here i nought s = of_first i.tokens nought s.tokens

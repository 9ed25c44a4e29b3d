-- A text has no more tokens than bytes.
use Rattle.std.proofs.Common.{◌≤◌, ◌+◌, ℕ, List, map, length, arith}
use Rattle.std.proofs.lemmas.List.{length-map}
use Rattle.py_tree.specs.PlainProgram.{PlainProgram}
use Rattle.py_tree.specs.Bounded.{tokens_of, IsBounded, HasReserved}
use Rattle.py_tree.specs.Grammar.{IsProgram, has_tree}
use Rattle.py_tree.proofs.ProgramsFit.{program_fits}
use Rattle.py_lexer.specs.declared.token.Token.{Token}
use Rattle.py_lexer.specs.declared.token.Line.{Line}
use Rattle.py_lexer.specs.Spans.{Rise, LinesRise, risen, rise, lines_risen, lines_rise}
use Rattle.py_lexer.specs.Views.{plain_token, plain_line}

line_counted : {text : List ℕ} {from upto : ℕ} {ts : List Token} → Rise text from ts upto → from + length ts ≤ upto
line_counted (risen h) = omega arith
line_counted (rise h t more) = let c = line_counted more in let s = t.some in omega arith

lines_counted : {text : List ℕ} {from upto : ℕ} {ls : List Line} → LinesRise text from ls upto → from + tokens_of (map (plain_line text) ls) ≤ upto
unfolding tokens_of
lines_counted (lines_risen h) = omega arith
lines_counted {text = text} (lines_rise {l = l} h more) =
    let c = line_counted h in
    let d = lines_counted more in
    omega (arith, length-map l.tokens (plain_token text))

-- the program of a short text's lines
pub text_bounded : (text : List ℕ) (lines : List Line) (program : PlainProgram) (names : List (List ℕ)) → length text ≤ 1048576 → LinesRise text 0 lines (length text) → IsProgram (map (plain_line text) lines) (has_tree program names) → IsBounded names program × HasReserved names
text_bounded text lines program names short spans h = let c = lines_counted spans in program_fits (map (plain_line text) lines) program names h (omega arith)

-- A program is what its lines are, from the first.
use Rattle.std.proofs.Common.{◌≡◌, ◌≤◌, ℕ, List, [], map, length, Err, sym, ap, subst, ◌∙◌, arith}
use Rattle.py_tree.specs.PlainProgram.{PlainClass, plain_classes}
use Rattle.py_tree.specs.Tokens.{PlainLine}
use Rattle.py_tree.specs.ReservedNames.{reserved_names}
use Rattle.py_tree.specs.Reading.{Input, found, stops}
use Rattle.py_tree.specs.Grammar.{IsFile, IsProgram, has_tree, first_input, program_is, program_stops}
use Rattle.py_lexer.specs.declared.token.Line.{Line}
use Rattle.py_lexer.specs.LogicalLines.{IsText, has_lines, text_lines}
use Rattle.py_lexer.specs.Views.{plain_line}
use Rattle.py_parser.specs.declared.syntax_error.SyntaxError.{SyntaxError}
use Rattle.py_parser.specs.declared.syntax_error.SyntaxError.TheVariants.{Fault, NoMemory}
use Rattle.py_parser.specs.Reads.{Comes, Parses, input}

-- a text that has lines is short
pub text_short : (text : List ℕ) (ls : List PlainLine) → IsText text (has_lines ls) → length text ≤ 1048576
text_short text ls (text_lines short lines) = short

pub reserved_few : (names : List (List ℕ)) → names ≡ reserved_names → length names ≤ 18
reserved_few names e = subst (λ ns. length ns ≤ 18) (sym e) (omega arith)

begins : (text : List ℕ) (lines : List Line) (names : List (List ℕ)) (i : Input) → names ≡ reserved_names → i ≡ input text [] (record { line = 1; col = 1 }) lines names → i ≡ first_input (map (plain_line text) lines)
begins text lines names i e is = is ∙ ap (λ ns. input text [] (record { line = 1; col = 1 }) lines ns) e

pub parsed : (text : List ℕ) (lines : List Line) (names : List (List ℕ)) (i m : Input) (classes : List PlainClass) → names ≡ reserved_names → i ≡ input text [] (record { line = 1; col = 1 }) lines names → IsFile i (found classes m) → IsProgram (map (plain_line text) lines) (has_tree classes m.names)
parsed text lines names i m classes e is h = program_is (subst (λ j. IsFile j (found classes m)) (begins text lines names i e is) h)

pub refused : (text : List ℕ) (lines : List Line) (names : List (List ℕ)) (i m : Input) (error : SyntaxError) → names ≡ reserved_names → i ≡ input text [] (record { line = 1; col = 1 }) lines names → Comes plain_classes (IsFile i) (Err error) m → Parses (map (plain_line text) lines) (Err error)
refused text lines names i m NoMemory e is h = h
refused text lines names i m (Fault f) e is h = program_stops (subst (λ j. IsFile j (stops f)) (begins text lines names i e is) h)

-- What the stages of reading a text come to together.
use Rattle.std.proofs.Common.{◌≡◌, ℕ, List, length, map, ◌≤◌, Ok, Err, sym, ap, ◌∙◌, subst}
use Rattle.py_tree.specs.Tokens.{PlainLine}
use Rattle.py_tree.specs.declared.checked.Checked.{Checked}
use Rattle.py_tree.specs.CheckedViews.{checked_program, checked_names}
use Rattle.py_tree.specs.PlainProgram.{PlainProgram, plain_program}
use Rattle.py_tree.specs.ClassRules.{tables_of}
use Rattle.py_tree.specs.Grammar.{IsProgram, has_tree}
use Rattle.py_lexer.specs.declared.fault.LexError.{LexError}
use Rattle.py_lexer.specs.declared.fault.LexError.TheVariants as lex
use Rattle.py_lexer.specs.declared.token.Line.{Line}
use Rattle.py_lexer.specs.LogicalLines.{has_lines, IsText}
use Rattle.py_lexer.specs.Views.{Lexes, plain_line}
use Rattle.py_parser.specs.declared.program.Parsed.{Parsed}
use Rattle.py_parser.specs.declared.syntax_error.SyntaxError.{SyntaxError}
use Rattle.py_parser.specs.declared.syntax_error.SyntaxError.TheVariants as syntax
use Rattle.py_parser.specs.Reads.{Parses}
use Rattle.entity_tables.specs.declared.table.ClassTable.{ClassTable}
use Rattle.program_text.specs.declared.fault.ProgramError.{ProgramError}
use Rattle.program_text.specs.declared.fault.ProgramError.TheVariants as error
use Rattle.program_text.specs.Readings.{Reads, Judges, IsOf, IsAcceptedText, has_lexical, has_syntax, has_rule, HasFault, lex_error, syntax_error}

-- a text without lines, lines without a tree, and a tree that breaks a rule
pub reads_no_lines : (text : List ℕ) (e : LexError) → Lexes text (Err e) → Reads text (Err (lex_error e))
reads_no_lines text (lex.Fault f) is = has_lexical is
reads_no_lines text lex.NoMemory is = tt

pub reads_no_tree : (text : List ℕ) (ls : List Line) (e : SyntaxError) → IsText text (has_lines (map (plain_line text) ls)) → Parses (map (plain_line text) ls) (Err e) → Reads text (Err (syntax_error e))
reads_no_tree text ls (syntax.Fault f) is parsed = has_syntax is parsed
reads_no_tree text ls syntax.NoMemory is parsed = tt

-- a text whose lines have the tree of a program
module _ (text : List ℕ) (ls : List Line) (parsed : Parsed) (lexed : IsText text (has_lines (map (plain_line text) ls)))
    (is : IsProgram (map (plain_line text) ls) (has_tree (plain_program parsed.program) parsed.names)) where
  pub reads_broken : (e : ProgramError) → Judges parsed (Err e) → Reads text (Err e)
  reads_broken (error.Fault fault) (f, broken, told) = subst (HasFault text) (sym told) (has_rule lexed is broken)
  reads_broken error.NoMemory judged = tt

  pub reads_accepted : (c : Checked) (tables : List ClassTable) → Judges parsed (Ok tables) → checked_program c ≡ plain_program parsed.program → checked_names c ≡ parsed.names → Reads text (Ok (record { program = c; tables = tables }))
  reads_accepted c tables judged same_program same_names = record {
    is_accepted = subst (λ ns. IsAcceptedText text (checked_program c) ns) (sym same_names)
        (subst (λ p. IsAcceptedText text p parsed.names) (sym same_program) (record { logical = map (plain_line text) ls; lexed = lexed; parsed = is; rules = judged.0 }));
    tables = judged.1 ∙ sym (ap (λ ns. tables_of ns (checked_program c)) same_names ∙ ap (tables_of parsed.names) same_program);
  }

-- a text without memory for its program
pub reads_no_memory : (text : List ℕ) (e : ProgramError) → e ≡ error.NoMemory → Reads text (Err e)
reads_no_memory text e is = subst (λ f. Reads text (Err f)) (sym is) tt

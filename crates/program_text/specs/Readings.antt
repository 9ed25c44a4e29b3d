-- What a text is read as: an accepted program, or its first fault.
use Rattle.std.specs.Prelude.{ℕ, ◌≡◌, List, None, Some, Result, Ok, Err, ⊤}
use Rattle.std.specs.declared.option.Option.{Option}
use Rattle.py_tree.specs.declared.fault.SyntaxFault.{SyntaxFault}
use Rattle.py_tree.specs.declared.names.Place.{Place}
use Rattle.py_tree.specs.declared.rule.RuleFault.{RuleFault}
use Rattle.py_tree.specs.Tokens.{PlainLine}
use Rattle.py_tree.specs.CheckedViews.{checked_program, checked_names}
use Rattle.py_tree.specs.PlainProgram.{PlainProgram, plain_program}
use Rattle.py_tree.specs.Grammar as grammar
use Rattle.py_tree.specs.ClassRules.{tables_of}
use Rattle.py_tree.specs.Acceptance.{KeepsRules, rule_fault}
use Rattle.py_lexer.specs.declared.fault.LexFault.{LexFault}
use Rattle.py_lexer.specs.declared.fault.LexError.{LexError}
use Rattle.py_lexer.specs.declared.fault.LexError.TheVariants as lex
use Rattle.py_lexer.specs.LogicalLines as lines
use Rattle.py_parser.specs.declared.program.Parsed.{Parsed}
use Rattle.py_parser.specs.declared.syntax_error.SyntaxError.{SyntaxError}
use Rattle.py_parser.specs.declared.syntax_error.SyntaxError.TheVariants as syntax
use Rattle.entity_tables.specs.declared.fault.RuleError.{RuleError}
use Rattle.entity_tables.specs.declared.fault.RuleError.TheVariants as rule
use Rattle.entity_tables.specs.declared.table.ClassTable.{ClassTable}
use Rattle.entity_tables.specs.Views.{plain_tables}
use Rattle.program_text.specs.declared.acceptance.Accepted.{Accepted}
use Rattle.program_text.specs.declared.fault.ProgramFault.{ProgramFault}
use Rattle.program_text.specs.declared.fault.ProgramFault.TheVariants.{Lex, Syntax, Rule}
use Rattle.program_text.specs.declared.fault.ProgramError.{ProgramError}
use Rattle.program_text.specs.declared.fault.ProgramError.TheVariants.{Fault, NoMemory}

-- the text is accepted, with this tree and these names: it has logical lines, these have a tree, and that keeps every rule
pub record IsAcceptedText (text : List ℕ) (program : PlainProgram) (names : List (List ℕ)) : Type 0 where
  pub logical : List PlainLine
  pub lexed : lines.IsText text (lines.has_lines logical)
  pub parsed : grammar.IsProgram logical (grammar.has_tree program names)
  pub rules : KeepsRules names program

-- the text isn't accepted: it has a lexical fault, or else a syntax fault, or else its program breaks a rule, first this one
pub data HasFault (text : List ℕ) : ProgramFault → Type 0 where
  has_lexical : {f : LexFault} → lines.IsText text (lines.has_fault f) → HasFault text (Lex f)
  has_syntax : {logical : List PlainLine} {f : SyntaxFault} → lines.IsText text (lines.has_lines logical) → grammar.IsProgram logical (grammar.has_fault f) → HasFault text (Syntax f)
  has_rule : {logical : List PlainLine} {program : PlainProgram} {names : List (List ℕ)} {f : RuleFault} → lines.IsText text (lines.has_lines logical) → grammar.IsProgram logical (grammar.has_tree program names)
      → rule_fault names program ≡ Some f → HasFault text (Rule f)

-- where a fault stands
abbrev pub place_of : ProgramFault → Place
place_of (Lex f) = f.place
place_of (Syntax f) = f.place
place_of (Rule f) = f.place

-- the program of an accepted text, and its tables
pub record IsOf (text : List ℕ) (a : Accepted) : Type 0 where
  pub is_accepted : IsAcceptedText text (checked_program a.program) (checked_names a.program)
  pub tables : plain_tables a.tables ≡ tables_of (checked_names a.program) (checked_program a.program)

-- the text is accepted, or has the fault that is told; want of memory is free
abbrev pub Reads : List ℕ → Result Accepted ProgramError → Type 0
Reads text (Ok a) = IsOf text a
Reads text (Err (Fault f)) = HasFault text f
Reads text (Err NoMemory) = ⊤

-- the program keeps every rule, and these are its tables; or it first breaks the one that is told; want of memory is free
abbrev pub Judges : Parsed → Result (List ClassTable) ProgramError → Type 0
Judges parsed (Ok tables) = KeepsRules parsed.names (plain_program parsed.program) × (plain_tables tables ≡ tables_of parsed.names (plain_program parsed.program))
Judges parsed (Err (Fault fault)) = (f : RuleFault) × (rule_fault parsed.names (plain_program parsed.program) ≡ Some f) × (fault ≡ Rule f)
Judges parsed (Err NoMemory) = ⊤

-- why a text has no lines, as the reason that it gives no program
abbrev pub lex_error : LexError → ProgramError
lex_error (lex.Fault f) = Fault (Lex f)
lex_error lex.NoMemory = NoMemory

-- the same of lines that have no tree
abbrev pub syntax_error : SyntaxError → ProgramError
syntax_error (syntax.Fault f) = Fault (Syntax f)
syntax_error syntax.NoMemory = NoMemory

-- the same of a program that breaks a rule
abbrev pub rule_error : RuleError → ProgramError
rule_error (rule.Fault f) = Fault (Rule f)
rule_error rule.NoMemory = NoMemory

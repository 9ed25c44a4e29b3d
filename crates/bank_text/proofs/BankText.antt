-- The bank's text is accepted: its lines and then its tree are read, and the rules are asked, all by computing.
use Rattle.std.proofs.Common.{◌≡◌, ℕ, List, [], length, arith, None, refl}
use Rattle.std.specs.Prelude.{IsUtf8}
use Rattle.std.proofs.lemmas.Str.{utf8_valid_len-IsUtf8}
use Rattle.std.specs.Str.Lossy.{utf8_valid_len}
use lib.Utf8.{encode}
use Rattle.work_gen.specs.Requests.{program}
use Rattle.py_tree.specs.PlainProgram.{PlainProgram}
use Rattle.py_tree.specs.Tokens.{PlainLine}
use Rattle.py_tree.specs.Grammar.{first_input, IsFile, has_tree, IsProgram, program_is}
use Rattle.py_tree.specs.ClassRules as classes
use Rattle.py_tree.specs.ClassRules.{program_fault}
use Rattle.py_tree.specs.ExpressionTypes as types
use Rattle.py_tree.specs.Flow as flows
use Rattle.py_tree.specs.Flow.{flow_fault}
use Rattle.py_tree.specs.FlowEnvironment as locals
use Rattle.py_tree.specs.Reachability as reach
use Rattle.py_lexer.specs.Cursor.{start}
use Rattle.py_lexer.specs.LogicalLines.{IsLines, has_lines, IsText, text_lines}
use Rattle.py_lexer.proofs.ColumnLaws.{none_open}
use Rattle.program_text.specs.Readings.{IsAcceptedText}
use Rattle.program_text.proofs.OneReading.{no_fault}
use Rattle.bank_text.specs.BankAccepted.{BankIsAccepted, BankHasNoFault}
use Rattle.bank_text.proofs.Readers.{given}
use Rattle.bank_text.proofs.LineReaders as lines
use Rattle.bank_text.proofs.LineReaders.{first_spot}
use Rattle.bank_text.proofs.ExpressionReaders as exprs
use Rattle.bank_text.proofs.ProgramReaders as programs

-- Its lines

is_utf8 : IsUtf8 program
unfolding program encode
is_utf8 = (program, (refl, refl))

valid : utf8_valid_len program ≡ length program
valid = utf8_valid_len-IsUtf8 program is_utf8

is_short : length program ≡ 496
unfolding program
is_short = refl

lines_read : lines.Reads program valid (IsLines [] (start program))
unfolding program lines.lines
lines_read = lines.lines program valid lines.far [] [] none_open first_spot

pub bank_lines : List PlainLine
unfolding lines_read
bank_lines = (given lines_read tt).0

are_lines : IsText program (has_lines bank_lines)
unfolding bank_lines
are_lines = text_lines (omega (arith, is_short)) (given lines_read tt).2

-- Its tree

tree_read : exprs.Reads (IsFile (first_input bank_lines))
unfolding bank_lines programs.file
tree_read = programs.file (first_input bank_lines)

pub bank_tree : PlainProgram
unfolding tree_read
bank_tree = (given tree_read tt).0

pub bank_names : List (List ℕ)
unfolding tree_read
bank_names = (given tree_read tt).1.names

is_tree : IsProgram bank_lines (has_tree bank_tree bank_names)
unfolding bank_tree bank_names
is_tree = program_is (given tree_read tt).2

-- The rules: the words that they are computed with, by their files

class_words : Unit {0}
unfolding classes.text_of classes.is_init classes.is_key classes.is_called classes.is_dunder classes.is_class classes.is_param classes.is_member classes.class_name_fault classes.methods_of classes.member_name_fault classes.param_fault classes.result_fault classes.fields_of classes.field_names classes.is_field classes.acts classes.any_acts classes.any_link_acts classes.init_stmt_fault classes.init_body_fault classes.member_fault classes.init_of classes.key_method classes.key_name classes.source_of classes.field_place classes.param_place classes.key_among classes.key_of classes.whole_fault classes.class_fault classes.program_fault classes.table_of
class_words = tt

type_words : Unit {0}
unfolding types.assignable types.join types.table_named types.field_of types.method_of types.self_ty types.function_of types.combined types.ordered types.compared types.comparison types.type_of_name types.as_condition types.applied types.type_of types.conditions types.arguments types.each_is types.list_of types.elements types.linked
type_words = tt

local_words : Unit {0}
unfolding locals.has_name locals.local_of locals.shown locals.shown_by_each locals.narrowed locals.where_test
local_words = tt

way_words : Unit {0}
unfolding reach.goes_on reach.all_go_on reach.an_arm_goes_on reach.breaks reach.break_in reach.break_in_arm reach.assigns reach.assigned_in reach.assigned_in_arms
way_words = tt

flow_words : Unit {0}
unfolding flows.result_at flows.known_at flows.settled flows.joined flows.with_local flows.at_head flows.value_as flows.number_at flows.item_of flows.return_fault flows.message_fault flows.local_fault flows.earlier flows.stored flows.plainly_assigned flows.assigned_as flows.local_assigned flows.is_key_field flows.field_assigned flows.field_declared flows.assigned flows.augmented flows.combined_stored flows.augmentation flows.after_while flows.after_for flows.for_head flows.flow flows.flow_all flows.flow_arms flows.method_locals flows.init_flow_fault flows.methods_flow_fault flows.class_flow_fault flows.classes_flow_fault flows.flow_fault
flow_words = tt

keeps_class_rules : program_fault bank_names bank_tree ≡ None
unfolding bank_tree bank_names class_words
keeps_class_rules = refl

keeps_flow_rules : flow_fault bank_names bank_tree ≡ None
unfolding bank_tree bank_names class_words type_words local_words way_words flow_words
keeps_flow_rules = refl

-- Both together

accepted_with : IsAcceptedText program bank_tree bank_names
accepted_with = record { logical = bank_lines; lexed = are_lines; parsed = is_tree; rules = record { classes = keeps_class_rules; flow = keeps_flow_rules } }

pub bank_is_accepted : BankIsAccepted
bank_is_accepted = (bank_tree, bank_names, accepted_with)

pub bank_has_no_fault : BankHasNoFault
bank_has_no_fault fault = no_fault program bank_tree bank_names fault accepted_with

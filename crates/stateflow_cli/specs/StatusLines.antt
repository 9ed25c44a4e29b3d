-- The status and the line on the error stream of each ending.
use Rattle.std.specs.Prelude.{ℕ, List, [], ◌∷◌, codes, decimal}
use Rattle.std.specs.List.{concat}
use Rattle.py_tree.specs.declared.fault.SyntaxKind.{SyntaxKind}
use Rattle.py_tree.specs.declared.fault.SyntaxKind.TheVariants.{Unexpected, LeftOut, TooDeep}
use Rattle.py_tree.specs.declared.rule.Rule.{Rule}
use Rattle.py_tree.specs.declared.rule.Rule.TheVariants as rule
use Rattle.py_lexer.specs.declared.fault.LexKind.{LexKind}
use Rattle.py_lexer.specs.declared.fault.LexKind.TheVariants as lex
use Rattle.batch_run.specs.Vocabulary.{SessionFault}
use Rattle.batch_run.specs.SessionFaultVariants as stop
use Rattle.sf_outside.specs.declared.store_disk.StoreFile.{StoreFile}
use Rattle.sf_outside.specs.declared.store_disk.StoreFile.TheVariants.{Log0, Log1, Snap0, Snap1, Hist}
use Rattle.store_opening.specs.declared.stop.OpenStop.{OpenStop}
use Rattle.store_opening.specs.declared.stop.OpenStop.TheVariants as of_store
use Rattle.program_text.specs.declared.fault.ProgramFault.{ProgramFault}
use Rattle.program_text.specs.declared.fault.ProgramFault.TheVariants as program
use Rattle.program_text.specs.Readings.{place_of}
use Rattle.stateflow_cli.specs.declared.ending.Ending.{Ending}
use Rattle.stateflow_cli.specs.declared.ending.Ending.TheVariants.{Misused, Refused, FileFault, NoMemory, Printed, Unprinted, Served, Stopped, Unopened, Found}
use Rattle.stateflow_cli.specs.declared.ending.Finding.{Finding}
use Rattle.stateflow_cli.specs.declared.ending.Finding.TheVariants as of_found

abbrev pub status_of : Ending → ℕ
status_of Misused = 2
status_of (Refused fault) = 1
status_of FileFault = 3
status_of NoMemory = 8
status_of Printed = 0
status_of Unprinted = 4
status_of Served = 0
status_of (Stopped stop.ReadFault) = 3
status_of (Stopped stop.WriteFault) = 4
status_of (Stopped stop.NoMemory) = 8
status_of (Stopped stop.InputTooLong) = 9
status_of (Stopped stop.HistoryFull) = 10
status_of (Stopped stop.DiskFault) = 5
status_of (Unopened of_store.DiskFault) = 5
status_of (Unopened (of_store.Bad file at)) = 6
status_of (Unopened of_store.OtherProgram) = 7
status_of (Unopened of_store.NoMemory) = 8
status_of (Found of_found.NoStore) = 11
status_of (Found (of_found.NotSerial entry)) = 13
status_of (Found (of_found.BadRun line)) = 14
status_of (Found of_found.TooLong) = 9

abbrev pub usage_line : List ℕ
usage_line = codes "usage: stateflow check FILE | compile FILE | local FILE | run FILE [options] | gen [options] | audit FILE RUN | export FILE --store DIR\n"

abbrev pub lex_name : LexKind → List ℕ
lex_name lex.TooLong = codes "TooLong"
lex_name lex.NotUtf8 = codes "NotUtf8"
lex_name lex.TabIndent = codes "TabIndent"
lex_name lex.BadDedent = codes "BadDedent"
lex_name lex.BadEscape = codes "BadEscape"
lex_name lex.OpenString = codes "OpenString"
lex_name lex.BadNumber = codes "BadNumber"
lex_name lex.LiteralTooWide = codes "LiteralTooWide"
lex_name lex.BadCharacter = codes "BadCharacter"
lex_name lex.OpenBracket = codes "OpenBracket"

abbrev pub syntax_name : SyntaxKind → List ℕ
syntax_name Unexpected = codes "Unexpected"
syntax_name LeftOut = codes "LeftOut"
syntax_name TooDeep = codes "TooDeep"

abbrev pub rule_name : Rule → List ℕ
rule_name rule.TooMany = codes "TooMany"
rule_name rule.ReservedName = codes "ReservedName"
rule_name rule.DuplicateClass = codes "DuplicateClass"
rule_name rule.DuplicateMember = codes "DuplicateMember"
rule_name rule.MissingAnnotation = codes "MissingAnnotation"
rule_name rule.UnknownType = codes "UnknownType"
rule_name rule.NestedOptional = codes "NestedOptional"
rule_name rule.InitForm = codes "InitForm"
rule_name rule.KeyForm = codes "KeyForm"
rule_name rule.UnknownName = codes "UnknownName"
rule_name rule.Unassigned = codes "Unassigned"
rule_name rule.RemoteField = codes "RemoteField"
rule_name rule.UnknownField = codes "UnknownField"
rule_name rule.NoneUse = codes "NoneUse"
rule_name rule.Operand = codes "Operand"
rule_name rule.UnknownMethod = codes "UnknownMethod"
rule_name rule.ArgCount = codes "ArgCount"
rule_name rule.Mismatch = codes "Mismatch"
rule_name rule.EmptyListType = codes "EmptyListType"
rule_name rule.LocalRetyped = codes "LocalRetyped"
rule_name rule.KeyAssigned = codes "KeyAssigned"
rule_name rule.LoopWord = codes "LoopWord"
rule_name rule.MissingReturn = codes "MissingReturn"

abbrev pub fault_name : ProgramFault → List ℕ
fault_name (program.Lex f) = lex_name f.kind
fault_name (program.Syntax f) = syntax_name f.kind
fault_name (program.Rule f) = rule_name f.rule

-- `stateflow: FILE:LINE:COL: KIND`
abbrev pub placed_line : List ℕ → List ℕ → List ℕ → List ℕ → List ℕ
placed_line file line col kind = concat (codes "stateflow: " ∷ file ∷ codes ":" ∷ line ∷ codes ":" ∷ col ∷ codes ": " ∷ kind ∷ codes "\n" ∷ [])

abbrev pub fault_line : List ℕ → ProgramFault → List ℕ
fault_line file f = placed_line file (decimal (place_of f).line) (decimal (place_of f).col) (fault_name f)

abbrev pub read_fault_line : List ℕ
read_fault_line = codes "stateflow: read fault\n"

abbrev pub write_fault_line : List ℕ
write_fault_line = codes "stateflow: write fault\n"

abbrev pub no_memory_line : List ℕ
no_memory_line = codes "stateflow: out of memory\n"

abbrev pub too_long_line : List ℕ
too_long_line = codes "stateflow: input too long\n"

abbrev pub history_full_line : List ℕ
history_full_line = codes "stateflow: history full\n"

abbrev pub disk_fault_line : List ℕ
disk_fault_line = codes "stateflow: disk fault\n"

abbrev pub other_program_line : List ℕ
other_program_line = codes "stateflow: the store holds another program\n"

abbrev pub file_name : StoreFile → List ℕ
file_name Log0 = codes "log0"
file_name Log1 = codes "log1"
file_name Snap0 = codes "snap0"
file_name Snap1 = codes "snap1"
file_name Hist = codes "hist"

-- `stateflow: bad store: NAME at PLACE`
abbrev pub bad_store_line : List ℕ → List ℕ → List ℕ
bad_store_line name place = concat (codes "stateflow: bad store: " ∷ name ∷ codes " at " ∷ place ∷ codes "\n" ∷ [])

abbrev pub open_line : OpenStop → List ℕ
open_line of_store.DiskFault = disk_fault_line
open_line (of_store.Bad file at) = bad_store_line (file_name file) (decimal at)
open_line of_store.OtherProgram = other_program_line
open_line of_store.NoMemory = no_memory_line

abbrev pub no_store_line : List ℕ
no_store_line = codes "stateflow: no store\n"

-- `stateflow: WHAT NUMBER`
abbrev pub numbered_line : List ℕ → List ℕ → List ℕ
numbered_line what digits = concat (codes "stateflow: " ∷ what ∷ digits ∷ codes "\n" ∷ [])

abbrev pub finding_line : Finding → List ℕ
finding_line of_found.NoStore = no_store_line
finding_line (of_found.NotSerial entry) = numbered_line (codes "not serial: entry ") (decimal entry)
finding_line (of_found.BadRun line) = numbered_line (codes "bad run: line ") (decimal line)
finding_line of_found.TooLong = too_long_line

abbrev pub stop_line : SessionFault → List ℕ
stop_line stop.ReadFault = read_fault_line
stop_line stop.WriteFault = write_fault_line
stop_line stop.NoMemory = no_memory_line
stop_line stop.InputTooLong = too_long_line
stop_line stop.HistoryFull = history_full_line
stop_line stop.DiskFault = disk_fault_line

-- what is said of a call on this file; nothing where it did what was asked
abbrev pub line_of : List ℕ → Ending → List ℕ
line_of file Misused = usage_line
line_of file (Refused fault) = fault_line file fault
line_of file FileFault = read_fault_line
line_of file NoMemory = no_memory_line
line_of file Printed = []
line_of file Unprinted = write_fault_line
line_of file Served = []
line_of file (Stopped fault) = stop_line fault
line_of file (Unopened stop) = open_line stop
line_of file (Found finding) = finding_line finding

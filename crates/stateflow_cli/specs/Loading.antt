-- From a file to its program, or to its fault.
use Rattle.std.specs.Prelude.{ℕ, ◌≡◌, ◌≤◌, List, length, take, None, Some, Result, Ok, Err, ⊤}
use Rattle.std.specs.Str.{chars}
use Rattle.std.specs.declared.option.Option.{Option}
use Rattle.py_tree.specs.declared.checked.Checked.{Checked}
use Rattle.py_tree.specs.CheckedViews.{checked_program, checked_names}
use Rattle.py_tree.specs.PlainProgram.{PlainProgram}
use Rattle.program_text.specs.declared.fault.ProgramFault.{ProgramFault}
use Rattle.program_text.specs.declared.fault.ProgramError.{ProgramError}
use Rattle.program_text.specs.declared.fault.ProgramError.TheVariants as error
use Rattle.program_text.specs.Readings.{IsAcceptedText, HasFault}
use Rattle.entity_compiler.specs.Compiling.{IsCompiledOf}
use Rattle.stateflow_cli.specs.declared.loading.CompiledText.{CompiledText}
use Rattle.stateflow_cli.specs.declared.loading.LoadStop.{LoadStop}
use Rattle.stateflow_cli.specs.declared.loading.LoadStop.TheVariants.{Refused, FileFault, NoMemory}
use Rattle.stateflow_cli.specs.declared.printing.Counts.{Counts}
use Rattle.stateflow_cli.specs.CheckLine.{count_methods}
use Rattle.program_meaning.specs.ClassTables.{Source}

-- what a text was read as, or the fault that it is refused for; want of memory is free
abbrev pub ReadsAs : {X : Type 0} → (List ℕ → X → Type 0) → List ℕ → Result X LoadStop → Type 0
ReadsAs Is text (Ok x) = Is text x
ReadsAs Is text (Err (Refused fault)) = HasFault text fault
ReadsAs Is text (Err FileFault) = ⊥
ReadsAs Is text (Err NoMemory) = ⊤

-- how many classes and methods the program of an accepted text has
pub record IsCounted (text : List ℕ) (counts : Counts) : Type 0 where
  pub program : PlainProgram
  pub names : List (List ℕ)
  pub is_accepted : IsAcceptedText text program names
  pub classes : counts.classes ≡ length program
  pub methods : counts.methods ≡ count_methods names program

-- the program of an accepted text
abbrev pub IsChecked : List ℕ → Checked → Type 0
IsChecked text program = IsAcceptedText text (checked_program program) (checked_names program)

-- the compiled program of an accepted text, with the text's characters
pub record IsCompiledWith (text : List ℕ) (made : CompiledText) : Type 0 where
  pub is : IsCompiledOf text made.compiled
  pub characters : made.text ≡ chars text

-- a text that the file may hold: its content, where that is told
abbrev pub MayHold : Option (List ℕ) → List ℕ → Type 0
MayHold None text = ⊤
MayHold (Some all) text = text ≡ all

-- the first bytes of what the file holds, where that is told
abbrev pub MayBegin : Option (List ℕ) → ℕ → List ℕ → Type 0
MayBegin None bound text = ⊤
MayBegin (Some all) bound text = text ≡ take bound all

-- the file holds a text of this kind
pub record HoldsOne (Is : List ℕ → Type 0) (content : Option (List ℕ)) : Type 0 where
  pub text : List ℕ
  pub told : MayHold content text
  pub is : Is text

-- what the file's text was read as, or what it is refused for; a fault of the file, and want of memory, say nothing of the text
abbrev pub Gives : {X : Type 0} → (List ℕ → X → Type 0) → Option (List ℕ) → Result X LoadStop → Type 0
Gives Is content (Ok x) = HoldsOne (λ text. Is text x) content
Gives Is content (Err (Refused fault)) = HoldsOne (λ text. HasFault text fault) content
Gives Is content (Err FileFault) = ⊤
Gives Is content (Err NoMemory) = ⊤

-- the file holds an accepted text, with this tree and these names
pub record Holds (content : Option (List ℕ)) : Type 0 where
  pub program : PlainProgram
  pub names : List (List ℕ)
  pub holds : HoldsOne (λ text. IsAcceptedText text program names) content

abbrev pub source_in : (content : Option (List ℕ)) → Holds content → Source
source_in content h = record { program = h.program; names = h.names }

-- the files have what they had, and no count of their faults fell
pub record AreKept (was is : List ℕ → Option (List ℕ)) (before after : List ℕ → ℕ) : Type 0 where
  pub content : (q : List ℕ) → is q ≡ was q
  pub later : (q : List ℕ) → before q ≤ after q

-- the file holds a text that has this fault
abbrev pub Refuses : Option (List ℕ) → ProgramFault → Type 0
Refuses content fault = HoldsOne (λ text. HasFault text fault) content

-- why a text gives no program, as the reason that its file gives none
abbrev pub load_stop : ProgramError → LoadStop
load_stop (error.Fault f) = Refused f
load_stop error.NoMemory = NoMemory

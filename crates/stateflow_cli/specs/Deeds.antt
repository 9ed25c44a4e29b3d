-- What each command that words may ask for is to a call: one record a command.
use Rattle.std.specs.Prelude.{ℕ, ◌≡◌, ◌⊎◌, List, [], None, Some, ⊤, codes}
use Rattle.std.specs.declared.option.Option.{Option}
use Rattle.sf_outside.specs.DiskModel.{DiskFacts}
use Rattle.command_words.specs.Commands.{Asked, Check, Compile, Local, Run, Gen, Export, Audit}
use Rattle.stateflow_cli.specs.Words.{AreInRange, IsWorkInRange}
use Rattle.stateflow_cli.specs.CheckLine.{IsCheckLine}
use Rattle.stateflow_cli.specs.CompiledText.{IsCompiledText}
use Rattle.stateflow_cli.specs.Devices.{Devices, with_err, IsStill}
use Rattle.stateflow_cli.specs.Endings.{Report, ReportEnds, LocalEnds, RunEnds, GenEnds, longest_input}
use Rattle.stateflow_cli.specs.WordsPromise.{WordsPromise}
use Rattle.stateflow_cli.specs.ReportPromise.{ReportPromise}
use Rattle.stateflow_cli.specs.LocalPromise.{LocalPromise}
use Rattle.stateflow_cli.specs.RunPromise.{RunPromise}
use Rattle.stateflow_cli.specs.GenPromise.{GenPromise}
use Rattle.stateflow_cli.specs.ExportEnds.{ExportEnds}
use Rattle.stateflow_cli.specs.ExportPromise.{ExportPromise}
use Rattle.stateflow_cli.specs.AuditEnds.{AuditEnds}
use Rattle.stateflow_cli.specs.AuditPromise.{AuditPromise}
use Rattle.stateflow_cli.specs.declared.ending.Ending.{Ending}
use Rattle.stateflow_cli.specs.declared.ending.Ending.TheVariants.{Misused, NoMemory}

pub record Deed : Type 1 where
  -- the name of the program in what is told of it, and the folder of a store that is named
  pub file : List ℕ
  pub store : Option (List ℕ)
  -- which settings there may be
  pub InRange : Type 0
  -- how a call ends that does it, and what it did to its devices by then
  pub Ends : Devices → Devices → DiskFacts → DiskFacts → Ending → Type 0
  -- what isn't touched for it
  pub Spares : Devices → Devices → Type 0
  -- what is promised of the call, by its status
  pub Does : Devices → Devices → DiskFacts → DiskFacts → ℕ → Type 0

-- a report on a program takes nothing of the input
abbrev pub reports : Report → List ℕ → Deed
reports Is file = record {
  file = file;
  store = None;
  InRange = ⊤;
  Ends = λ before after was now ending. ReportEnds Is file before after ending;
  Spares = λ before after. after.input ≡ before.input;
  Does = λ before after was now status. ReportPromise Is file before after status;
}

-- `check` and `compile` report on the program; `local` and `run` serve the input, of which so many bytes are taken; `gen` serves its own work, whose
-- program stands in no file; `export` writes the history of a store; `audit` judges a run, of which so many bytes count
abbrev pub deed : ℕ → Asked → Deed
deed limit (Check file) = reports IsCheckLine file
deed limit (Compile file) = reports IsCompiledText file
deed limit (Local file) = record {
  file = file;
  store = None;
  InRange = ⊤;
  Ends = λ before after was now ending. LocalEnds limit file before after ending;
  Spares = λ before after. ⊤;
  Does = λ before after was now status. LocalPromise limit file before after was now status;
}
deed limit (Run file s) = record {
  file = file;
  store = s.store;
  InRange = AreInRange s;
  Ends = λ before after was now ending. RunEnds limit file s before after was now ending;
  Spares = λ before after. ⊤;
  Does = λ before after was now status. RunPromise limit file s before after was now status;
}
deed limit (Gen s) = record {
  file = codes "gen";
  store = None;
  InRange = IsWorkInRange s;
  Ends = λ before after was now ending. GenEnds s before after ending;
  Spares = λ before after. ⊤;
  Does = λ before after was now status. GenPromise s before after status;
}
deed limit (Export file dir) = record {
  file = file;
  store = Some dir;
  InRange = ⊤;
  Ends = λ before after was now ending. ExportEnds file dir before after was now ending;
  Spares = λ before after. ⊤;
  Does = λ before after was now status. ExportPromise file dir before after was now status;
}
deed limit (Audit file run) = record {
  file = file;
  store = None;
  InRange = ⊤;
  Ends = λ before after was now ending. AuditEnds limit file run before after ending;
  Spares = λ before after. ⊤;
  Does = λ before after was now status. AuditPromise limit file run before after status;
}

-- ---- what words name

abbrev pub file_of : Asked → List ℕ
file_of asked = (deed longest_input asked).file

abbrev pub IsInRange : Asked → Type 0
IsInRange asked = (deed longest_input asked).InRange

-- the file that was asked for, or no name
abbrev pub file_in : Option Asked → List ℕ
file_in None = []
file_in (Some asked) = file_of asked

-- the folder of a store that they name
abbrev pub store_in : Option Asked → Option (List ℕ)
store_in None = None
store_in (Some asked) = (deed longest_input asked).store

-- ---- what comes of them

abbrev pub EndsOn : ℕ → Asked → Devices → Devices → DiskFacts → DiskFacts → Ending → Type 0
EndsOn limit asked before after was now ending = (deed limit asked).Ends before after was now ending

-- where no command is asked for the words are misused, unless memory ran out as they were read; else it is done
abbrev pub Ends : ℕ → Option Asked → Devices → Devices → DiskFacts → DiskFacts → Ending → Type 0
Ends limit None before after was now ending = ((ending ≡ Misused) ⊎ (ending ≡ NoMemory)) × IsStill before after
Ends limit (Some asked) before after was now ending = EndsOn limit asked before after was now ending

-- what isn't asked for is as it was: of words that ask for nothing all but the error stream
abbrev pub LeavesUnasked : Option Asked → Devices → Devices → Type 0
LeavesUnasked None before after = after ≡ with_err after.err before
LeavesUnasked (Some asked) before after = (deed longest_input asked).Spares before after

-- what is promised of it
abbrev pub DoesAsked : ℕ → Option Asked → Devices → Devices → DiskFacts → DiskFacts → ℕ → Type 0
DoesAsked limit None before after was now status = WordsPromise before after status
DoesAsked limit (Some asked) before after was now status = (deed limit asked).Does before after was now status

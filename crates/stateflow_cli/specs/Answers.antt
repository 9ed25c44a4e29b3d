-- What was told of how a call ended.
use Rattle.std.specs.Prelude.{ℕ, List}
use Rattle.std.specs.Io.KnownBytes.{Appends}
use Rattle.program_text.specs.declared.fault.ProgramFault.{ProgramFault}
use Rattle.stateflow_cli.specs.Devices.{Devices, Output}
use Rattle.stateflow_cli.specs.Loading.{Refuses}
use Rattle.stateflow_cli.specs.StatusLines.{status_of, line_of, fault_line}
use Rattle.stateflow_cli.specs.Telling.{Told}
use Rattle.stateflow_cli.specs.declared.ending.Ending.{Ending}

-- a line of the status was told; where the error stream failed a part of it, and then a part of that of a write fault
pub record TellsStatus (file : List ℕ) (behind after : Output) (status : ℕ) : Type 0 where
  pub ending : Ending
  pub told : Told (line_of file ending) (status_of ending) behind.held after.held behind.faults after.faults status

-- the text of the file has a fault, which was told
pub record TellsFault (file : List ℕ) (before after : Devices) : Type 0 where
  pub fault : ProgramFault
  pub refused : Refuses (before.content file) fault
  pub line : Appends before.err.held after.err.held (fault_line file fault)

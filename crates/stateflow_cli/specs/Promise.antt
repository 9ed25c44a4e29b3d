-- What StateFlow promises of a call.
use Rattle.std.specs.Prelude.{ℕ, ◌≤◌}
use Rattle.std.specs.declared.option.Option.{Option}
use Rattle.sf_outside.specs.DiskModel.{DiskFacts}
use Rattle.stateflow_cli.specs.Words.{Asked}
use Rattle.stateflow_cli.specs.Devices.{Devices, Output, with_err}
use Rattle.stateflow_cli.specs.Endings.{longest_input}
use Rattle.stateflow_cli.specs.StatusLines.{status_of, line_of}
use Rattle.stateflow_cli.specs.Telling.{Told}
use Rattle.stateflow_cli.specs.Deeds.{file_in, Ends, DoesAsked}
use Rattle.stateflow_cli.specs.declared.ending.Ending.{Ending}

-- the call ended for some reason, and then told it
pub record Answers (limit : ℕ) (asked : Option Asked) (before after : Devices) (was now : DiskFacts) (status : ℕ) : Type 0 where
  pub ending : Ending
  pub behind : Output
  pub ends : Ends limit asked before (with_err behind after) was now ending
  pub told : Told (line_of (file_in asked) ending) (status_of ending) behind.held after.err.held behind.faults after.err.faults status
  pub later : behind.faults ≤ after.err.faults

-- of what its words ask for, of what the devices showed before it and behind it, and of its status
pub record Promise (asked : Option Asked) (before after : Devices) (was now : DiskFacts) (status : ℕ) : Type 0 where
  -- it ended for one of the reasons that there are for what was asked, and told it
  pub answers : Answers longest_input asked before after was now status
  -- and did what was asked, as far as the status says
  pub does : DoesAsked longest_input asked before after was now status

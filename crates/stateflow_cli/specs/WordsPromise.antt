-- What a call promises whose words ask for nothing.
use Rattle.std.specs.Prelude.{ℕ, ◌≡◌, [], ⊤}
use Rattle.stateflow_cli.specs.Devices.{Devices, with_err}
use Rattle.stateflow_cli.specs.Answers.{TellsStatus}
use Rattle.stateflow_cli.specs.Causes.{HasItsStatus, IsFault}

pub record WordsPromise (before after : Devices) (status : ℕ) : Type 0 where
  -- no device was touched but the error stream, which gained the line of the status
  pub untouched : after ≡ with_err after.err before
  pub line : TellsStatus [] before.err after.err status
  -- the status is 2
  pub causes : HasItsStatus (λ k. k ≡ 2) (λ k. ⊤) (IsFault ⊥ ⊥ before after) status

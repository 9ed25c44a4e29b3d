-- What a call promises that was asked for a report on a program: `check` for the line of the program, `compile` for the text of its graph.
use Rattle.std.specs.Prelude.{ℕ, ◌≡◌, ◌⊎◌, List, []}
use Rattle.std.specs.Io.KnownBytes.{Appends, Keeps}
use Rattle.sf_outside.specs.Bytes.{AppendsPrefix}
use Rattle.stateflow_cli.specs.Devices.{Devices}
use Rattle.stateflow_cli.specs.Loading.{Holds}
use Rattle.stateflow_cli.specs.Endings.{Report, Prints}
use Rattle.stateflow_cli.specs.Answers.{TellsStatus, TellsFault}
use Rattle.stateflow_cli.specs.Causes.{HasItsStatus, IsFault, FileRose, OfText, IsTold}

-- the output gained a prefix of a report on the file's program, for which this was chosen and told
pub record PrintsFront (Is : Report) (file : List ℕ) (before after : Devices) : Type 0 where
  pub holds : Holds (before.content file)
  pub text : List ℕ
  pub is : Is holds.names holds.program before.outside after.outside text
  pub front : AppendsPrefix before.out.held after.out.held text

-- nothing was printed, chosen and told
pub record IsSilent (before after : Devices) : Type 0 where
  pub held : Keeps before.out.held after.out.held
  pub outside : after.outside ≡ before.outside

pub record ReportPromise (Is : Report) (file : List ℕ) (before after : Devices) (status : ℕ) : Type 0 where
  -- nothing of the input was touched
  pub input : after.input ≡ before.input
  -- with 0 the report on the file's program was printed, and the error stream gained nothing; with 1 a fault of its text was told
  pub printed : status ≡ 0 → Prints Is file before after × Appends before.err.held after.err.held []
  pub told : status ≡ 1 → TellsFault file before after
  -- whatever the status, the output gained a prefix of such a report, or nothing was printed, chosen and told; and so it is with the other statuses, but
  -- for that of a write fault
  pub front : IsSilent before after ⊎ PrintsFront Is file before after
  pub nothing : (status ≡ 0 → ⊥) → (status ≡ 4 → ⊥) → IsSilent before after
  -- the error stream gained the line of the status
  pub line : TellsStatus file before.err after.err status
  -- the status is 0 exactly where the text is accepted, and 1 where it isn't
  pub causes : HasItsStatus (OfText (before.content file) (λ src text k. k ≡ 0)) (λ k. IsTold (before.content file)) (IsFault (FileRose file before after) ⊥ before after) status

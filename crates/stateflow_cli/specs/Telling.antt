-- How an ending is told: its line on the error stream, and its status.
use Rattle.std.specs.Prelude.{ℕ, ◌≡◌, ◌≤◌, ◌⊎◌, ◌==◌, List, [], if◌then◌else◌}
use Rattle.std.specs.declared.option.Option.{Option}
use Rattle.std.specs.Io.KnownBytes.{Appends}
use Rattle.sf_outside.specs.Bytes.{AppendsPrefix}
use Rattle.sf_outside.specs.Causes.{Rose}
use Rattle.stateflow_cli.specs.StatusLines.{write_fault_line}

-- after a line that could not be written, that of a write fault is tried once, but for that line itself
abbrev pub second_line : ℕ → List ℕ
second_line own = if own == 4 then [] else write_fault_line

-- a part of the line was written, and a fault was counted; and then the second one, or a part of it, and another fault was counted
pub record SaidInPart (line next : List ℕ) (said said' : Option (List ℕ)) (before after : ℕ) : Type 0 where
  pub between : Option (List ℕ)
  pub met : ℕ
  pub first : AppendsPrefix said between line × Rose before met
  pub later : met ≤ after
  pub second : Appends between said' next ⊎ (AppendsPrefix between said' next × Rose met after)

-- the line was written and the status is its own; or the error stream failed, and the status is that of a write fault
pub data Told (line : List ℕ) (own : ℕ) (said said' : Option (List ℕ)) (before after status : ℕ) : Type 0 where
  Whole : status ≡ own → Appends said said' line → Told line own said said' before after status
  Part : status ≡ 4 → Rose before after → SaidInPart line (second_line own) said said' before after → Told line own said said' before after status

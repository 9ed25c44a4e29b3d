-- What an output has handed on where a session ends.
use Rattle.std.specs.Prelude.{ℕ, ◌≡◌}
use Rattle.sf_outside.specs.Handing.{IsHandedOn}
use Rattle.stateflow_cli.specs.Devices.{Output}

-- but with the status of a write fault all that it holds was handed on, where that is told
abbrev pub IsFlushed : ℕ → Output → Type 0
IsFlushed status out = (status ≡ 4 → ⊥) → IsHandedOn out.handed out.held

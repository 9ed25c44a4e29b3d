-- What a call leaves of what an output has handed on.
use Rattle.std.specs.Prelude.{ℕ, List, OnOk}
use Rattle.std.specs.declared.option.Option.{Option}
use Rattle.std.specs.declared.result.Result.{Result}
use Rattle.std.specs.Io.KnownBytes.{Appends}
use Rattle.sf_outside.specs.Handing.{IsHandedOn}

-- what was handed on stays so
abbrev pub StaysHanded : Option (List ℕ) → Option (List ℕ) → Type 0
StaysHanded old new = (more : List ℕ) × Appends old new more

-- it stays so, and where the call came to its end the output was flushed then: all that it holds is handed on
pub record Flushes {T E : Type 0} (result : Result T E) (old new held : Option (List ℕ)) : Type 0 where
  pub stays : StaysHanded old new
  pub all : OnOk result (IsHandedOn new held)

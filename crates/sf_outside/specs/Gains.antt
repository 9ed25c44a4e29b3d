-- What a sink gained by a call that writes lines.
use Rattle.std.specs.Prelude.{ℕ, ◌≡◌, ◌≤◌, List, [], ◌∷◌, ◌++◌, take, Ok, Err}
use Rattle.std.specs.declared.option.Option.{Option}
use Rattle.std.specs.declared.result.Result.{Result}
use Rattle.std.specs.Io.KnownBytes.{Appends}
use Rattle.sf_outside.specs.Bytes.{AppendsPrefix}
use Rattle.sf_outside.specs.Causes.{Rose}
use Rattle.sf_outside.specs.declared.gains.WriteStop.{WriteStop}
use Rattle.sf_outside.specs.declared.gains.WriteStop.TheVariants.{NoMemory, WriteFault}

-- the lines one after another
unfoldable pub joined : List (List ℕ) → List ℕ
joined [] = []
joined (line ∷ lines) = line ++ joined lines

-- all lines were written; or the first ones, each whole; or, only with a write fault, a part of their text
abbrev pub Wrote : {T : Type 0} → Result T WriteStop → Option (List ℕ) → Option (List ℕ) → List (List ℕ) → Type 0
Wrote (Ok value) old new lines = Appends old new (joined lines)
Wrote (Err NoMemory) old new lines = (k : ℕ) × Appends old new (joined (take k lines))
Wrote (Err WriteFault) old new lines = AppendsPrefix old new (joined lines)

-- the count of the sink's faults never falls, and has risen where a write fault is the result
pub record Counts {T : Type 0} (before now : ℕ) (result : Result T WriteStop) : Type 0 where
  pub later : before ≤ now
  pub rose : result ≡ Err WriteFault → Rose before now

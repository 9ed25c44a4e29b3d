-- What a part of a session has done by the result that it has.
use Rattle.std.specs.Prelude.{ℕ, ◌≡◌, ◌≤◌, Bool, true, false, List, take, Ok, Err, ⊤}
use Rattle.std.specs.declared.option.Option.{Option}
use Rattle.std.specs.declared.result.Result.{Result}
use Rattle.std.specs.Io.KnownBytes.{Appends}
use Rattle.sf_outside.specs.Bytes.{AppendsPrefix}
use Rattle.sf_outside.specs.Causes.{Rose}
use Rattle.sf_outside.specs.Gains.{joined}
use Rattle.session.specs.declared.stopping.SessionStop.{SessionStop}
use Rattle.session.specs.declared.stopping.SessionStop.TheVariants.{HistoryFull, NoMemory, WriteFault}

-- all lines were written, also where the history is full; or, where memory was wanted, the first ones, each whole; or, with a write fault, a
-- part of their text
abbrev pub Wrote : {T : Type 0} → Result T SessionStop → Option (List ℕ) → Option (List ℕ) → List (List ℕ) → Type 0
Wrote (Ok value) old new lines = Appends old new (joined lines)
Wrote (Err HistoryFull) old new lines = Appends old new (joined lines)
Wrote (Err NoMemory) old new lines = (k : ℕ) × Appends old new (joined (take k lines))
Wrote (Err WriteFault) old new lines = AppendsPrefix old new (joined lines)

-- the history is found full exactly where the definition has it so; a session that stops for another cause may not have come so far
abbrev pub FindsFull : {T : Type 0} → Result T SessionStop → Bool → Type 0
FindsFull (Ok value) is_full = is_full ≡ false
FindsFull (Err HistoryFull) is_full = is_full ≡ true
FindsFull (Err NoMemory) is_full = ⊤
FindsFull (Err WriteFault) is_full = ⊤

-- the count of the sink's faults never falls, and has risen where a write fault is the result
pub record Counts {T : Type 0} (before now : ℕ) (result : Result T SessionStop) : Type 0 where
  pub later : before ≤ now
  pub rose : result ≡ Err WriteFault → Rose before now

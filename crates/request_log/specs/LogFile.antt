-- The file of a log. A record is a gate, the length of a batch's bytes, and these bytes. The next gate is behind it, and no part of it.
use Rattle.std.specs.Prelude.{ℕ, ◌≡◌, ◌⊎◌, ◌+◌, ◌≤◌, ◌<◌, ◌^◌, List, [], ◌∷◌, ◌++◌, length}
use Rattle.sf_bytes.specs.ByteForms.{number_bytes, batch_bytes}
use Rattle.sf_bytes.specs.Gates.{open_gate, StandsAt, ClosedAt, OpenAt}
use Rattle.sf_bytes.specs.Spelt.{IsReadBatch}
use Rattle.sf_value.specs.declared.BatchRecord.{BatchRecord}

-- these bytes are a spelling of the batch, and nothing else
abbrev pub IsBatch : List ℕ → BatchRecord → Type 0
IsBatch body batch = IsReadBatch batch × (batch_bytes batch ≡ body)

-- where the gate behind a record is whose batch has so many bytes
abbrev pub gate_behind : ℕ → ℕ → ℕ
gate_behind at len = at + 5 + len

-- an open gate with the length and a spelling of this batch behind it, and the place where they end
pub record RecordAt (file : List ℕ) (at : ℕ) (batch : BatchRecord) (next : ℕ) : Type 0 where
  pub body : List ℕ
  pub spells : IsBatch body batch
  pub short : length body < 2 ^ 32
  pub stands : StandsAt file at (open_gate ∷ number_bytes (length body) ++ body)
  pub ends : next ≡ gate_behind at (length body)

-- from this place on there are records of these batches, and behind them the first closed gate is at the last place
abbrev pub LogFrom : List ℕ → ℕ → List BatchRecord → ℕ → Type 0
LogFrom file at [] end = (at ≡ end) × ClosedAt file at
LogFrom file at (batch ∷ batches) end = (next : ℕ) × RecordAt file at batch next × LogFrom file next batches end

-- no gate is in the file at this place, or an open one with no record
abbrev pub IsBadAt : List ℕ → ℕ → Type 0
IsBadAt file at = (length file ≤ at) ⊎ (OpenAt file at × ((batch : BatchRecord) (next : ℕ) → RecordAt file at batch next → ⊥))

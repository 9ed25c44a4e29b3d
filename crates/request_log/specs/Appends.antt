-- What a record that is added makes of a log, and what a crash meanwhile leaves.
use Rattle.std.specs.Prelude.{ℕ, ◌≡◌, ◌⊎◌, List, [], ◌∷◌, ◌++◌, length, take}
use Rattle.sf_bytes.specs.ByteForms.{number_bytes}
use Rattle.sf_bytes.specs.Gates.{open_gate, StandsAt, ClosedAt}
use Rattle.sf_value.specs.declared.BatchRecord.{BatchRecord}
use Rattle.request_log.specs.LogFile.{gate_behind, IsBatch, LogFrom}

-- what stands behind a record's gate: the length, the bytes of a batch and a closed gate
abbrev pub behind_gate : List ℕ → List ℕ
behind_gate body = number_bytes (length body) ++ body ++ 0 ∷ []

-- a record whose gate is open, and the closed gate behind it
abbrev pub record_bytes : List ℕ → List ℕ
record_bytes body = open_gate ∷ behind_gate body

-- the gate at this place is closed, and each log that ended there ends there still
pub record StaysClosed (at : ℕ) (before now : List ℕ) : Type 0 where
  pub front : take at now ≡ take at before
  pub closed : ClosedAt now at
  pub log : (batches : List BatchRecord) → LogFrom before 0 batches at → LogFrom now 0 batches at

-- the record stands there, and each log that ended there has its batch besides
pub record HasRecord (at : ℕ) (body before now : List ℕ) : Type 0 where
  pub front : take at now ≡ take at before
  pub stands : StandsAt now at (record_bytes body)
  pub closed : ClosedAt now (gate_behind at (length body))
  pub log : (batches : List BatchRecord) (batch : BatchRecord) → LogFrom before 0 batches at → IsBatch body batch → LogFrom now 0 (batches ++ batch ∷ []) (gate_behind at (length body))

-- one of the two
abbrev pub StaysOrHasRecord : ℕ → List ℕ → List ℕ → List ℕ → Type 0
StaysOrHasRecord at body before now = StaysClosed at before now ⊎ HasRecord at body before now

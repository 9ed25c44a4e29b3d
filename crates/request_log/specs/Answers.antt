-- What reading a record answers.
use Rattle.std.specs.Prelude.{ℕ, ◌≡◌, ◌≢◌, ◌⊎◌, ◌<◌, List, [], ◌∷◌, length, take, Option, Some, None, Result, Ok, Err}
use Rattle.sf_bytes.specs.ByteForms.{number_bytes}
use Rattle.sf_bytes.specs.Gates.{open_gate, ClosedAt}
use Rattle.sf_value.specs.declared.BatchRecord.{BatchRecord}
use Rattle.request_log.specs.declared.fault.LogFault.{LogFault}
use Rattle.request_log.specs.declared.fault.LogFault.TheVariants.{Failed, Bad, NoMemory}
use Rattle.request_log.specs.declared.reading.Found.{Found}
use Rattle.request_log.specs.declared.reading.Front.{Front}
use Rattle.request_log.specs.declared.reading.Front.TheVariants.{Closed, Claims, Broken}
use Rattle.request_log.specs.LogFile.{gate_behind, RecordAt, IsBadAt, IsBatch}

-- a record where there is one, nothing where a gate is closed, and bad where neither is
abbrev pub Answers : List ℕ → ℕ → Result (Option Found) LogFault → Type 0
Answers file at (Ok (Some found)) = RecordAt file at found.batch found.next
Answers file at (Ok None) = ClosedAt file at
Answers file at (Err (Bad place)) = IsBadAt file at
Answers file at (Err Failed) = Unit {0}
Answers file at (Err NoMemory) = Unit {0}

-- the next gate is behind a spelling of the batch, and what is bad is at the place that was asked for
abbrev pub IsPlaced : ℕ → Result (Option Found) LogFault → Type 0
IsPlaced at (Ok (Some found)) = (body : List ℕ) × IsBatch body found.batch × (found.next ≡ gate_behind at (length body))
IsPlaced at (Ok None) = Unit {0}
IsPlaced at (Err (Bad place)) = place ≡ at
IsPlaced at (Err Failed) = Unit {0}
IsPlaced at (Err NoMemory) = Unit {0}

-- what at most five bytes from a gate on begin with
abbrev pub SaysFront : List ℕ → Front → Type 0
SaysFront bytes Closed = (gate : ℕ) × (gate ≢ open_gate) × (take 1 bytes ≡ gate ∷ [])
SaysFront bytes (Claims len) = bytes ≡ open_gate ∷ number_bytes len
SaysFront bytes Broken = (bytes ≡ []) ⊎ ((take 1 bytes ≡ open_gate ∷ []) × (length bytes < 5))

-- the batch whose bytes these are, or nothing where they are no batch's
abbrev pub SaysBatch : List ℕ → Option BatchRecord → Type 0
SaysBatch body (Some batch) = IsBatch body batch
SaysBatch body None = (batch : BatchRecord) → IsBatch body batch → ⊥

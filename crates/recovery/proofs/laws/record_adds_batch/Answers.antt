use Rattle.recovery.proofs.StoreSteps.{record_adds, gate_adds_none}
use Rattle.recovery.proofs.laws.record_adds_batch.Goals as goal

pub returns : goal.returns
returns c = record { added = record_adds; closed = gate_adds_none }

use Rattle.store_meaning.proofs.StoreSteps.{batch_stands, closed_gate_stands}
use Rattle.store_meaning.proofs.laws.logged_batch_is_kept.Goals as goal

pub returns : goal.returns
returns c = record { added = batch_stands; closed = closed_gate_stands }

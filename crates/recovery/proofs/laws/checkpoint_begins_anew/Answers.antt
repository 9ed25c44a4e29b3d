use Rattle.recovery.proofs.StoreSteps.{checkpoint_begins, checkpoint_keeps}
use Rattle.recovery.proofs.laws.checkpoint_begins_anew.Goals as goal

pub returns : goal.returns
returns c = record { begun = checkpoint_begins; kept = checkpoint_keeps }

use Rattle.store_meaning.proofs.StoreSteps.{checkpoint_stands, checkpoint_stays}
use Rattle.store_meaning.proofs.laws.checkpoint_is_kept.Goals as goal

pub returns : goal.returns
returns c = record { begun = checkpoint_stands; kept = checkpoint_stays }

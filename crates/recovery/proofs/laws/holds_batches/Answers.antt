use Rattle.recovery.proofs.StoreSteps.{old_holds, have_places}
use Rattle.recovery.proofs.laws.holds_batches.Goals as goal

pub returns : goal.returns
returns c = record { plain = old_holds; placed = have_places }

use Rattle.batch_reorder.proofs.ByPairs.{by_pairs}
use Rattle.batch_reorder.proofs.laws.reorders_by_pairs.Goals as goal

pub returns : goal.returns
returns c = by_pairs

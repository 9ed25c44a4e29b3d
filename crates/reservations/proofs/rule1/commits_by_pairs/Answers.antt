use Rattle.reservations.proofs.ByPairs.{by_pairs}
use Rattle.reservations.proofs.rule1.commits_by_pairs.Goals as goal

pub returns : goal.returns
returns c = by_pairs

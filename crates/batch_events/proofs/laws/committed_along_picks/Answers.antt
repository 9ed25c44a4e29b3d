use Rattle.batch_events.proofs.BatchWorks.{committed_along_picks}
use Rattle.batch_events.proofs.laws.committed_along_picks.Goals as goal

pub returns : goal.returns
returns c = committed_along_picks

use Rattle.batch_events.proofs.OwnRuns.{batches_come_to_their_runs}
use Rattle.batch_events.proofs.laws.batches_come_to_their_runs.Goals as goal

pub returns : goal.returns
returns c = batches_come_to_their_runs

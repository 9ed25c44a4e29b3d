use Rattle.batch_output.proofs.SessionLaws.{batches_end}
use Rattle.batch_output.proofs.laws.batches_end.Goals as goal

pub returns : goal.returns
returns c = batches_end

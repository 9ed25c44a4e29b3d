use Rattle.batch_of_one.proofs.WrittenLaws.{writes_batches}
use Rattle.batch_of_one.proofs.laws.writes_as_batches_of_one.Goals as goal

pub returns : goal.returns
returns c = writes_batches

use Rattle.commit_order.proofs.BatchLaws as batch
use Rattle.commit_order.proofs.laws.committed_is_serial.Goals as goal

pub returns : goal.returns
returns c = batch.committed_is_serial

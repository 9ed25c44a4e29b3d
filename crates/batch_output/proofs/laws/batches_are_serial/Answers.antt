use Rattle.batch_output.proofs.SessionLaws.{serial_batches}
use Rattle.batch_output.proofs.laws.batches_are_serial.Goals as goal

pub returns : goal.returns
returns c = serial_batches

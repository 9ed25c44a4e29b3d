use Rattle.batch_of_one.proofs.OneRequest.{batch_of_one_is_local}
use Rattle.batch_of_one.proofs.laws.batch_of_one_is_local.Goals as goal

pub returns : goal.returns
returns c = batch_of_one_is_local

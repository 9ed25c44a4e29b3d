use Rattle.batch_output.proofs.KeptLaws.{requests_kept}
use Rattle.batch_output.proofs.laws.requests_kept.Goals as goal

pub returns : goal.returns
returns c = requests_kept

use Rattle.session.proofs.SerialOutputLaws.{Served-serial}
use Rattle.session.proofs.laws.serves_serially.Goals as goal

pub returns : goal.returns
returns c = Served-serial

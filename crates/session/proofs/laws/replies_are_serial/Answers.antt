use Rattle.session.proofs.SerialOutputLaws.{SerialLines-all}
use Rattle.session.proofs.laws.replies_are_serial.Goals as goal

pub returns : goal.returns
returns c = SerialLines-all

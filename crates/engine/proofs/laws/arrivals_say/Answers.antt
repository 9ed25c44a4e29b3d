use Rattle.engine.proofs.ArrivalLaws.{arrivals_say}
use Rattle.engine.proofs.laws.arrivals_say.Goals as goal

pub returns : goal.returns
returns c = arrivals_say

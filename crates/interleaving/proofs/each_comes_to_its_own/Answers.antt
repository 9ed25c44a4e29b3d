use Rattle.interleaving.proofs.TurnLaws.{all_come_to_their_own}
use Rattle.interleaving.proofs.each_comes_to_its_own.Goals as goal

pub returns : goal.returns
returns g c = all_come_to_their_own

use Rattle.method_splitter.proofs.RanksAreSmall.{ranks_are_small}
use Rattle.method_splitter.proofs.laws.ranks_are_small.Goals as goal

pub returns : goal.returns
returns c = ranks_are_small

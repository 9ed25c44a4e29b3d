use Rattle.never_back.proofs.GoesForth.{split_never_goes_back}
use Rattle.never_back.proofs.laws.split_never_goes_back.Goals as goal

pub returns : goal.returns
returns c = split_never_goes_back

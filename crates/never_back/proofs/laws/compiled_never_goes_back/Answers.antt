use Rattle.never_back.proofs.GoesForth.{compiled_never_goes_back}
use Rattle.never_back.proofs.laws.compiled_never_goes_back.Goals as goal

pub returns : goal.returns
returns c = compiled_never_goes_back

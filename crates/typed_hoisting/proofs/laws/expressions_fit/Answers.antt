use Rattle.typed_hoisting.proofs.ExpressionsKeep.{expressions_fit}
use Rattle.typed_hoisting.proofs.laws.expressions_fit.Goals as goal

pub returns : goal.returns
returns c = expressions_fit

use Rattle.hoisting.proofs.Methods.{flat_methods_mean}
use Rattle.hoisting.proofs.laws.flat_methods_mean.Goals as goal

pub returns : goal.returns
returns c = flat_methods_mean

use Rattle.typed_methods.proofs.MethodsKeep.{methods_have_types}
use Rattle.typed_methods.proofs.laws.methods_have_types.Goals as goal

pub returns : goal.returns
returns c = methods_have_types

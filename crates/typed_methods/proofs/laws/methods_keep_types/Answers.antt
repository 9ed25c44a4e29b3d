use Rattle.typed_methods.proofs.MethodsKeep.{methods_keep_types}
use Rattle.typed_methods.proofs.laws.methods_keep_types.Goals as goal

pub returns : goal.returns
returns c = methods_keep_types

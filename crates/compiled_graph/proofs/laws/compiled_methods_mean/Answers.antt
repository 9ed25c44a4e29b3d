use Rattle.compiled_graph.proofs.CompiledMeaning.{methods_mean}
use Rattle.compiled_graph.proofs.laws.compiled_methods_mean.Goals as goal

pub returns : goal.returns
returns c = methods_mean

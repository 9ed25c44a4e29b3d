use Rattle.compiled_graph.proofs.CompiledMeaning.{graph_means}
use Rattle.compiled_graph.proofs.laws.compiled_means.Goals as goal

pub returns : goal.returns
returns c = graph_means

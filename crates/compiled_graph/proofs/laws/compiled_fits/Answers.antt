use Rattle.compiled_graph.proofs.CompiledMeaning.{graph_fits}
use Rattle.compiled_graph.proofs.laws.compiled_fits.Goals as goal

pub returns : goal.returns
returns c = graph_fits

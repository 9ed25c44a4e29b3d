use Rattle.compiled_code.proofs.CompiledCode.{accepted_graph_fits}
use Rattle.compiled_code.proofs.laws.accepted_graph_fits.Goals as goal

pub returns : goal.returns
returns c = accepted_graph_fits

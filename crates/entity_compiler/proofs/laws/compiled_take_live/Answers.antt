use Rattle.compiled_graph.specs.CompiledGraph.{compiled}
use Rattle.compiled_code.proofs.CompiledCode.{accepted_graph_fits}
use Rattle.live_vars.proofs.CutSoFar.{live_are_params}
use Rattle.entity_compiler.proofs.laws.compiled_take_live.Goals as goal

pub returns : goal.returns
returns c = λ names program marks accepted exact. live_are_params names program accepted (compiled names program marks) (accepted_graph_fits names program marks accepted exact)

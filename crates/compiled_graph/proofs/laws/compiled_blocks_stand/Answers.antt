use Rattle.compiled_graph.proofs.Places.{blocks_stand}
use Rattle.compiled_graph.proofs.laws.compiled_blocks_stand.Goals as goal

pub returns : goal.returns
returns c = blocks_stand

use Rattle.compiled_graph.proofs.QuietBlocks.{quiet_is_one_block}
use Rattle.compiled_graph.proofs.laws.quiet_is_one_block.Goals as goal

pub returns : goal.returns
returns c = quiet_is_one_block

use Rattle.method_splitter.proofs.BlocksMean.{blocks_mean_flat}
use Rattle.method_splitter.proofs.laws.blocks_mean_flat.Goals as goal

pub returns : goal.returns
returns c = blocks_mean_flat

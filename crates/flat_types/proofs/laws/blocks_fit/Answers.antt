use Rattle.flat_types.proofs.BlocksFit.{blocks_fit}
use Rattle.flat_types.proofs.laws.blocks_fit.Goals as goal

pub returns : goal.returns
returns c = blocks_fit

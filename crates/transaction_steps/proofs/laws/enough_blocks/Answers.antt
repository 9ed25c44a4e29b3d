use Rattle.transaction_steps.proofs.EnoughBlocks.{enough_blocks}
use Rattle.transaction_steps.proofs.laws.enough_blocks.Goals as goal

pub returns : goal.returns
returns c = enough_blocks

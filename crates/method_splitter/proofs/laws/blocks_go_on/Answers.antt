use Rattle.method_splitter.proofs.BlocksGoOn.{blocks_go_on}
use Rattle.method_splitter.proofs.laws.blocks_go_on.Goals as goal

pub returns : goal.returns
returns c = blocks_go_on

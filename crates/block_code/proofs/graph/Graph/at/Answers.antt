use Rattle.std.proofs.Common.{sym}
use Rattle.block_code.proofs.GraphLaws.{no_blocks}
use Rattle.block_code.proofs.graph.Graph.at.Goals as goal

pub returns-in-None : goal.returns-in-None
returns-in-None c = no_blocks c.args.self.now.methods c.args.place (sym c.in-None.ensures.value)

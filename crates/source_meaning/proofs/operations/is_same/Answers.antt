use Rattle.sf_value.proofs.SameLaws.{same_value-is}
use Rattle.source_meaning.proofs.operations.is_same.Goals as goal

pub returns : goal.returns
returns c = same_value-is c.same.result c.args.left.now c.args.right.now c.same.ensures

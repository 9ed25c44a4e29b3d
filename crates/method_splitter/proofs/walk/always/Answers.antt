use Rattle.method_splitter.proofs.ReachedParts.{not_always}
use Rattle.method_splitter.proofs.walk.always.Goals as goal

pub returns-else-is_empty : goal.returns-else-is_empty
returns-else-is_empty c = not_always c.args.test.now c.in-Leaf.before c.in-Leaf.value c.is_empty.result c.in-Leaf.is c.is_empty.ensures c.if-is_empty.false

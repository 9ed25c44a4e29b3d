use Rattle.py_tree.specs.PlainTypes.{plain_ty}
use Rattle.py_tree.proofs.TypeLaws.{same_is}
use Rattle.entity_types.proofs.types.same.Goals as goal

pub returns : goal.returns
returns c = same_is c.same.result (plain_ty c.args.s.now) (plain_ty c.args.t.now) c.same.ensures

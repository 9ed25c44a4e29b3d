use Rattle.py_tree.proofs.OneProgram.{one_outcome}
use Rattle.py_tree.proofs.laws.has_one_outcome.Goals as goal

pub returns : goal.returns
returns c lines one other a b = one_outcome lines one other a b

use Rattle.py_lexer.proofs.OneOutcome.{one_outcome}
use Rattle.py_lexer.proofs.laws.has_one_outcome.Goals as goal

pub returns : goal.returns
returns c text one other a b = one_outcome text one other a b

use Rattle.py_tree.proofs.ProgramsFit.{program_fits}
use Rattle.py_tree.proofs.laws.has_bounded_program.Goals as goal

pub returns : goal.returns
returns c lines program names h short = program_fits lines program names h short

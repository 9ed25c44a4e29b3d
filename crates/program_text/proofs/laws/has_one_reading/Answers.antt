use Rattle.program_text.proofs.OneReading.{one_tree, one_fault, no_fault, keeps_or_breaks}
use Rattle.program_text.proofs.laws.has_one_reading.Goals as goal

pub returns-clause-tree : goal.returns-clause-tree
returns-clause-tree c = one_tree

pub returns-clause-fault : goal.returns-clause-fault
returns-clause-fault c = one_fault

pub returns-clause-apart : goal.returns-clause-apart
returns-clause-apart c = no_fault

pub returns-clause-judged : goal.returns-clause-judged
returns-clause-judged c = λ p names. keeps_or_breaks names p

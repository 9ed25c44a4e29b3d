use Rattle.commit_order.proofs.BatchLaws.{committed_is_serial}
use Rattle.reservations.specs.Accesses.{accesses_of}
use Rattle.batch_reorder.specs.Reordering.{reordered}
use Rattle.batch_reorder.specs.ReorderingLaws.{reordered_is_lawful}
use Rattle.batch_reorder.proofs.laws.reordered_is_serial.Goals as goal

pub returns : goal.returns
returns c = λ src snapshot batch works are. committed_is_serial src snapshot batch works (reordered (accesses_of works)) are (reordered_is_lawful (accesses_of works))

use Rattle.reservations.specs.Accesses.{accesses_of}
use Rattle.batch_reorder.proofs.Turns.{IsSoFar}
use Rattle.batch_reorder.proofs.rule2.look_at_all.Given as goal

abbrev pub invariant-loop-i : goal.invariant-loop-i
invariant-loop-i l = IsSoFar (accesses_of l.works) l.i l.earlier l.lists

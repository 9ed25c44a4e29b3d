use Rattle.std.proofs.Common.{take}
use Rattle.batch_reorder.specs.Turns.{Grows}
use Rattle.batch_reorder.proofs.rule2.reserve_all.Given as goal

abbrev pub invariant-loop-at : goal.invariant-loop-at
invariant-loop-at l = Grows l.fn.table l.table (take l.at-index l.refs)

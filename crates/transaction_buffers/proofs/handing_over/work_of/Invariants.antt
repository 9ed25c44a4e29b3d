use Rattle.std.proofs.Common.{◌≡◌, ◌++◌, length}
use Rattle.std.specs.Vec.Iter.{into_iter_items, into_iter_len}
use Rattle.transaction_buffers.specs.HandingOver.{written, records_of}
use Rattle.transaction_buffers.proofs.HandedOverLaws.{refs_of}
use Rattle.transaction_buffers.proofs.handing_over.work_of.Given as goal

abbrev pub invariant-loop-at : goal.invariant-loop-at
invariant-loop-at l = record {
  reads : l.work.reads ++ refs_of (into_iter_items l.at-iterator) ≡ refs_of l.fn.entities.items;
  writes : l.work.writes ++ written (into_iter_items l.at-iterator) ≡ written l.fn.entities.items;
  held : l.work.held ++ records_of (into_iter_items l.at-iterator) ≡ records_of l.fn.entities.items;
  count : into_iter_len l.at-iterator ≡ length (into_iter_items l.at-iterator);
}

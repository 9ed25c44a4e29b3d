use Rattle.std.proofs.Common.{◌≡◌, ◌++◌, [], length}
use Rattle.std.specs.Vec.Iter.{into_iter_items, into_iter_len}
use Rattle.few_entities.specs.Entries.{refs_of}
use Rattle.transaction_buffers.proofs.handing_over.reads_of.Given as goal

abbrev pub invariant-loop-at : goal.invariant-loop-at
invariant-loop-at l = record {
  reads : l.work.reads ++ refs_of (into_iter_items l.at-iterator) ≡ refs_of l.fn.entities.items;
  writes : l.work.writes ≡ [];
  count : into_iter_len l.at-iterator ≡ length (into_iter_items l.at-iterator);
}

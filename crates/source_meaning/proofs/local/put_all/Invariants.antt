use Rattle.std.proofs.Common.{◌≡◌, ◌≤◌, length}
use Rattle.std.specs.Vec.Iter.{into_iter_items, into_iter_len}
use Rattle.indexmap.specs.IndexMap.{insert_all, spare}
use Rattle.few_entities.specs.Entries.{is_ref}
use Rattle.source_meaning.proofs.local.put_all.Given as goal

abbrev pub invariant-loop-at : goal.invariant-loop-at
invariant-loop-at l = record {
  entries : insert_all is_ref l.records.entries (into_iter_items l.at-iterator) ≡ insert_all is_ref l.fn.records.entries l.fn.entries.items;
  count : into_iter_len l.at-iterator ≡ length (into_iter_items l.at-iterator);
  room : length (into_iter_items l.at-iterator) ≤ spare l.records;
}

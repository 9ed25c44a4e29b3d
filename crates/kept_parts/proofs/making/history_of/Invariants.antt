use Rattle.std.proofs.Common.{◌≡◌, ◌++◌, length}
use Rattle.std.specs.Prelude.{bytes_eq}
use Rattle.std.specs.List.{IsDistinct}
use Rattle.std.specs.Vec.Iter.{into_iter_items, into_iter_len}
use Rattle.kept_parts.specs.Ids.{entry_ids}
use Rattle.kept_parts.proofs.making.history_of.Given as goal

-- the history has the entries before these
abbrev pub invariant-loop-entry : goal.invariant-loop-entry
invariant-loop-entry l = record {
  entries : l.history.entries ++ into_iter_items l.entry-iterator ≡ l.fn.entries;
  differ : IsDistinct bytes_eq (entry_ids l.history.entries);
  count : into_iter_len l.entry-iterator ≡ length (into_iter_items l.entry-iterator);
}

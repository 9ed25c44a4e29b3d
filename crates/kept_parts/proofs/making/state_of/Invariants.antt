use Rattle.std.proofs.Common.{◌≡◌, length}
use Rattle.std.specs.Vec.Iter.{into_iter_items, into_iter_len}
use Rattle.kept_parts.proofs.RecordLaws.{HasPut}
use Rattle.kept_parts.proofs.making.state_of.Given as goal

abbrev pub invariant-loop-held : goal.invariant-loop-held
invariant-loop-held l = record {
  put : HasPut l.state (into_iter_items l.held-iterator) l.fn.records;
  count : into_iter_len l.held-iterator ≡ length (into_iter_items l.held-iterator);
}

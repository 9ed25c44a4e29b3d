use Rattle.std.proofs.Common.{◌≡◌, ◌++◌, ◌≤◌, length}
use Rattle.std.specs.Vec.Iter.{into_iter_items, into_iter_len}
use Rattle.request_history.proofs.history.History.commit_all.Given as goal

abbrev pub invariant-loop-entry : goal.invariant-loop-entry
invariant-loop-entry l = record {
  entries : l.self.entries ++ into_iter_items l.entry-iterator ≡ l.fn.self.entries ++ l.fn.entries;
  count : into_iter_len l.entry-iterator ≡ length (into_iter_items l.entry-iterator);
  room : length (into_iter_items l.entry-iterator) ≤ l.self.spare;
}

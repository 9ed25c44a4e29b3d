use Rattle.std.proofs.Common.{◌≡◌, ◌+◌, ◌≤◌, length, drop}
use Rattle.std.specs.Prelude.{filter}
use Rattle.keyed_state.specs.Works.{is_written, written_records}
use Rattle.keyed_state.proofs.commit.writes_of.Given as goal

abbrev pub invariant-loop-held : goal.invariant-loop-held
invariant-loop-held l = record {
  count : l.count + length (filter (is_written l.work.writes) (drop l.held-index l.work.held)) ≡ length (written_records l.work);
  few : l.count ≤ l.held-index;
}

use Rattle.std.proofs.Common.{◌≡◌, ◌+◌, ◌≤◌, length}
use Rattle.indexmap.specs.IndexMap.{spare}
use Rattle.keyed_state.specs.Contents.{contents_of}
use Rattle.keyed_state.specs.Works.{with_records, written_records}
use Rattle.keyed_state.proofs.commit.put_written.Given as goal

abbrev pub invariant-loop-work : goal.invariant-loop-work
invariant-loop-work l = record {
  contents : with_records (contents_of l.records.entries) (written_records l.work) ≡ with_records (contents_of l.fn.records.entries) (written_records l.fn.work);
  room : length (written_records l.work) ≤ spare l.records;
  used : spare l.fn.records + length (written_records l.work) ≤ spare l.records + length (written_records l.fn.work);
}

abbrev pub decreases-loop-work : goal.decreases-loop-work
decreases-loop-work l = length l.work.held

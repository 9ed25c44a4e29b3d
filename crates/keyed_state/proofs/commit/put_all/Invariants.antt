use Rattle.std.proofs.Common.{◌≡◌, true, ◌≤◌, length, drop}
use Rattle.indexmap.specs.IndexMap.{spare}
use Rattle.keyed_state.specs.Contents.{contents_of}
use Rattle.keyed_state.specs.Works.{after_writes, written_count, are_places}
use Rattle.keyed_state.proofs.commit.put_all.Given as goal

abbrev pub invariant-loop-place : goal.invariant-loop-place
invariant-loop-place l = record {
  contents : after_writes (contents_of l.records.entries) l.works (drop l.place-index l.committed) ≡ after_writes (contents_of l.fn.records.entries) l.fn.works l.committed;
  room : written_count l.works (drop l.place-index l.committed) ≤ spare l.records;
  places : are_places (length l.works) (drop l.place-index l.committed) ≡ true;
}

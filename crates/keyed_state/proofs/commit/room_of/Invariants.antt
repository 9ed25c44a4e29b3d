use Rattle.std.proofs.Common.{◌≡◌, true, ◌+◌, length, drop}
use Rattle.keyed_state.specs.Works.{written_count, are_places}
use Rattle.keyed_state.proofs.commit.room_of.Given as goal

abbrev pub invariant-loop-place : goal.invariant-loop-place
invariant-loop-place l = record {
  room : l.room + written_count l.works (drop l.place-index l.committed) ≡ written_count l.works l.committed;
  places : are_places (length l.works) (drop l.place-index l.committed) ≡ true;
}

use Rattle.std.proofs.Common.{◌≡◌, length}
use Rattle.std.specs.Vec.Iter.{into_iter_items, into_iter_len}
use Rattle.store_opening.proofs.ReplayLaws.{HasReplayedFront}
use Rattle.store_opening.proofs.replaying.replay_all.Given as goal

-- the batches before these were run again
abbrev pub invariant-loop-placed : goal.invariant-loop-placed
invariant-loop-placed l = record {
  front : HasReplayedFront l.fn.engine l.engine (into_iter_items l.placed-iterator) l.fn.batches;
  count : into_iter_len l.placed-iterator ≡ length (into_iter_items l.placed-iterator);
}

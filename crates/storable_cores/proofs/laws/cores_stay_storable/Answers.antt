use Rattle.storable_cores.proofs.CoreLaws.{empty_is_storable, arrivals_are_storable, batches_are_storable, replays_are_storable}
use Rattle.storable_cores.proofs.KeptLaws.{snapshots_are_storable}
use Rattle.storable_cores.proofs.laws.cores_stay_storable.Goals as goal

pub returns : goal.returns
returns c = record {
  empty = empty_is_storable;
  arrived = arrivals_are_storable;
  committed = batches_are_storable;
  replayed = replays_are_storable;
  restored = snapshots_are_storable;
}

use Rattle.storable_cores.proofs.RealLaws.{empty_is_real, arrivals_are_real, batches_are_real, replays_are_real, snapshots_are_real}
use Rattle.storable_cores.proofs.laws.cores_stay_real.Goals as goal

pub returns : goal.returns
returns c = record { empty = empty_is_real; arrived = arrivals_are_real; committed = batches_are_real; replayed = replays_are_real; restored = snapshots_are_real }

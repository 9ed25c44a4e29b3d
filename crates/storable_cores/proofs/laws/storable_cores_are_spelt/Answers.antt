use Rattle.storable_cores.proofs.KeptLaws.{records_are_spelt, cores_are_spelt, heads_are_spelt, entries_are_spelt}
use Rattle.storable_cores.proofs.laws.storable_cores_are_spelt.Goals as goal

pub returns : goal.returns
returns c = record { records = records_are_spelt; snapshots = cores_are_spelt; heads = heads_are_spelt; entries = entries_are_spelt }

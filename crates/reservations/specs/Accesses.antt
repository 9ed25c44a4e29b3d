-- What the transactions of a batch read and write, as sets of entities.
use Rattle.std.specs.Prelude.{ℕ, List, map as over, slice_index_or}
use Rattle.std.specs.FinSet as set
use Rattle.serial_order.specs.ConflictFree.{Access}
use Rattle.keyed_state.specs.declared.Work.{Work}
use Rattle.keyed_state.specs.Works.{keys_of}

abbrev pub access_of_work : Work → Access
access_of_work work = record { reads = keys_of work.reads; writes = keys_of work.writes }

abbrev pub accesses_of : List Work → List Access
accesses_of works = over access_of_work works

abbrev pub no_access : Access
no_access = record { reads = set.empty; writes = set.empty }

abbrev pub access_at : List Access → ℕ → Access
access_at batch place = slice_index_or batch place no_access

-- What the core of an engine holds is real: its ints have 128 bits, its texts are of Unicode's characters, and the numbers of its classes
-- and methods have 32 bits.
use Rattle.std.specs.Prelude.{ℕ, List}
use Rattle.std.specs.List.{AllByRecursion}
use Rattle.sf_value.specs.declared.BatchRecord.{BatchRecord}
use Rattle.sf_value.specs.declared.Request.{Request}
use Rattle.sf_value.specs.declared.Snapshot.{Snapshot}
use Rattle.byte_sizes.specs.Spelt.{IsRealEntry, IsRealRequest, IsRealBatch, IsRealSnapshot}
use Rattle.program_meaning.specs.ClassTables.{Source}
use Rattle.program_meaning.specs.NothingGoesWrong.{IsKnownAccepted}
use Rattle.short_runs.specs.RealRuns.{StateIsReal, IsRealProgram}
use Rattle.engine.specs.Arrivals.{after_arrival}
use Rattle.engine.specs.Batches.{after_batch}
use Rattle.engine.specs.Cores.{Core, empty_core}
use Rattle.engine.specs.Kept.{core_of_snapshot}
use Rattle.engine.specs.Replays.{replayed}

-- the requests that were committed with what they came to, the state, and the requests that wait
pub record IsRealCore (core : Core) : Type 0 where
  pub entries : AllByRecursion IsRealEntry core.history
  pub state : StateIsReal core.state
  pub requests : AllByRecursion IsRealRequest core.pending

abbrev pub EmptyIsReal : Type 0
EmptyIsReal = IsRealCore empty_core

-- a real request arrives
abbrev pub ArrivalsAreReal : Type 0
ArrivalsAreReal = (core : Core) (r : Request) → IsRealCore core → IsRealRequest r → IsRealCore (after_arrival core r)

-- a batch commits these of the requests that wait
abbrev pub BatchesAreReal : Type 0
BatchesAreReal = (src : Source) (core : Core) (committed : List ℕ) → IsKnownAccepted src.names src.program → IsRealProgram src → IsRealCore core
    → IsRealCore (after_batch src core committed)

-- a batch that was read is run again
abbrev pub ReplaysAreReal : Type 0
ReplaysAreReal = (src : Source) (core : Core) (batch : BatchRecord) → IsKnownAccepted src.names src.program → IsRealProgram src → IsRealBatch batch → IsRealCore core
    → IsRealCore (replayed src core batch)

-- a snapshot that was read
abbrev pub SnapshotsAreReal : Type 0
SnapshotsAreReal = (kept : Snapshot) → IsRealSnapshot kept → IsRealCore (core_of_snapshot kept)

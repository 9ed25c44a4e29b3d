-- A real core is real behind an arrival, behind a batch, and behind a batch that is run again; and so is the core of a snapshot that was read.
use Rattle.std.proofs.Common.{List, [], ◌∷◌, length, map as over, subst}
use Rattle.std.specs.List.{AllByRecursion}
use Rattle.sf_value.specs.declared.Request.{Request}
use Rattle.byte_sizes.specs.Spelt.{IsRealAct, IsRealEntry, IsRealRequest}
use Rattle.program_meaning.specs.ClassTables.{Source}
use Rattle.program_meaning.specs.World.{State}
use Rattle.program_meaning.specs.RequestRun.{run}
use Rattle.program_meaning.specs.Serial.{serial_state}
use Rattle.program_meaning.specs.NothingGoesWrong.{IsKnownAccepted}
use Rattle.short_runs.specs.RealRuns.{EntityIsReal, StateIsReal, IsRealProgram}
use Rattle.short_runs.proofs.RunsReal.{first_is_real, runs_are_real, serial_is_real}
use Rattle.engine.specs.declared.arrival.Arrival.{Arrival}
use Rattle.engine.specs.declared.arrival.Arrival.TheVariants as arrival
use Rattle.engine.specs.Arrivals.{arrival_of, joined}
use Rattle.engine.specs.Batches.{requests_at, other_places, entry_on, batch_entries}
use Rattle.engine.specs.Replays.{with_news, listed, serial_entries}
use Rattle.engine.proofs.PlaceLaws.{each_at}
use Rattle.storable_cores.specs.RealCores.{IsRealCore, EmptyIsReal, ArrivalsAreReal, BatchesAreReal, ReplaysAreReal, SnapshotsAreReal}
use Rattle.storable_cores.proofs.Lists.{each_joined}
use Rattle.storable_cores.proofs.HeldRecords.{each_of_records}
use Rattle.storable_cores.proofs.RunLaws.{acts_on}

pub empty_is_real : EmptyIsReal
empty_is_real = record { entries = tt; state = first_is_real; requests = tt }

pub arrivals_are_real : ArrivalsAreReal
arrivals_are_real core r real asked = by (arrival_of core r)
  where
    by : (met : Arrival) → IsRealCore (joined core r met)
    by arrival.New = record { entries = real.entries; state = real.state; requests = each_joined IsRealRequest core.pending (r ∷ []) real.requests (asked, tt) }
    by (arrival.Again place) = real
    by arrival.Waiting = real
    by arrival.Reused = real

acts_real : (rs : List Request) → AllByRecursion IsRealRequest rs → AllByRecursion IsRealAct (over (λ (r : Request). r.act) rs)
acts_real [] all = tt
acts_real (r ∷ rs) all = (all.0.1, acts_real rs all.1)

module _ (src : Source) (accepted : IsKnownAccepted src.names src.program) (program : IsRealProgram src) where
  entry_real : (s : State) (r : Request) → StateIsReal s → IsRealRequest r → IsRealEntry (entry_on src s r)
  entry_real s r state asked = (asked, (runs_are_real src accepted program s r.act state asked.1).0)

  -- each by itself
  entries_real : (s : State) (rs : List Request) → StateIsReal s → AllByRecursion IsRealRequest rs → AllByRecursion IsRealEntry (over (entry_on src s) rs)
  entries_real s [] state all = tt
  entries_real s (r ∷ rs) state all = (entry_real s r state all.0, entries_real s rs state all.1)

  -- one after another
  serial_real : (s : State) (rs : List Request) → StateIsReal s → AllByRecursion IsRealRequest rs → AllByRecursion IsRealEntry (serial_entries src s rs)
  serial_real s [] state all = tt
  serial_real s (r ∷ rs) state all =
      (entry_real s r state all.0, serial_real (run src s r.act).state rs (runs_are_real src accepted program s r.act state all.0.1).1 all.1)

  state_behind : (s : State) (rs : List Request) → StateIsReal s → AllByRecursion IsRealRequest rs → StateIsReal (serial_state src s (over (λ (r : Request). r.act) rs))
  state_behind s rs state all = (serial_is_real src accepted program s (over (λ (r : Request). r.act) rs) state (acts_real rs all)).1

pub batches_are_real : BatchesAreReal
batches_are_real src core committed accepted program real =
    let chosen = requests_at core.pending committed in
    let all = each_at IsRealRequest core.pending real.requests committed in
    record {
      entries = each_joined IsRealEntry core.history (batch_entries src core committed) real.entries (entries_real src accepted program core.state chosen real.state all);
      state = subst (λ acts. StateIsReal (serial_state src core.state acts)) (acts_on src core.state chosen) (state_behind src accepted program core.state chosen real.state all);
      requests = each_at IsRealRequest core.pending real.requests (other_places (length core.pending) committed);
    }

pub replays_are_real : ReplaysAreReal
replays_are_real src core batch accepted program read real =
    let waiting = (with_news core batch).pending in
    let chosen = listed core batch in
    let all = each_joined IsRealRequest core.pending batch.news real.requests read.0 in
    let own = each_at IsRealRequest waiting all batch.committed in
    record {
      entries = each_joined IsRealEntry core.history (serial_entries src core.state chosen) real.entries (serial_real src accepted program core.state chosen real.state own);
      state = state_behind src accepted program core.state chosen real.state own;
      requests = each_at IsRealRequest waiting all (other_places (length waiting) batch.committed);
    }

pub snapshots_are_real : SnapshotsAreReal
snapshots_are_real kept read = record { entries = read.1.0; state = record { each = each_of_records EntityIsReal kept.records read.1.1.0.1 }; requests = read.1.1.1 }

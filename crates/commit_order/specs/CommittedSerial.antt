-- What a rule commits of a batch is a serial run.
use Rattle.std.specs.Prelude.{◌≡◌, ℕ, true, List, [], ◌∷◌, map as over, length, Some, None, slice_get}
use Rattle.std.specs.declared.option.Option.{Option}
use Rattle.std.specs.FinMap as map
use Rattle.std.specs.FinSet as set
use Rattle.sf_value.specs.Keys.{Key}
use Rattle.sf_value.specs.declared.Act.{Act}
use Rattle.program_meaning.specs.ClassTables.{Source}
use Rattle.program_meaning.specs.World.{State}
use Rattle.program_meaning.specs.RequestRun.{Ran, run}
use Rattle.program_meaning.specs.Serial.{serial_outcomes, serial_state}
use Rattle.keyed_state.specs.declared.Work.{Work}
use Rattle.keyed_state.specs.Works.{keys_of, held_record, work_at, after_writes}
use Rattle.serial_order.specs.ConflictFree.{runs_on}
use Rattle.reservations.specs.Accesses.{accesses_of}
use Rattle.reservations.specs.CommitRules.{Chosen, IsLawful}

-- what is asked at these places
abbrev pub and_more : Option Act → List Act → List Act
and_more None more = more
and_more (Some asked) more = asked ∷ more

unfoldable pub asked_at : List Act → List ℕ → List Act
asked_at batch [] = []
asked_at batch (place ∷ places) = and_more (slice_get batch place) (asked_at batch places)

-- a work is that of a run: it has read and written the same entities, and holds what the run has left of those that it wrote
pub record IsWorkOf (ran : Ran) (work : Work) : Type 0 where
  pub reads : keys_of work.reads ≡ ran.reads
  pub writes : keys_of work.writes ≡ ran.writes
  pub records : (q : Key) → set.contains ran.writes q ≡ true → held_record work.held q ≡ map.get ran.state q

-- these are the works of the requests of a batch, each of which ran by itself on one snapshot
pub record AreWorksOf (src : Source) (snapshot : State) (batch : List Act) (works : List Work) : Type 0 where
  pub as_many : length works ≡ length batch
  pub each : (place : ℕ) (asked : Act) → slice_get batch place ≡ Some asked → IsWorkOf (run src snapshot asked) (work_at works place)

-- one after another, the committed ones have the outcomes that they had on the snapshot, and leave the snapshot with their works' writes
pub record IsSerial (src : Source) (snapshot : State) (batch : List Act) (works : List Work) (committed : List ℕ) : Type 0 where
  pub outcomes : serial_outcomes src snapshot (asked_at batch committed) ≡ over (λ ran. ran.outcome) (runs_on src snapshot (asked_at batch committed))
  pub state : serial_state src snapshot (asked_at batch committed) ≡ after_writes snapshot works committed

abbrev pub CommittedIsSerial : Type 0
CommittedIsSerial = (src : Source) (snapshot : State) (batch : List Act) (works : List Work) (chosen : Chosen) → AreWorksOf src snapshot batch works → IsLawful (accesses_of works) chosen → IsSerial src snapshot batch works chosen.committed

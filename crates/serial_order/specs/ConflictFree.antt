-- Requests that don't conflict, each run on one state, and what they come to one after another.
use Rattle.std.specs.Prelude.{◌≡◌, Bool, true, false, cond, ◌||◌, List, [], ◌∷◌, map as over}
use Rattle.std.specs.declared.option.Option.{Option}
use Rattle.std.specs.List.{AllByRecursion}
use Rattle.std.specs.FinMap as map
use Rattle.std.specs.FinSet as set
use Rattle.sf_value.specs.Keys.{Key}
use Rattle.sf_value.specs.declared.value.Value.{Value}
use Rattle.sf_value.specs.declared.Act.{Act}
use Rattle.program_meaning.specs.ClassTables.{Source}
use Rattle.program_meaning.specs.World.{State, Keys}
use Rattle.program_meaning.specs.RequestRun.{Ran, run}
use Rattle.program_meaning.specs.Serial.{serial_outcomes, serial_state}

-- the entities that a run read and wrote
pub record Access : Type 0 where
  pub reads : Keys
  pub writes : Keys

abbrev pub access_of : Ran → Access
access_of ran = record { reads = ran.reads; writes = ran.writes }

-- an entity is read or written
abbrev pub touches : Access → Key → Bool
touches a q = set.contains a.reads q || set.contains a.writes q

-- the first writes nothing that the second reads or writes
pub record LeavesAlone (a b : Access) : Type 0 where
  pub at : (q : Key) → set.contains a.writes q ≡ true → touches b q ≡ false

-- none reads or writes what an earlier one of the list writes
unfoldable pub IsConflictFree : List Access → Type 0
IsConflictFree [] = Unit {0}
IsConflictFree (a ∷ later) = AllByRecursion (LeavesAlone a) later × IsConflictFree later

-- each request by itself, all from one state
abbrev pub runs_on : Source → State → List Act → List Ran
runs_on src s asked = over (run src s) asked

-- the record of an entity, which was this one before, once these runs have written theirs, one after another
unfoldable pub record_after : Option (List Value) → Key → List Ran → Option (List Value)
record_after before q [] = before
record_after before q (ran ∷ later) = record_after (cond (set.contains ran.writes q) (map.get ran.state q) before) q later

-- one after another the requests have the outcomes that each has by itself, and their writes make the state after them
pub record IsSerialOrder (src : Source) (s : State) (asked : List Act) : Type 0 where
  pub outcomes : serial_outcomes src s asked ≡ over (λ ran. ran.outcome) (runs_on src s asked)
  pub records : (q : Key) → map.get (serial_state src s asked) q ≡ record_after (map.get s q) q (runs_on src s asked)

abbrev pub ConflictFreeIsSerial : Type 0
ConflictFreeIsSerial = (src : Source) (s : State) (asked : List Act) → IsConflictFree (over access_of (runs_on src s asked)) → IsSerialOrder src s asked

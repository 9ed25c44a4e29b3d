-- A run depends on the entities that it reads, and on nothing else of the state; it changes the entities that it writes, and nothing else.
--
-- What is read and written is named by keys of entities. Only these words say what agrees and what stays at such a key.
use Rattle.std.specs.Prelude.{◌≡◌, true, false, is_some}
use Rattle.std.specs.FinMap as map
use Rattle.std.specs.FinSet as set
use Rattle.sf_value.specs.Keys.{Key}
use Rattle.sf_value.specs.declared.Act.{Act}
use Rattle.program_meaning.specs.ClassTables.{Source}
use Rattle.program_meaning.specs.World.{State, Keys}
use Rattle.program_meaning.specs.RequestRun.{Ran, run}

-- two states have the same record, or both none, at each of these entities
pub record AgreesOn (keys : Keys) (s t : State) : Type 0 where
  pub at : (q : Key) → set.contains keys q ≡ true → map.get s q ≡ map.get t q

-- two runs have one outcome, read and write the same entities, leave as many steps, and leave equal records of what they wrote
pub record IsAlike (a b : Ran) : Type 0 where
  pub outcome : a.outcome ≡ b.outcome
  pub reads : a.reads ≡ b.reads
  pub writes : a.writes ≡ b.writes
  pub steps : a.steps ≡ b.steps
  pub records : AgreesOn a.writes a.state b.state

-- such runs are framed by what they read and write
pub record IsFramed (run_from : State → Act → Ran) : Type 0 where
  -- from states that agree on what one run reads, both come to the same
  pub depends : (s t : State) (asked : Act) → AgreesOn (run_from s asked).reads s t → IsAlike (run_from s asked) (run_from t asked)
  -- what isn't written stays
  pub stays : (s : State) (asked : Act) (q : Key)
      → set.contains (run_from s asked).writes q ≡ false → map.get (run_from s asked).state q ≡ map.get s q
  -- what is written is there afterwards
  pub there : (s : State) (asked : Act) (q : Key) → set.contains (run_from s asked).writes q ≡ true → is_some (map.get (run_from s asked).state q) ≡ true

abbrev pub RunsAreFramed : Type 0
RunsAreFramed = (src : Source) → IsFramed (run src)

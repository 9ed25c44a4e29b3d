-- A batch of a log run again: the core behind it, and when it fits the core before.
use Rattle.std.specs.Prelude.{◌≡◌, ℕ, ◌+◌, ◌-◌, ◌≤◌, ◌<◌, ◌^◌, true, bytes_eq, List, [], ◌∷◌, ◌++◌, map as over, take, length}
use Rattle.std.specs.List.{AllByRecursion, IsDistinct}
use Rattle.py_tree.specs.ClassRules.{PlainTable}
use Rattle.sf_value.specs.declared.BatchRecord.{BatchRecord}
use Rattle.sf_value.specs.declared.Entry.{Entry}
use Rattle.sf_value.specs.declared.Request.{Request}
use Rattle.program_meaning.specs.ClassTables.{Source}
use Rattle.program_meaning.specs.World.{State}
use Rattle.program_meaning.specs.RequestRun.{run}
use Rattle.program_meaning.specs.Serial.{serial_state}
use Rattle.keyed_state.specs.Works.{are_places}
use Rattle.request_history.specs.SoundHistory.{RequestFits}
use Rattle.engine.specs.Cores.{Core, ids_of}
use Rattle.engine.specs.Batches.{requests_at, other_places, entry_on}

-- the news join the requests that wait, at their end
abbrev pub with_news : Core → BatchRecord → Core
with_news core batch = record { history = core.history; state = core.state; pending = core.pending ++ batch.news }

-- a core without the requests that came since the last batch, so many
abbrev pub settled : Core → ℕ → Core
settled core fresh = record { history = core.history; state = core.state; pending = take (length core.pending - fresh) core.pending }

-- the requests that a batch lists, in its order
abbrev pub listed : Core → BatchRecord → List Request
listed core batch = requests_at (with_news core batch).pending batch.committed

-- requests with what they come to one after another, each on the state left by those before it
abbrev pub serial_entries : Source → State → List Request → List Entry
serial_entries src s [] = []
serial_entries src s (r ∷ rs) = entry_on src s r ∷ serial_entries src (run src s r.act).state rs

-- of requests that wait those at these places join the history with what they come to, the state is the one after them, and the others wait on
abbrev pub ran_again : Source → Core → List Request → List ℕ → Core
ran_again src core waiting places = record {
  history = core.history ++ serial_entries src core.state (requests_at waiting places);
  state = serial_state src core.state (over (λ (r : Request). r.act) (requests_at waiting places));
  pending = requests_at waiting (other_places (length waiting) places);
}

-- so it is with the listed ones, once the news have joined those that wait
abbrev pub replayed : Source → Core → BatchRecord → Core
replayed src core batch = ran_again src core (with_news core batch).pending batch.committed

-- a batch lists requests of a core: at most 256 wait then, and it lists some of these, each once, for which the history has places
pub record ListFits (core : Core) (batch : BatchRecord) : Type 0 where
  pub few : length (with_news core batch).pending ≤ 256
  pub some : 1 ≤ length batch.committed
  pub once : are_places (length (with_news core batch).pending) batch.committed ≡ true
  pub places : length core.history + length batch.committed < 2 ^ 32

-- a batch fits a core: its news fit the program, each id stands once, and it lists requests that wait then
pub record BatchFits (tables : List PlainTable) (core : Core) (batch : BatchRecord) : Type 0 where
  pub requests : AllByRecursion (RequestFits tables) batch.news
  pub ids : IsDistinct bytes_eq (ids_of (with_news core batch))
  pub list : ListFits core batch

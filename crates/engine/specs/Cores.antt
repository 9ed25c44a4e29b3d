-- The core of an engine: what was committed, the state behind it, and the requests that wait for a batch.
use Rattle.std.specs.Prelude.{bytes_eq, ℕ, List, [], ◌++◌, map as over}
use Rattle.std.specs.List.{AllByRecursion, IsDistinct}
use Rattle.py_tree.specs.ClassRules.{PlainTable, tables_of}
use Rattle.sf_value.specs.declared.Entry.{Entry}
use Rattle.sf_value.specs.declared.Request.{Request}
use Rattle.program_meaning.specs.ClassTables.{Source}
use Rattle.program_meaning.specs.World.{State}
use Rattle.program_meaning.specs.Serial.{no_state}
use Rattle.program_meaning.specs.Fits.{StateFits}
use Rattle.request_history.specs.SoundHistory.{RequestFits, EntriesFit, IsSoundHistory}

pub record Core : Type 0 where
  pub history : List Entry
  pub state : State
  pub pending : List Request

abbrev pub empty_core : Core
empty_core = record { history = []; state = no_state; pending = [] }

-- the ids of the committed requests, and then of those that wait
abbrev pub ids_of : Core → List (List ℕ)
ids_of core = over (λ (e : Entry). e.request.id) core.history ++ over (λ (r : Request). r.id) core.pending

-- the requests that wait fit the program, and each id stands once
pub record PendingFits (tables : List PlainTable) (core : Core) : Type 0 where
  pub requests : AllByRecursion (RequestFits tables) core.pending
  pub ids : IsDistinct bytes_eq (ids_of core)

-- a core fits a program: its requests do, what the committed ones came to, and its state
pub record CoreFits (tables : List PlainTable) (core : Core) : Type 0 where
  pub entries : EntriesFit tables core.history
  pub state : StateFits tables core.state
  pub pending : PendingFits tables core

-- a core is sound: what was committed is the serial run of its requests from the empty state, its state is the one after them, all
-- requests fit the program, and each id stands once
pub record IsSoundCore (src : Source) (core : Core) : Type 0 where
  pub committed : IsSoundHistory src (record { history = core.history; state = core.state })
  pub pending : PendingFits (tables_of src.names src.program) core

-- Requests run one after another, and what makes a history with its state sound.
use Rattle.std.specs.Prelude.{◌≡◌, ℕ, Bool, true, not, ◌&&◌, bytes_eq, List, [], ◌∷◌, map as over}
use Rattle.std.specs.FinMap as map
use Rattle.std.specs.List.{list_any}
use Rattle.sf_value.specs.declared.Act.{Act}
use Rattle.sf_value.specs.declared.Entry.{Entry}
use Rattle.sf_value.specs.declared.Outcome.{Outcome}
use Rattle.program_meaning.specs.ClassTables.{Source}
use Rattle.program_meaning.specs.World.{State}
use Rattle.program_meaning.specs.RequestRun.{run}

-- the state before any request
abbrev pub no_state : State
no_state = map.empty

-- what these requests come to, one after another
unfoldable pub serial_outcomes : Source → State → List Act → List Outcome
serial_outcomes src s [] = []
serial_outcomes src s (r ∷ rs) = (run src s r).outcome ∷ serial_outcomes src (run src s r).state rs

-- and the state after them
unfoldable pub serial_state : Source → State → List Act → State
serial_state src s [] = s
serial_state src s (r ∷ rs) = serial_state src (run src s r).state rs

-- a history with its state: the entries in the order in which they were committed
pub record Core : Type 0 where
  pub history : List Entry
  pub state : State

abbrev pub acts_of : List Entry → List Act
acts_of = over (λ e. e.request.act)

abbrev pub outcomes_of : List Entry → List Outcome
outcomes_of = over (λ e. e.outcome)

-- a request with this id stands in the history
abbrev pub is_committed : List Entry → List ℕ → Bool
is_committed history id = list_any (λ e. bytes_eq id e.request.id) history

-- no two entries have one id
abbrev pub ids_differ : List Entry → Bool
ids_differ [] = true
ids_differ (e ∷ es) = not (is_committed es e.request.id) && ids_differ es

-- the history is the serial run of its requests from the empty state, each id once, and the state is the one after it
pub record IsSound (src : Source) (core : Core) : Type 0 where
  pub outcomes : outcomes_of core.history ≡ serial_outcomes src no_state (acts_of core.history)
  pub state : core.state ≡ serial_state src no_state (acts_of core.history)
  pub ids : ids_differ core.history ≡ true

-- What a batch moves that has run: the core behind it, and when an engine can take it without memory.
use Rattle.std.specs.Prelude.{◌≡◌, ℕ, ◌+◌, ◌≤◌, ◌<◌, ◌^◌, true, List, ◌++◌, length}
use Rattle.program_meaning.specs.Serial.{ids_differ}
use Rattle.keyed_state.specs.Works.{after_writes, written_count, are_places}
use Rattle.engine.specs.declared.engine.Engine.{Engine}
use Rattle.engine.specs.declared.moves.Moves.{Moves}
use Rattle.engine.specs.Cores.{Core}

-- its entries join the history, the works at these places make their writes, one after another, and its carried requests wait on
abbrev pub moved : Core → Moves → List ℕ → Core
moved core m places = record { history = core.history ++ m.entries; state = after_writes core.state m.works places; pending = m.carried }

-- a core can take it: the ids of the entries are new, the history has places for them, few requests wait on, and the works stand at the places
pub record CanMove (core : Core) (m : Moves) (places : List ℕ) : Type 0 where
  pub ids : ids_differ (core.history ++ m.entries) ≡ true
  pub placed : length core.history + length m.entries < 2 ^ 32
  pub few : length m.carried ≤ 256
  pub there : are_places (length m.works) places ≡ true

-- an engine has room for it, so that it moves without memory
pub record HasRoomFor (e : Engine) (m : Moves) (places : List ℕ) : Type 0 where
  pub history : length m.entries ≤ e.history.spare
  pub state : written_count m.works places ≤ e.state.spare

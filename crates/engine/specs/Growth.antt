-- How a core grows: by entries that are the serial run of their requests from its state on.
use Rattle.std.specs.Prelude.{◌≡◌, List, ◌++◌}
use Rattle.py_tree.specs.ClassRules.{tables_of}
use Rattle.sf_value.specs.declared.Entry.{Entry}
use Rattle.program_meaning.specs.ClassTables.{Source}
use Rattle.program_meaning.specs.Serial.{acts_of, outcomes_of, serial_outcomes, serial_state}
use Rattle.request_history.specs.SoundHistory.{RequestsFit}
use Rattle.engine.specs.Cores.{Core, PendingFits, IsSoundCore}

-- A core goes on from another by these entries: they have the outcomes of their requests, run one after another on the state of the other core, and the
-- state is the one after them. Where what waited in the other core fits the program, the requests of these entries do, and what waits then does.
pub record GoesOnSerially (src : Source) (old new : Core) (added : List Entry) : Type 0 where
  pub history : new.history ≡ old.history ++ added
  pub outcomes : outcomes_of added ≡ serial_outcomes src old.state (acts_of added)
  pub state : new.state ≡ serial_state src old.state (acts_of added)
  pub requests : PendingFits (tables_of src.names src.program) old → RequestsFit (tables_of src.names src.program) added
  pub pending : PendingFits (tables_of src.names src.program) old → PendingFits (tables_of src.names src.program) new

-- a core grows serially from another: it goes on from it by some entries
pub record GrowsSerially (src : Source) (old new : Core) : Type 0 where
  pub added : List Entry
  pub goes_on : GoesOnSerially src old new added

-- what grows serially from a sound core is sound
abbrev pub GrowsSound : Type 0
GrowsSound = (src : Source) (old new : Core) → IsSoundCore src old → GrowsSerially src old new → IsSoundCore src new

-- and what grows serially twice grows serially
abbrev pub GrowsOn : Type 0
GrowsOn = (src : Source) (old middle new : Core) → GrowsSerially src old middle → GrowsSerially src middle new → GrowsSerially src old new

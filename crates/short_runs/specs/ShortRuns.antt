-- Runs keep what they store short: each text has fewer than 2^32 bytes, and each list that is a value fewer than 2^32 items.
use Rattle.std.specs.Prelude.{◌≡◌, List, Some}
use Rattle.std.specs.FinMap as map
use Rattle.std.specs.List.{AllByRecursion}
use Rattle.sf_value.specs.Keys.{Key}
use Rattle.sf_value.specs.declared.value.Value.{Value}
use Rattle.sf_value.specs.declared.Act.{Act}
use Rattle.sf_value.specs.declared.Outcome.{Outcome}
use Rattle.sf_value.specs.declared.Outcome.TheVariants as outcome
use Rattle.byte_sizes.specs.Spelt.{IsShortText, IsShort}
use Rattle.program_meaning.specs.ClassTables.{Source}
use Rattle.program_meaning.specs.World.{State}
use Rattle.program_meaning.specs.RequestRun.{run}
use Rattle.program_meaning.specs.Serial.{no_state, serial_outcomes, serial_state}

-- the value, or the message of the failure
abbrev pub OutcomeIsShort : Outcome → Type 0
OutcomeIsShort (outcome.Value v) = IsShort v
OutcomeIsShort (outcome.Failed f) = IsShortText f.message

-- the text of an entity's key, and the value of each of its fields
abbrev pub EntityIsShort : Key → List Value → Type 0
EntityIsShort at fields = IsShortText at.1 × AllByRecursion IsShort fields

-- each entity that there is
pub record StateIsShort (s : State) : Type 0 where
  pub each : (at : Key) (fields : List Value) → map.get s at ≡ Some fields → EntityIsShort at fields

abbrev pub FirstIsShort : Type 0
FirstIsShort = StateIsShort no_state

-- a request keeps the state short, and so is what it comes to; a request that weighs too much runs nothing, so nothing is asked of it
abbrev pub RunsAreShort : Type 0
RunsAreShort = (src : Source) (s : State) (asked : Act) → StateIsShort s
    → OutcomeIsShort (run src s asked).outcome × StateIsShort (run src s asked).state

-- so do requests that run one after another
abbrev pub SerialIsShort : Type 0
SerialIsShort = (src : Source) (s : State) (asked : List Act) → StateIsShort s
    → AllByRecursion OutcomeIsShort (serial_outcomes src s asked) × StateIsShort (serial_state src s asked)

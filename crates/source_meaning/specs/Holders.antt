-- The records that code begins with, seen as a state.
use Rattle.std.specs.FinMap as map
use Rattle.sf_value.specs.Keys.{key_of}
use Rattle.source_meaning.specs.declared.records.Holders.{Holders}
use Rattle.source_meaning.specs.declared.records.Holders.TheVariants as holders
use Rattle.program_meaning.specs.World.{State}
use Rattle.program_meaning.specs.Serial.{no_state}

abbrev pub state_held : Holders → State
state_held (holders.All state) = state.now
state_held (holders.One me fields) = map.insert no_state (key_of me.now) fields.now

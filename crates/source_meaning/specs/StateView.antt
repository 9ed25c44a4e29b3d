-- The table of the interpreter, seen as the state.
use Rattle.std.specs.Prelude.{List, map as over}
use Rattle.std.specs.FinMap as map
use Rattle.std.specs.Coded.{Coded, coded_ℕ, coded×, coded_list}
use Rattle.sf_value.specs.Keys.{key_of}
use Rattle.sf_value.specs.declared.value.Value.{Value}
use Rattle.sf_value.specs.declared.value.Ref.{Ref}
use Rattle.sf_value.specs.contracts.value.Value as row
use Rattle.program_meaning.specs.World.{State}

-- the state that these entries make
abbrev pub state_of : List (Ref × List Value) → State
state_of entries = map.from_entries (over (λ (e : Ref × List Value). (key_of e.0, e.1)) entries)

abbrev pub state_code : Coded State
state_code = map.code (coded× coded_ℕ (coded_list coded_ℕ)) (coded_list row.the_row.coded)

-- When the core of an engine can be written to a store: all of it has a spelling, and what a batch brings is short.
use Rattle.std.specs.Prelude.{◌≡◌, ℕ, ◌+◌, ◌-◌, ◌*◌, ◌≤◌, List, length, drop, Some}
use Rattle.std.specs.FinMap as map
use Rattle.std.specs.List.{AllByRecursion}
use Rattle.sf_value.specs.Keys.{Key}
use Rattle.sf_value.specs.declared.Held.{Held}
use Rattle.sf_value.specs.declared.Request.{Request}
use Rattle.sf_value.specs.declared.value.Value.{Value}
use Rattle.byte_sizes.specs.Sizes.{request_size}
use Rattle.byte_sizes.specs.Spelt.{IsSpeltEntry, IsSpeltHeld, IsSpeltRequest}
use Rattle.program_meaning.specs.World.{State}
use Rattle.request_json.specs.RequestLines.{longest}
use Rattle.engine.specs.Cores.{Core}

-- an entity with its fields
abbrev pub held_at : Key → List Value → Held
held_at at fields = record { at = record { class = at.0; key = at.1 }; fields = record { fields = fields } }

-- each entity that there is has a spelling, with its fields
abbrev pub StateIsSpelt : State → Type 0
StateIsSpelt s = (at : Key) (fields : List Value) → map.get s at ≡ Some fields → IsSpeltHeld (held_at at fields)

-- what was committed has a spelling, and so have the state and the requests that wait
pub record IsSpeltCore (core : Core) : Type 0 where
  pub entries : AllByRecursion IsSpeltEntry core.history
  pub state : StateIsSpelt core.state
  pub requests : AllByRecursion IsSpeltRequest core.pending

-- the requests that came since the last batch, so many
abbrev pub news_of : Core → ℕ → List Request
news_of core fresh = drop (length core.pending - fresh) core.pending

-- how many bytes the request of a line takes at most
abbrev pub most_bytes : ℕ
most_bytes = 9 * longest + 100

-- so many requests came since the last batch, each no longer than one of a line, and all of the core has a spelling
pub record IsStorable (core : Core) (fresh : ℕ) : Type 0 where
  pub spelt : IsSpeltCore core
  pub among : fresh ≤ length core.pending
  pub news : AllByRecursion (λ r. request_size r ≤ most_bytes) (news_of core fresh)

-- The run of one request.
use Rattle.std.specs.Prelude.{ℕ, ◌+◌, Bool, ◌||◌, nat_lt, length, if◌then◌else◌}
use Rattle.std.specs.FinSet as set
use Rattle.std.specs.List.{list_any}
use Rattle.std.specs.Str.{encode_utf8_all}
use Rattle.sf_value.specs.Weight.{weight_of}
use Rattle.sf_value.specs.declared.value.Value.{Value}
use Rattle.sf_value.specs.declared.Act.{Act}
use Rattle.sf_value.specs.declared.Act.TheVariants as act
use Rattle.sf_value.specs.declared.Outcome.{Outcome}
use Rattle.sf_value.specs.declared.Outcome.TheVariants as outcome
use Rattle.program_meaning.specs.ClassTables.{Source}
use Rattle.program_meaning.specs.World.{State, Keys, World, Gives, Got, Fell, size_limit}
use Rattle.program_meaning.specs.Calls.{calls_at}

-- what a run comes to, the next state, the entities read and written, and the steps left
pub record Ran : Type 0 where
  pub outcome : Outcome
  pub state : State
  pub reads : Keys
  pub writes : Keys
  pub steps : ℕ

-- a request has this many steps, and this many calls may be open in it
abbrev pub steps_at_first : ℕ
steps_at_first = 100000

abbrev pub depth_limit : ℕ
depth_limit = 64

abbrev pub at_first : State → World
at_first s = record { state = s; reads = set.empty; writes = set.empty }

-- the key and then the arguments are weighed
abbrev pub is_heavy : Value → Bool
is_heavy v = nat_lt 65536 (weight_of v)

unfoldable pub is_too_heavy : Act → Bool
is_too_heavy (act.Call class key method args) = nat_lt 65536 (1 + length (encode_utf8_all key)) || list_any is_heavy args
is_too_heavy (act.New class args) = list_any is_heavy args

-- the call or the creation at depth 1
unfoldable pub begin : Source → Act → State → Gives World Value
begin src (act.Call class key method args) s = (calls_at src depth_limit).call (class, key) method args (at_first s) steps_at_first
begin src (act.New class args) s = (calls_at src depth_limit).make class args (at_first s) steps_at_first

-- after a failure the state is as before, and nothing counts as written
abbrev pub ended : State → Gives World Value → Ran
ended s (Got v w n) = record { outcome = outcome.Value v; state = w.state; reads = w.reads; writes = w.writes; steps = n }
ended s (Fell f w n) = record { outcome = outcome.Failed f; state = s; reads = w.reads; writes = set.empty; steps = n }

-- a request that weighs too much runs nothing
abbrev pub refused : State → Ran
refused s = record { outcome = outcome.Failed size_limit; state = s; reads = set.empty; writes = set.empty; steps = steps_at_first }

unfoldable pub run : Source → State → Act → Ran
run src s asked = if is_too_heavy asked then refused s else ended s (begin src asked s)

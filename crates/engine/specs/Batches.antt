-- A batch of the requests that wait: which of them are committed, and the core behind it.
use Rattle.std.specs.Prelude.{ℕ, ◌+◌, not, nat_eq, List, [], ◌∷◌, ◌++◌, map as over, filter, filter_map, length}
use Rattle.std.specs.List.{slice_get, list_any, range_with_len}
use Rattle.std.specs.List.Sorted.{IsPermutation}
use Rattle.sf_value.specs.declared.Entry.{Entry}
use Rattle.sf_value.specs.declared.Reply.{Reply}
use Rattle.sf_value.specs.declared.Request.{Request}
use Rattle.program_meaning.specs.ClassTables.{Source}
use Rattle.program_meaning.specs.World.{State}
use Rattle.program_meaning.specs.RequestRun.{run}
use Rattle.program_meaning.specs.Serial.{acts_of, serial_state}
use Rattle.engine.specs.Cores.{Core}

-- the requests at these places, in the order of the places
abbrev pub requests_at : List Request → List ℕ → List Request
requests_at requests places = filter_map (slice_get requests) places

-- the places of a list of so many that are none of these, rising
abbrev pub other_places : ℕ → List ℕ → List ℕ
other_places n places = filter (λ place. not (list_any (nat_eq place) places)) (range_with_len 0 n)

-- each request that waits is committed or waits on, once
abbrev pub IsSplit : Core → List ℕ → Type 0
IsSplit core committed = IsPermutation (range_with_len 0 (length core.pending)) (committed ++ other_places (length core.pending) committed)

-- a request with what it comes to on this state
abbrev pub entry_on : Source → State → Request → Entry
entry_on src s r = record { request = r; outcome = (run src s r.act).outcome }

-- the committed requests, each with what it comes to by itself on the state before the batch
abbrev pub batch_entries : Source → Core → List ℕ → List Entry
batch_entries src core committed = over (entry_on src core.state) (requests_at core.pending committed)

-- they join the history in their order, the state is the one after them, one after another, and the others wait on
abbrev pub after_batch : Source → Core → List ℕ → Core
after_batch src core committed = record {
  history = core.history ++ batch_entries src core committed;
  state = serial_state src core.state (acts_of (batch_entries src core committed));
  pending = requests_at core.pending (other_places (length core.pending) committed);
}

-- the replies to entries of which the first stands at this place of the history
abbrev pub replies_from : ℕ → List Entry → List Reply
replies_from place [] = []
replies_from place (e ∷ es) = record { seq = place; outcome = e.outcome } ∷ replies_from (place + 1) es

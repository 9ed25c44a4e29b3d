-- What a request meets when it arrives, and the core behind it.
use Rattle.std.specs.Prelude.{◌≡◌, ℕ, ◌+◌, false, bytes_eq, List, [], ◌∷◌, ◌++◌, map as over, None, Some, if◌then◌else◌}
use Rattle.std.specs.List.{list_any, slice_get}
use Rattle.std.specs.declared.option.Option.{Option}
use Rattle.sf_value.specs.declared.Act.{Act}
use Rattle.sf_value.specs.declared.Entry.{Entry}
use Rattle.sf_value.specs.declared.Request.{Request}
use Rattle.request_history.specs.Repeats.{same_act, Kept, kept_of, entry_at}
use Rattle.engine.specs.declared.arrival.Arrival.{Arrival}
use Rattle.engine.specs.declared.arrival.Arrival.TheVariants as arrival
use Rattle.engine.specs.Cores.{Core, ids_of}

-- the request with this id among those that wait
abbrev pub waiting_with : List Request → List ℕ → Option Request
waiting_with [] id = None
waiting_with (r ∷ rs) id = if bytes_eq id r.id then Some r else waiting_with rs id

-- what a request meets that asks for this, where its id has this entry or this request waits with it
abbrev pub meets : Option Kept → Option Request → Act → Arrival
meets (Some kept) waiting asked = if same_act kept.entry.request.act asked then arrival.Again kept.place else arrival.Reused
meets None (Some waiting) asked = if same_act waiting.act asked then arrival.Waiting else arrival.Reused
meets None None asked = arrival.New

unfoldable pub arrival_of : Core → Request → Arrival
arrival_of core r = meets (kept_of core.history r.id) (waiting_with core.pending r.id) r.act

-- a new request joins those that wait, at their end
abbrev pub joined : Core → Request → Arrival → Core
joined core r arrival.New = record { history = core.history; state = core.state; pending = core.pending ++ r ∷ [] }
joined core r other = core

abbrev pub after_arrival : Core → Request → Core
after_arrival core r = joined core r (arrival_of core r)

-- and is counted as one that came since the last batch
abbrev pub counted : ℕ → Arrival → ℕ
counted fresh arrival.New = fresh + 1
counted fresh other = fresh

abbrev pub fresh_after : Core → Request → ℕ → ℕ
fresh_after core r fresh = counted fresh (arrival_of core r)

-- What an arrival says

-- the same request stands at this place of the history
pub record IsCommittedAt (core : Core) (r : Request) (place : ℕ) : Type 0 where
  pub entry : Entry
  pub stands : entry_at core.history place ≡ Some entry
  pub same : entry.request ≡ r

-- the same request waits at this place, counted from 0
pub record IsWaitingAt (core : Core) (r : Request) (place : ℕ) : Type 0 where
  pub stands : slice_get core.pending place ≡ Some r

-- a request with the same id stands among these, and asks for something else
pub record HasOther (requests : List Request) (r : Request) : Type 0 where
  pub place : ℕ
  pub other : Request
  pub stands : slice_get requests place ≡ Some other
  pub id : other.id ≡ r.id
  pub differs : other ≡ r → ⊥

-- the requests that were committed, and then those that wait
abbrev pub requests_of : Core → List Request
requests_of core = over (λ (e : Entry). e.request) core.history ++ core.pending

abbrev pub Says : Core → Request → Arrival → Type 0
Says core r arrival.New = list_any (bytes_eq r.id) (ids_of core) ≡ false
Says core r (arrival.Again place) = IsCommittedAt core r place
Says core r arrival.Waiting = (place : ℕ) × IsWaitingAt core r place
Says core r arrival.Reused = HasOther (requests_of core) r

abbrev pub ArrivalsSay : Type 0
ArrivalsSay = (core : Core) (r : Request) → Says core r (arrival_of core r)

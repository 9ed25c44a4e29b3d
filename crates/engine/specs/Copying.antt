-- Entries put together from a list of requests and one of their outcomes.
use Rattle.std.specs.Prelude.{ℕ, List, Some, None, filter_map}
use Rattle.std.specs.List.{slice_get}
use Rattle.std.specs.declared.option.Option.{Option}
use Rattle.sf_value.specs.declared.Entry.{Entry}
use Rattle.sf_value.specs.declared.Outcome.{Outcome}
use Rattle.sf_value.specs.declared.Request.{Request}

abbrev pub paired : Option Request → Option Outcome → Option Entry
paired (Some r) (Some o) = Some (record { request = r; outcome = o })
paired None o = None
paired (Some r) None = None

-- the request at a place, with the outcome there
abbrev pub entry_of : List Request → List Outcome → ℕ → Option Entry
entry_of requests outcomes place = paired (slice_get requests place) (slice_get outcomes place)

-- those at these places, in the order of the places
abbrev pub entries_at : List Request → List Outcome → List ℕ → List Entry
entries_at requests outcomes places = filter_map (entry_of requests outcomes) places

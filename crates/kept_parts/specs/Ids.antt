-- The ids of entries and of requests.
use Rattle.std.specs.Prelude.{ℕ, List, map}
use Rattle.sf_value.specs.declared.Entry.{Entry}
use Rattle.sf_value.specs.declared.Request.{Request}

abbrev pub entry_ids : List Entry → List (List ℕ)
entry_ids entries = map (λ (e : Entry). e.request.id) entries

abbrev pub request_ids : List Request → List (List ℕ)
request_ids requests = map (λ (r : Request). r.id) requests

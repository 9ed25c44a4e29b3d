-- In a session that serves in batches no request is lost, and none is committed twice.
use Rattle.std.specs.Prelude.{◌≡◌, ℕ, false, bytes_eq, List, [], ◌∷◌, ◌++◌, map as over, if◌then◌else◌}
use Rattle.std.specs.List.{list_any}
use Rattle.std.specs.List.Sorted.{IsPermutation}
use Rattle.sf_value.specs.declared.Entry.{Entry}
use Rattle.sf_value.specs.declared.Request.{Request}
use Rattle.program_meaning.specs.ClassTables.{Source}
use Rattle.serial_order.specs.ConflictFree.{Access}
use Rattle.reservations.specs.CommitRules.{Chosen}
use Rattle.request_json.specs.Actions.{Line, Action, Skip, Refuse, Ask, action_of}
use Rattle.engine.specs.Cores.{Core, ids_of}
use Rattle.engine.specs.Arrivals.{requests_of}
use Rattle.batch_output.specs.BatchOutput.{Limits, begun, after}
use Rattle.batch_output.specs.SerialBatches.{MayBegin}
use Rattle.batch_output.specs.BatchesEnd.{last_standing}

-- the request that a line asks, where its id is none of these
abbrev pub new_request : List (List ℕ) → Action → List Request
new_request ids Skip = []
new_request ids (Refuse cause) = []
new_request ids (Ask r) = if list_any (bytes_eq r.id) ids then [] else r ∷ []

abbrev pub and_ids : List (List ℕ) → List Request → List (List ℕ)
and_ids ids requests = ids ++ over (λ (r : Request). r.id) requests

-- the requests that these lines ask with ids that weren't used before, where these were
unfoldable pub new_requests : Source → List (List ℕ) → List Line → List Request
new_requests src ids [] = []
new_requests src ids (line ∷ lines) =
    new_request ids (action_of src line) ++ new_requests src (and_ids ids (new_request ids (action_of src line))) lines

-- those that were committed or waited, and then the new ones of these lines
abbrev pub all_requests : Source → Core → List Line → List Request
all_requests src core lines = requests_of core ++ new_requests src (ids_of core) lines

-- after these lines each of them was committed or waits, once; behind the end of the input each was committed, once: as long as the
-- history isn't full
pub record KeepsRequests (src : Source) (rule : List Access → Chosen) (limits : Limits) (core : Core) (lines : List Line) : Type 0 where
  pub between : (after src rule limits (begun core) lines).is_full ≡ false
      → IsPermutation (all_requests src core lines) (requests_of (after src rule limits (begun core) lines).core)
  pub ended : (last_standing src rule limits core lines).is_full ≡ false
      → IsPermutation (all_requests src core lines) (over (λ (e : Entry). e.request) (last_standing src rule limits core lines).core.history)

abbrev pub RequestsKept : Type 0
RequestsKept = (src : Source) (rule : List Access → Chosen) (limits : Limits) (core : Core) → MayBegin src rule limits core → (lines : List Line)
    → KeepsRequests src rule limits core lines

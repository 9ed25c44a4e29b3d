-- How a request of a batch stands to earlier ones, each of them run by itself on one state.
use Rattle.std.specs.Prelude.{◌≡◌, ℕ, ◌<◌, Bool, true, List, take}
use Rattle.std.specs.List.{list_any}
use Rattle.std.specs.FinSet as set
use Rattle.sf_value.specs.Keys.{Key}
use Rattle.serial_order.specs.ConflictFree.{Access}
use Rattle.keyed_state.specs.Works.{Keys}
use Rattle.reservations.specs.Accesses.{access_at}

-- an entity is in both sets
pub record Meet (a b : Keys) : Type 0 where
  pub at : Key
  pub first : set.contains a at ≡ true
  pub second : set.contains b at ≡ true

-- the earlier one writes what the later one reads
abbrev pub ReadAfterWrite : Access → Access → Type 0
ReadAfterWrite earlier later = Meet earlier.writes later.reads

-- the earlier one reads what the later one writes
abbrev pub WriteAfterRead : Access → Access → Type 0
WriteAfterRead earlier later = Meet earlier.reads later.writes

-- the earlier one writes what the later one writes
abbrev pub WriteAfterWrite : Access → Access → Type 0
WriteAfterWrite earlier later = Meet earlier.writes later.writes

-- the request at this place stands so to an earlier one of the batch, be that committed or not
pub record HasEarlier (Conflict : Access → Access → Type 0) (batch : List Access) (place : ℕ) : Type 0 where
  pub other : ℕ
  pub earlier : other < place
  pub stands : Conflict (access_at batch other) (access_at batch place)

-- The same as tests

abbrev pub meets : Keys → Keys → Bool
meets a b = list_any (set.contains a) (set.items b)

abbrev pub read_after_write : Access → Access → Bool
read_after_write earlier later = meets earlier.writes later.reads

abbrev pub write_after_read : Access → Access → Bool
write_after_read earlier later = meets earlier.reads later.writes

abbrev pub write_after_write : Access → Access → Bool
write_after_write earlier later = meets earlier.writes later.writes

abbrev pub has_earlier : (Access → Access → Bool) → List Access → ℕ → Bool
has_earlier stands batch place = list_any (λ earlier. stands earlier (access_at batch place)) (take place batch)

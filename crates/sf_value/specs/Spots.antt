-- What of an entity a request can read or write: that it exists, or one of its fields.
use Rattle.std.specs.Prelude.{ℕ, ◌+◌}
use Rattle.std.specs.declared.cmp.Ordering.{Ordering}
use Rattle.std.specs.Ordering.{nat_cmp, ordering_then}
use Rattle.sf_value.specs.Keys.{Key, key_cmp, key_of}
use Rattle.sf_value.specs.declared.spots.Spot.{Spot as Part}

-- an entity, with 0 for its existence, and 1 more than the place of a field for that field
abbrev pub Spot : Type 0
Spot = Key × ℕ

-- by entity, and in one entity by part
abbrev pub spot_cmp : Spot → Spot → Ordering
spot_cmp x y = ordering_then (key_cmp x.0 y.0) (nat_cmp x.1 y.1)

abbrev pub entity_spot : Key → Spot
entity_spot at = (at, 0)

abbrev pub field_spot : Key → ℕ → Spot
field_spot at place = (at, place + 1)

abbrev pub spot_of : Part → Spot
spot_of spot = (key_of spot.at, spot.part)

-- How far code is from its end: the calls that may still be open, the nodes of the tree that is left, and a place among the functions.
use Rattle.std.specs.Prelude.{ℕ, suc, ◌+◌, ◌*◌}
use Rattle.source_meaning.specs.declared.site.Room.{Room}
use Rattle.source_meaning.specs.declared.site.Room.TheVariants as room

abbrev pub rank : Room → ℕ
rank room.Closed = 0
rank (room.Within d) = suc d
rank (room.Open d) = suc d

-- a body has at most 2 ^ 24 nodes, and so less than a call
abbrev pub left : ℕ → ℕ → ℕ → ℕ
left calls nodes place = 536870912 * calls + (16 * nodes + place)

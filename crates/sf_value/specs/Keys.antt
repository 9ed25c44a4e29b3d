-- The keys that finite maps of entities are under.
use Rattle.std.specs.Prelude.{ℕ, List}
use Rattle.std.specs.declared.cmp.Ordering.{Ordering}
use Rattle.std.specs.Ordering.{nat_cmp, ordering_then}
use Rattle.std.specs.Cmp.Lexicographic.{slice_cmp}
use Rattle.sf_value.specs.declared.value.Ref.{Ref}

-- a class's number and the code points of a key
abbrev pub Key : Type 0
Key = ℕ × List ℕ

-- by class, and in one class by code points
abbrev pub key_cmp : Key → Key → Ordering
key_cmp x y = ordering_then (nat_cmp x.0 y.0) (slice_cmp nat_cmp x.1 y.1)

abbrev pub key_of : Ref → Key
key_of at = (at.class, at.key)

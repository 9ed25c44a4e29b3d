-- Entries under entities.
use Rattle.std.specs.Prelude.{Bool, List, map, ◌&&◌, nat_eq}
use Rattle.std.specs.Coded.{Coded}
use Rattle.std.specs.Cmp.Lexicographic.{pointwise}
use Rattle.sf_value.specs.declared.value.Ref.{Ref}
use Rattle.sf_value.specs.contracts.value.Ref as row

-- what `==` answers on entities
abbrev pub is_ref : Ref → Ref → Bool
is_ref a b = nat_eq a.class b.class && pointwise nat_eq a.key b.key

-- the entities of entries, in their order
abbrev pub refs_of : {X : Type 0} → List (Ref × X) → List Ref
refs_of {X} entries = map (λ (e : Ref × X). e.0) entries

abbrev pub ref_code : Coded Ref
ref_code = row.the_row.coded

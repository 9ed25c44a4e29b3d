-- Laws of look-ups by name.
use Rattle.std.proofs.Common.{◌≡◌, ◌≤◌, ℕ, zero, suc, nat_eq, List, [], ◌∷◌, map, length, position, slice_set, Option, Some, None, refl, ap, arith}
use Rattle.sf_value.specs.declared.value.Value.TheVariants as value
use Rattle.program_meaning.specs.World.{value_at, field_value}
use Rattle.py_tree.specs.declared.names.Name.{Name}
use Rattle.py_tree.proofs.NameLaws.{position-map}

-- a name is found among numbers where it is found among names
pub position_names : (names : List Name) (x : ℕ) → position (λ y. nat_eq y x) (map (λ (n : Name). n.0) names) ≡ position (λ (n : Name). nat_eq n.0 x) names
position_names names x = position-map (λ y. nat_eq y x) (λ (n : Name). n.0) names

-- a place past the end sets nothing
pub set_past : {A : Type 0} (xs : List A) (at : ℕ) (x : A) → length xs ≤ at → slice_set xs at x ≡ xs
set_past [] at x past = refl
set_past (y ∷ xs) zero x past = absurd (omega arith)
set_past (y ∷ xs) (suc at) x past = ap (λ l. y ∷ l) (set_past xs at x (omega arith))

empty_at : (o : Option ℕ) → value_at [] o ≡ value.Nil
empty_at None = refl
empty_at (Some zero) = refl
empty_at (Some (suc i)) = refl

-- a record without fields gives None at each name
pub no_field : (names : List ℕ) (x : ℕ) → field_value names [] x ≡ value.Nil
unfolding field_value
no_field names x = empty_at (position (λ y. nat_eq y x) names)

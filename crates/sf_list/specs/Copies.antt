-- When a list is a copy of another, element by element.
use Rattle.std.specs.Prelude.{List, [], ◌∷◌}

-- the second list has a copy of each element of the first, in order, and no more
abbrev pub AreCopies : {T : Type 0} → (T → T → Type 0) → List T → List T → Type 0
AreCopies IsCopy [] [] = Unit {0}
AreCopies IsCopy [] (y ∷ ys) = ⊥
AreCopies IsCopy (x ∷ xs) [] = ⊥
AreCopies IsCopy (x ∷ xs) (y ∷ ys) = IsCopy x y × AreCopies IsCopy xs ys

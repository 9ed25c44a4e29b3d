-- The names that every table of names begins with.
use Rattle.std.specs.Prelude.{ℕ, List, [], ◌∷◌, length, unwrap_or, codes}
use Rattle.py_tree.specs.NameTable.{place_of}

-- `self`, the names of types, the functions, the decorators, the module, and the failures that may be raised
abbrev pub reserved_names : List (List ℕ)
reserved_names =
    codes "self" ∷ codes "int" ∷ codes "bool" ∷ codes "str" ∷ codes "list" ∷ codes "List" ∷ codes "Optional" ∷ codes "len" ∷ codes "abs"
    ∷ codes "min" ∷ codes "max" ∷ codes "range" ∷ codes "entity" ∷ codes "transactional" ∷ codes "stateflow" ∷ codes "Exception"
    ∷ codes "ValueError" ∷ codes "RuntimeError" ∷ []

-- the number of a reserved name, by its text
abbrev pub reserved_number : List ℕ → ℕ
reserved_number text = unwrap_or (place_of reserved_names text) (length reserved_names)

-- the word `self`
abbrev pub self_number : ℕ
self_number = reserved_number (codes "self")

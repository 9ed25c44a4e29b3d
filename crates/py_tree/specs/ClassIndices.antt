-- What is kept of the classes of a program, so that their parts are found by number or by hash.
use Rattle.std.specs.Prelude.{ℕ, ◌≡◌, ◌==◌, ◌+◌, List, [], ◌∷◌, map, length, None, Some, nat_eq, slice_get, option_map, if◌then◌else◌}
use Rattle.std.specs.Borrow.{Bor}
use Rattle.std.specs.declared.option.Option.{Option}
use Rattle.std.specs.List.{position_from}
use Rattle.indexmap.specs.IndexMap.{IndexMap, get}
use Rattle.py_tree.specs.declared.class_index.ClassIndex.{ClassIndex}
use Rattle.py_tree.specs.PlainProgram.{PlainMethod, PlainClass, PlainProgram}
use Rattle.py_tree.specs.ClassRules.{is_init, is_called, init_of, methods_of, field_names, body_of, key_of}
use Rattle.py_tree.specs.ClassViews.{numbers_of}

-- a table has the first place of each name of a list, and of no other
abbrev pub HasPlaces : {S : Type 0} → IndexMap ℕ ℕ S → List ℕ → Type 0
HasPlaces places names = (name : ℕ) → get nat_eq places name ≡ position_from (λ n. n == name) 0 names

-- where the methods that are called by name stand, the first member standing at this place
unfoldable pub called_places : List (List ℕ) → ℕ → List PlainMethod → List ℕ
called_places names place [] = []
called_places names place (m ∷ ms) = if is_called names m.name then place ∷ called_places names (place + 1) ms else called_places names (place + 1) ms

-- where the `__init__` stands
abbrev pub init_place : List (List ℕ) → List PlainMethod → Option ℕ
init_place names members = position_from (λ m. is_init names m.name) 0 members

-- the parts of a class with these members, as they are kept
pub record IsIndex (names : List (List ℕ)) (members : List PlainMethod) (index : ClassIndex) : Type 0 where
  pub methods : index.methods.items ≡ called_places names 0 members
  pub numbers : HasPlaces index.numbers (map (λ m. m.name) (methods_of names members))
  pub init : index.init ≡ init_place names members
  pub key_param : index.key_param ≡ option_map (λ k. k.param) (key_of names members)
  pub fields : numbers_of index.fields.items ≡ field_names (body_of (init_of names members))

-- and those of each class, in order
pub record AreIndices (names : List (List ℕ)) (program : PlainProgram) (indices : List ClassIndex) : Type 0 where
  pub count : length indices ≡ length program
  pub each : (class : ℕ) (c : PlainClass) (index : ClassIndex) → slice_get program class ≡ Some c → slice_get indices class ≡ Some index → IsIndex names c.members index

-- what is found of a class: its index, where there is a class of this number, and else it defines nothing
abbrev pub Keeps : List (List ℕ) → List PlainMethod → Option (Bor ClassIndex) → Type 0
Keeps names members None = members ≡ []
Keeps names members (Some index) = IsIndex names members index.now

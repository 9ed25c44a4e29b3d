-- Marks of methods, by their numbers.
use Rattle.std.specs.Prelude.{◌≡◌, ◌↔◌, ℕ, Bool, true, false, IsTrue, List, [], map, ◌<◌, length, slice_get, slice_index_or, Contains, Some}
use Rattle.std.specs.List.{list_any}
use Rattle.py_tree.specs.PlainProgram.{PlainProgram}
use Rattle.py_tree.specs.ClassRules.{methods_of}
use Rattle.call_graph.specs.declared.sites.Site.{Site}
use Rattle.call_graph.specs.declared.sites.Site.TheVariants.{Own, Away}
use Rattle.call_graph.specs.Suspending.{MaySuspend}

abbrev pub marked : List Bool → ℕ → Bool
marked marks method = slice_index_or marks method false

-- a call or creation suspends, where the marked methods may
abbrev pub suspends : List Bool → Site → Bool
suspends marks Away = true
suspends marks (Own method) = marked marks method

-- a method may suspend, where these are the calls and creations of the methods of its class
pub data MayLeave (rows : List (List Site)) : ℕ → Type 0 where
  leaves : (method : ℕ) → (row : List Site) → slice_get rows method ≡ Some row → Contains row Away → MayLeave rows method
  calls : (method called : ℕ) → (row : List Site) → slice_get rows method ≡ Some row → Contains row (Own called) → MayLeave rows called → MayLeave rows method

-- each method has its mark, and the marked ones are those that may suspend
pub record AreExact (rows : List (List Site)) (marks : List Bool) : Type 0 where
  pub each : length marks ≡ length rows
  pub exact : (method : ℕ) → IsTrue (marked marks method) ↔ MayLeave rows method

abbrev pub is_marked : List (List Bool) → ℕ → ℕ → Bool
is_marked graph class method = marked (slice_index_or graph class []) method

-- each method of a program has its mark, and the marked ones are those that may suspend
pub record IsGraph (names : List (List ℕ)) (program : PlainProgram) (graph : List (List Bool)) : Type 0 where
  pub each : map length graph ≡ map (λ c. length (methods_of names c.members)) program
  pub exact : (class method : ℕ) → IsTrue (is_marked graph class method) ↔ MaySuspend names program class method

-- a method without a mark that may suspend, where the marked methods may
pub record IsNext (rows : List (List Site)) (marks : List Bool) (method : ℕ) : Type 0 where
  pub within : method < length marks
  pub has_no_mark : marked marks method ≡ false
  pub holds : list_any (suspends marks) (slice_index_or rows method []) ≡ true

-- there is none
abbrev pub IsClosed : List (List Site) → List Bool → Type 0
IsClosed rows marks = (method : ℕ) → list_any (suspends marks) (slice_index_or rows method []) ≡ true → marked marks method ≡ true

-- The methods of a bounded program are bounded, and so is each `__init__`.
use Rattle.std.proofs.Common.{ℕ, zero, suc, Bool, true, false, cond, List, [], ◌∷◌, length, Option, Some, None, arith}
use Rattle.std.specs.Prelude.{slice_get, find, IfSome}
use Rattle.std.specs.List.{All}
use Rattle.std.proofs.lemmas.List.Elements.{All-filter}
use Rattle.py_tree.specs.PlainProgram.{PlainMethod, PlainClass, PlainProgram}
use Rattle.py_tree.specs.ClassRules.{is_init, is_called, init_of as init_among, methods_of as methods_among}
use Rattle.program_meaning.specs.ClassTables.{members_of}
use Rattle.py_tree.specs.Bounded.{IsBounded, IsBoundedClass, IsBoundedMethod}

has_each : {X : Type 0} (P : X → Type 0) (xs : List X) (k : ℕ) → All P xs → IfSome (slice_get xs k) P
has_each P [] k all = tt
has_each P (x ∷ xs) zero all = all 0 x (omega arith)
has_each P (x ∷ xs) (suc k) all = has_each P xs k (λ j d lt. all (suc j) d (omega arith))

has_found : {X : Type 0} (P : X → Type 0) (p : X → Bool) (xs : List X) → All P xs → IfSome (find p xs) P
has_found P p [] all = tt
has_found P p (x ∷ xs) all = by (p x) (has_found P p xs (λ j d lt. all (suc j) d (omega arith)))
  where
    by : (b : Bool) → IfSome (find p xs) P → IfSome (cond b (Some x) (find p xs)) P
    by true there = all 0 x (omega arith)
    by false there = there

bounded_members : (count : ℕ) (c : Option PlainClass) → IfSome c (IsBoundedClass count) → All (IsBoundedMethod count) (members_of c)
bounded_members count None h = λ k d lt. absurd (omega arith)
bounded_members count (Some c) h = h.members

module _ (names : List (List ℕ)) (program : PlainProgram) (bounded : IsBounded names program) (class : ℕ) where
  abbrev IsBoundedHere : PlainMethod → Type 0
  IsBoundedHere = IsBoundedMethod (length names)

  abbrev members : List PlainMethod
  members = members_of (slice_get program class)

  all_bounded : All IsBoundedHere members
  all_bounded = bounded_members (length names) (slice_get program class) (has_each (IsBoundedClass (length names)) program class bounded.classes)

  pub bounded_method : (method : ℕ) → IfSome (slice_get (methods_among names members) method) IsBoundedHere
  unfolding methods_among
  bounded_method method = has_each IsBoundedHere (methods_among names members) method (All-filter (λ m. is_called names m.name) IsBoundedHere members all_bounded)

  pub bounded_init : IfSome (init_among names members) IsBoundedHere
  unfolding init_among
  bounded_init = has_found IsBoundedHere (λ m. is_init names m.name) members all_bounded

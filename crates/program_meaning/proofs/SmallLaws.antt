-- No method of an accepted program is larger than it may be.
use Rattle.std.proofs.Common.{◌≡◌, ◌≤◌, ℕ, zero, suc, Bool, true, false, cond, List, [], ◌∷◌, length, Option, Some, None, subst, sym, arith}
use Rattle.std.specs.Prelude.{IfSome, find, slice_get}
use Rattle.std.specs.List.{All}
use Rattle.std.proofs.Math.Bridge.{le_prop}
use Rattle.std.proofs.Math.Logic.{∥∥₁_elim}
use Rattle.std.proofs.lemmas.List.Elements.{All-filter}
use Rattle.py_tree.specs.declared.checked.Checked.{Checked}
use Rattle.py_tree.specs.CheckedViews.{checked_program, checked_names}
use Rattle.py_tree.specs.PlainProgram.{PlainMethod, PlainClass}
use Rattle.py_tree.specs.PlainStatements.{stmts_of}
use Rattle.py_tree.specs.ClassRules.{is_init, is_called, body_of, init_of as init_among, methods_of as methods_among}
use Rattle.py_tree.specs.Bounded.{IsBounded, IsBoundedClass, IsBoundedMethod, stmts_size, most_nodes}
use Rattle.program_meaning.specs.ClassTables.{members_of, members_at, init_of, methods_of}
use Rattle.program_meaning.specs.Sources.{source_of}

-- what holds of each holds of the one at a place, and of the one that is found
pub has_each : {X : Type 0} (P : X → Type 0) (xs : List X) (k : ℕ) → All P xs → IfSome (slice_get xs k) P
has_each P [] k all = tt
has_each P (x ∷ xs) zero all = all 0 x (omega arith)
has_each P (x ∷ xs) (suc k) all = has_each P xs k (λ j d lt. all (suc j) d (omega arith))

first_or : {X : Type 0} (P : X → Type 0) (b : Bool) (x : X) (o : Option X) → P x → IfSome o P → IfSome (cond b (Some x) o) P
first_or P true x o here there = here
first_or P false x o here there = there

pub has_found : {X : Type 0} (P : X → Type 0) (p : X → Bool) (xs : List X) → All P xs → IfSome (find p xs) P
has_found P p [] all = tt
has_found P p (x ∷ xs) all = first_or P (p x) x (find p xs) (all 0 x (omega arith)) (has_found P p xs (λ j d lt. all (suc j) d (omega arith)))

bounded_members : (count : ℕ) (c : Option PlainClass) → IfSome c (IsBoundedClass count) → All (IsBoundedMethod count) (members_of c)
bounded_members count None h = λ k d lt. absurd (omega arith)
bounded_members count (Some c) h = h.members

small_body : (count : ℕ) (m : Option PlainMethod) → IfSome m (IsBoundedMethod count) → stmts_size (stmts_of (body_of m)) ≤ most_nodes
unfolding stmts_size
small_body count None h = omega arith
small_body count (Some m) h = h.small

module _ (p : Checked) (class : ℕ) (m : Option PlainMethod) where
  members : IsBounded (checked_names p) (checked_program p) → All (IsBoundedMethod (length (checked_names p))) (members_at (source_of p) class)
  members b = bounded_members (length (checked_names p)) (slice_get (checked_program p) class) (has_each (IsBoundedClass (length (checked_names p))) (checked_program p) class b.classes)

  pub small_init : m ≡ init_of (source_of p) class → stmts_size (stmts_of (body_of m)) ≤ most_nodes
  unfolding init_among
  small_init is = ∥∥₁_elim p.bounded le_prop (λ b. small_body (length (checked_names p)) m (subst (λ o. IfSome o (IsBoundedMethod (length (checked_names p)))) (sym is) (has_found (IsBoundedMethod (length (checked_names p))) (λ x. is_init (checked_names p) x.name) (members_at (source_of p) class) (members b))))

  pub small_method : (number : ℕ) → m ≡ slice_get (methods_of (source_of p) class) number → stmts_size (stmts_of (body_of m)) ≤ most_nodes
  unfolding methods_among
  small_method number is = ∥∥₁_elim p.bounded le_prop (λ b. small_body (length (checked_names p)) m (subst (λ o. IfSome o (IsBoundedMethod (length (checked_names p)))) (sym is) (has_each (IsBoundedMethod (length (checked_names p))) (methods_of (source_of p) class) number (All-filter (λ x. is_called (checked_names p) x.name) (IsBoundedMethod (length (checked_names p))) (members_at (source_of p) class) (members b)))))

-- Where a method stands in its program, and its signature in the class tables.
use Rattle.std.proofs.Common.{◌≡◌, ℕ, Option, Some, None, List, refl, ap, ◌∙◌}
use Rattle.std.specs.Prelude.{slice_get, option_map, option_and_then}
use Rattle.std.proofs.lemmas.Option.{none-some, slice_get-map}
use Rattle.py_tree.specs.PlainProgram.{PlainMethod, PlainClass, PlainProgram}
use Rattle.py_tree.specs.ClassRules.{PlainTable, methods_of, sig_of, table_of, tables_of}
use Rattle.py_tree.specs.Acceptance.{members_of, members_at}
use Rattle.py_tree.specs.Flow.{sig_at}

-- the class of a method
pub record ClassOf (names : List (List ℕ)) (program : PlainProgram) (class number : ℕ) (m : PlainMethod) : Type 0 where
  pub is : PlainClass
  pub at : slice_get program class ≡ Some is
  pub has : slice_get (methods_of names is.members) number ≡ Some m

pub class_of_method : (names : List (List ℕ)) (program : PlainProgram) (class number : ℕ) (m : PlainMethod) → slice_get (methods_of names (members_at program class)) number ≡ Some m → ClassOf names program class number m
unfolding methods_of
class_of_method names program class number m h = by (slice_get program class) refl h
  where
    by : (o : Option PlainClass) → slice_get program class ≡ o → slice_get (methods_of names (members_of o)) number ≡ Some m → ClassOf names program class number m
    by None e h = absurd (none-some m h)
    by (Some c) e h = record { is = c; at = e; has = h }

-- the signature of a method stands in the class tables
pub sig_stands : (names : List (List ℕ)) (program : PlainProgram) (class number : ℕ) (m : PlainMethod) → ClassOf names program class number m → sig_at (tables_of names program) class number ≡ Some (sig_of m)
unfolding table_of
sig_stands names program class number m c =
    ap (option_and_then (λ (t : PlainTable). slice_get t.methods number)) (slice_get-map (table_of names) program class ∙ ap (option_map (table_of names)) c.at)
    ∙ slice_get-map sig_of (methods_of names c.is.members) number ∙ ap (option_map sig_of) c.has

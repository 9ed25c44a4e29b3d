-- Methods by their places.
use Rattle.std.proofs.Common.{◌≡◌, ◌<◌, ◌≤◌, ◌+◌, ℕ, Bool, cond, Option, Some, None, List, [], ◌∷◌, drop, get_or, length, refl, sym, ap, ◌∙◌}
use Rattle.std.specs.Prelude.{◌==◌, slice_get}
use Rattle.std.specs.List.{position_from}
use Rattle.std.proofs.lemmas.List.{drop_all}
use Rattle.py_tree.specs.declared.program.Method.{Method}
use Rattle.py_tree.specs.PlainProgram.{PlainMethod, PlainClass, PlainProgram, plain_method, plain_methods}
use Rattle.py_tree.specs.ClassRules.{is_called, methods_of}
use Rattle.py_tree.specs.Acceptance.{members_of, method_named}
use Rattle.py_tree.proofs.ListWalks.{map_from}

-- the methods that are called by name, from a member on
pub called_from : (names : List (List ℕ)) (ms : List Method) (i : ℕ) (m : Method) (b : Bool) → i < length ms → m ≡ get_or ms i m → is_called names m.name.0 ≡ b → methods_of names (plain_methods (drop i ms)) ≡ cond b (plain_method m ∷ methods_of names (plain_methods (drop (i + 1) ms))) (methods_of names (plain_methods (drop (i + 1) ms)))
unfolding methods_of
called_from names ms i m b within is called =
    ap (methods_of names) (map_from plain_method ms i m within is)
    ∙ ap (λ b. cond b (plain_method m ∷ methods_of names (plain_methods (drop (i + 1) ms))) (methods_of names (plain_methods (drop (i + 1) ms)))) called

pub called_end : (names : List (List ℕ)) (ms : List Method) (i : ℕ) → length ms ≤ i → methods_of names (plain_methods (drop i ms)) ≡ []
unfolding methods_of
called_end names ms i past = ap (λ xs. methods_of names (plain_methods xs)) (drop_all i ms past)

no_methods : (names : List (List ℕ)) → methods_of names [] ≡ []
unfolding methods_of
no_methods names = refl

none_named : (names : List (List ℕ)) (name number : ℕ) → position_from (λ m. m.name == name) 0 (methods_of names []) ≡ Some number → ⊥
none_named names name number found = let none : None ≡ Some number = sym (ap (position_from (λ (m : PlainMethod). m.name == name) 0) (no_methods names)) ∙ found in cc

-- where a method of this name is found, there is the class
pub named_class : (names : List (List ℕ)) (program : PlainProgram) (class name number : ℕ) → method_named names program class name ≡ Some number → (c : PlainClass) × (slice_get program class ≡ Some c) × (position_from (λ m. m.name == name) 0 (methods_of names c.members) ≡ Some number)
named_class names program class name number found = by (slice_get program class) refl found
  where
    by : (o : Option PlainClass) → slice_get program class ≡ o → position_from (λ m. m.name == name) 0 (methods_of names (members_of o)) ≡ Some number
        → (c : PlainClass) × (slice_get program class ≡ Some c) × (position_from (λ m. m.name == name) 0 (methods_of names c.members) ≡ Some number)
    by None is found = absurd (none_named names name number found)
    by (Some c) is found = (c, is, found)

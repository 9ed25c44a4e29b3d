-- The text of a name leads to the name, and the name to the class or the method that has it.
use Rattle.std.proofs.Common.{◌≡◌, ◌<◌, ℕ, Some, List, [], length, ap, ◌∙◌}
use Rattle.std.specs.Prelude.{◌==◌, slice_get, slice_index_or, option_and_then, IsUtf8}
use Rattle.std.specs.List.{position_from}
use Rattle.std.proofs.Math.Bridge.{le_prop}
use Rattle.std.proofs.Math.Logic.{∥∥₁_elim}
use Rattle.std.proofs.lemmas.Option.{slice_get-get_or}
use Rattle.std.proofs.lemmas.Str.{IsUtf8-from_is_utf8}
use Rattle.py_tree.specs.PlainProgram.{PlainMethod, PlainClass, PlainProgram}
use Rattle.py_tree.specs.NameTable.{place_of, IsTable}
use Rattle.py_tree.specs.Bounded.{IsBounded, IsBoundedClass, IsBoundedMethod}
use Rattle.py_tree.specs.ClassRules.{methods_of, text_of}
use Rattle.py_tree.specs.Acceptance.{members_of, method_named}
use Rattle.program_meaning.specs.NothingGoesWrong.{IsKnownAccepted}
use Rattle.program_meaning.specs.NamesAreFound.{ClassesAreFound, MethodsAreFound}
use Rattle.program_meaning.proofs.MethodFacts.{method_member}
use Rattle.program_meaning.proofs.NamesApart.{place_at, classes_distinct, methods_distinct}
use Rattle.program_meaning.proofs.TableFacts.{all_at}

-- the text of a name of the table is found at the name, and is UTF-8
pub text_place : (names : List (List ℕ)) (name : ℕ) → IsTable names → name < length names → place_of names (text_of names name) ≡ Some name
unfolding text_of
text_place names name t below = t.distinct name (slice_index_or names name []) (slice_get-get_or names name [] below)

pub text_utf8 : (names : List (List ℕ)) (name : ℕ) → IsTable names → name < length names → IsUtf8 (text_of names name)
unfolding text_of
text_utf8 names name t below = IsUtf8-from_is_utf8 (slice_index_or names name []) (t.utf8 name (slice_index_or names name []) (slice_get-get_or names name [] below))

module _ (names : List (List ℕ)) (program : PlainProgram) (accepted : IsKnownAccepted names program) where
  pub class_below : (k : ℕ) (c : PlainClass) → slice_get program k ≡ Some c → c.name < length names
  class_below k c is = ∥∥₁_elim accepted.bounded (λ a b. le_prop a b) (λ (b : IsBounded names program). (all_at (IsBoundedClass (length names)) program k c b.classes is).named)

  pub method_below : (k : ℕ) (c : PlainClass) → slice_get program k ≡ Some c → (number : ℕ) (m : PlainMethod) → slice_get (methods_of names c.members) number ≡ Some m → m.name < length names
  method_below k c is number m at =
      let i : (i : ℕ) × (slice_get c.members i ≡ Some m) = method_member names program accepted.rules.classes accepted.rules.flow number c m at in
      ∥∥₁_elim accepted.bounded (λ a b. le_prop a b) (λ (b : IsBounded names program).
      let class : IsBoundedClass (length names) c = all_at (IsBoundedClass (length names)) program k c b.classes is in
      (all_at (IsBoundedMethod (length names)) c.members i.0 m class.members i.1).named)

pub classes_are_found : ClassesAreFound
classes_are_found names program accepted class c is =
    ap (option_and_then (λ name. position_from (λ (c : PlainClass). c.name == name) 0 program)) (text_place names c.name accepted.table (class_below names program accepted class c is))
    ∙ place_at (λ (c : PlainClass). c.name) program class c (classes_distinct names program accepted.rules.classes accepted.rules.flow) is

pub methods_are_found : MethodsAreFound
methods_are_found names program accepted class c is number m at =
    ap (option_and_then (λ name. method_named names program class name)) (text_place names m.name accepted.table (method_below names program accepted class c is number m at))
    ∙ ap (λ o. position_from (λ (d : PlainMethod). d.name == m.name) 0 (methods_of names (members_of o))) is
    ∙ place_at (λ (d : PlainMethod). d.name) (methods_of names c.members) number m (methods_distinct names program accepted.rules.classes accepted.rules.flow class c is) at

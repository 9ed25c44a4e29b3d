-- A name of an accepted program leads back to what it names: no two classes have the same, and no two methods of a class.
use Rattle.std.specs.Prelude.{◌≡◌, ℕ, List, Some, slice_get}
use Rattle.py_tree.specs.PlainProgram.{PlainMethod, PlainClass, PlainProgram}
use Rattle.py_tree.specs.ClassRules.{methods_of, text_of}
use Rattle.py_tree.specs.Acceptance.{class_number, method_number}
use Rattle.program_meaning.specs.NothingGoesWrong.{IsKnownAccepted}

-- by the text of its name a class is found
abbrev pub ClassesAreFound : Type 0
ClassesAreFound = (names : List (List ℕ)) (program : PlainProgram) → IsKnownAccepted names program → (class : ℕ) (c : PlainClass) → slice_get program class ≡ Some c
    → class_number names program (text_of names c.name) ≡ Some class

-- and a method in its class
abbrev pub MethodsAreFound : Type 0
MethodsAreFound = (names : List (List ℕ)) (program : PlainProgram) → IsKnownAccepted names program → (class : ℕ) (c : PlainClass) → slice_get program class ≡ Some c
    → (number : ℕ) (m : PlainMethod) → slice_get (methods_of names c.members) number ≡ Some m → method_number names program class (text_of names m.name) ≡ Some number

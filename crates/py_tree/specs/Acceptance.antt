-- Which programs are accepted: those that keep every rule.
use Rattle.std.specs.Prelude.{ℕ, ◌≡◌, ◌==◌, List, [], ◌∷◌, None, Some, slice_get, option_and_then}
use Rattle.std.specs.declared.option.Option.{Option}
use Rattle.std.specs.List.{position_from}
use Rattle.py_tree.specs.declared.rule.RuleFault.{RuleFault}
use Rattle.py_tree.specs.NameTable.{place_of}
use Rattle.py_tree.specs.PlainProgram.{PlainMethod, PlainClass, PlainProgram}
use Rattle.py_tree.specs.ClassRules.{first_of, methods_of, program_fault}
use Rattle.py_tree.specs.Bounded.{IsBounded, HasReserved}
use Rattle.py_tree.specs.Flow.{flow_fault}

-- the first broken rule: the rules on classes come before those on types and statements
abbrev pub rule_fault : List (List ℕ) → PlainProgram → Option RuleFault
rule_fault names program = first_of (program_fault names program ∷ flow_fault names program ∷ [])

pub record KeepsRules (names : List (List ℕ)) (program : PlainProgram) : Type 0 where
  pub classes : program_fault names program ≡ None
  pub flow : flow_fault names program ≡ None

-- a program with its names that is accepted: bounded, with the reserved names first, and keeping every rule
pub record IsAccepted (names : List (List ℕ)) (program : PlainProgram) : Type 0 where
  pub bounded : IsBounded names program
  pub reserved : HasReserved names
  pub rules : KeepsRules names program

-- the number of the class with this name
abbrev pub class_number : List (List ℕ) → PlainProgram → List ℕ → Option ℕ
class_number names program text = option_and_then (λ name. position_from (λ c. c.name == name) 0 program) (place_of names text)

-- what a class defines, where there is one, and what the class of a number does
abbrev pub members_of : Option PlainClass → List PlainMethod
members_of None = []
members_of (Some c) = c.members

abbrev pub members_at : PlainProgram → ℕ → List PlainMethod
members_at program class = members_of (slice_get program class)

-- the number of the method with this name, in the class of that number
abbrev pub method_named : List (List ℕ) → PlainProgram → ℕ → ℕ → Option ℕ
method_named names program class name = position_from (λ m. m.name == name) 0 (methods_of names (members_at program class))

-- and by the text of its name
abbrev pub method_number : List (List ℕ) → PlainProgram → ℕ → List ℕ → Option ℕ
method_number names program class text = option_and_then (λ name. method_named names program class name) (place_of names text)

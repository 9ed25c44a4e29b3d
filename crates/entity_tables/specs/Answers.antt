-- What a check answers, as the class rules see it.
use Rattle.std.specs.Prelude.{◌≡◌, ◌≤◌, ℕ, List, length, Option, Some, None, Result, Ok, Err}
use Rattle.py_tree.specs.declared.rule.RuleFault.{RuleFault}
use Rattle.py_tree.specs.PlainProgram.{PlainMethod, PlainClass, PlainProgram}
use Rattle.py_tree.specs.ClassRules.{class_fault, init_of, params_of, body_of, fields_of}
use Rattle.entity_tables.specs.declared.fault.RuleError.{RuleError}
use Rattle.entity_tables.specs.declared.fault.RuleError.TheVariants.{Fault, NoMemory}

-- the fault that a check found
abbrev pub fault_of : {X : Type 0} → Result X RuleFault → Option RuleFault
fault_of (Ok x) = None
fault_of (Err fault) = Some fault

-- a check that takes memory found this fault, or none; want of memory is free
abbrev pub Finds : {X : Type 0} → Option RuleFault → Result X RuleError → Type 0
Finds fault (Ok x) = fault ≡ None
Finds fault (Err NoMemory) = Unit {0}
Finds fault (Err (Fault found)) = fault ≡ Some found

-- a call that makes something where no rule is broken: it made this, or found the first fault; want of memory is free
abbrev pub Makes : {X A : Type 0} → (X → A) → Option RuleFault → A → Result X RuleError → Type 0
Makes view fault thing (Ok x) = (fault ≡ None) × (view x ≡ thing)
Makes view fault thing (Err NoMemory) = Unit {0}
Makes view fault thing (Err (Fault found)) = fault ≡ Some found

-- the rules of each class, whatever stands before it
abbrev pub class_faults : List (List ℕ) → PlainProgram → List PlainClass → PlainClass → Option RuleFault
class_faults names program before c = class_fault names program c

-- an `__init__` among these members has no more parameters and fields than there may be
pub record IsSmall (names : List (List ℕ)) (members : List PlainMethod) : Type 0 where
  pub params : length (params_of (init_of names members)) ≤ 256
  pub fields : length (fields_of (body_of (init_of names members))) ≤ 256

-- What a call answers, as the rules of types see it.
use Rattle.std.specs.Prelude.{◌≡◌, Bool, false, true, Result, Ok, Err}
use Rattle.py_tree.specs.declared.names.Place.{Place}
use Rattle.py_tree.specs.declared.rule.Rule.{Rule}
use Rattle.py_tree.specs.declared.rule.RuleFault.{RuleFault}
use Rattle.py_tree.specs.PlainTypes.{PlainTy, TBool}
use Rattle.entity_tables.specs.declared.fault.RuleError.{RuleError}
use Rattle.entity_tables.specs.declared.fault.RuleError.TheVariants.{Fault, NoMemory}

-- a call gives what was found, as a view sees it, or the fault that was found; want of memory is free
abbrev pub Types : {X A : Type 0} → (X → A) → Result A RuleFault → Result X RuleError → Type 0
Types view found (Ok x) = found ≡ Ok (view x)
Types view found (Err NoMemory) = Unit {0}
Types view found (Err (Fault fault)) = found ≡ Err fault

-- the rule isn't broken, or its fault is told
abbrev pub Refuses : {X : Type 0} → Bool → Rule → Place → Result X RuleError → Type 0
Refuses is_broken rule place (Ok x) = is_broken ≡ false
Refuses is_broken rule place (Err NoMemory) = ⊥
Refuses is_broken rule place (Err (Fault fault)) = (is_broken ≡ true) × (fault ≡ record { rule = rule; place = place })

-- a check passes where bool was found, and else gives the fault that was found; want of memory is free
abbrev pub Checks : {X : Type 0} → Result PlainTy RuleFault → Result X RuleError → Type 0
Checks found (Ok x) = found ≡ Ok TBool
Checks found (Err NoMemory) = Unit {0}
Checks found (Err (Fault fault)) = found ≡ Err fault

-- What a plan for an upgrade answers.
use Rattle.std.specs.Prelude.{◌≡◌, ℕ, List, length, slice_get, Some, None, option_map, Ok, Err}
use Rattle.std.specs.declared.option.Option.{Option}
use Rattle.std.specs.declared.result.Result.{Result}
use Rattle.py_tree.specs.ClassRules.{PlainTable}
use Rattle.sf_value.specs.declared.value.Value.{Value}
use Rattle.program_meaning.specs.ClassTables.{Source}
use Rattle.program_upgrade.specs.declared.rule.UpgradeError.{UpgradeError}
use Rattle.program_upgrade.specs.declared.rule.UpgradeError.TheVariants.{Fault, NoMemory}
use Rattle.program_upgrade.specs.declared.mapping.Mapping.{Mapping}
use Rattle.program_upgrade.specs.UpgradeRules.{tables_in, broken_rule, fault_at, fault_from, upgrade_fault, Follows, added_from, added_values}
use Rattle.program_upgrade.specs.Defaults.{defaults_behind}
use Rattle.program_upgrade.specs.Mapping.{added_by}

-- a mapping of the values that the later program adds, where it follows the earlier one; else the first broken rule; want of memory is free
abbrev pub Plans : Source → Source → Result Mapping UpgradeError → Type 0
Plans old new (Ok mapping) = Follows old new × (added_by mapping ≡ added_values old new)
Plans old new (Err (Fault fault)) = upgrade_fault old new ≡ Some fault
Plans old new (Err NoMemory) = Unit {0}

-- the same for classes from the first on, whose tables are these
abbrev pub PlansClasses : Source → Source → List PlainTable → Result Mapping UpgradeError → Type 0
PlansClasses old new ts (Ok mapping) = (fault_from old new 0 ts ≡ None) × (added_by mapping ≡ added_from new 0 ts)
PlansClasses old new ts (Err (Fault fault)) = fault_from old new 0 ts ≡ Some fault
PlansClasses old new ts (Err NoMemory) = Unit {0}

-- the table of the later program's class of this number
abbrev pub beside_class : Source → ℕ → Option PlainTable
beside_class new class = slice_get (tables_in new) class

-- the same for one class, whose table is this one
abbrev pub PlansClass : Source → Source → ℕ → PlainTable → Result (List Value) UpgradeError → Type 0
PlansClass old new class t (Ok values) = (broken_rule old new class t ≡ None) × (defaults_behind new class (length t.fields) ≡ Some values)
PlansClass old new class t (Err (Fault fault)) = option_map (fault_at class) (broken_rule old new class t) ≡ Some fault
PlansClass old new class t (Err NoMemory) = Unit {0}

-- When a later program may take over from an earlier one: the rules in their order, for one class of the earlier program after another.
-- Bodies may change, and new fields, methods and classes come last.
use Rattle.std.specs.Prelude.{◌≡◌, ℕ, ◌+◌, Bool, not, is_none, List, [], ◌∷◌, ◌++◌, length, slice_get, if◌then◌else◌, Some, None, unwrap_or, option_map}
use Rattle.std.specs.declared.option.Option.{Option}
use Rattle.py_tree.specs.ClassRules.{PlainTable, tables_of}
use Rattle.sf_value.specs.declared.value.Value.{Value}
use Rattle.program_meaning.specs.ClassTables.{Source}
use Rattle.program_upgrade.specs.declared.rule.UpgradeRule.{UpgradeRule}
use Rattle.program_upgrade.specs.declared.rule.UpgradeRule.TheVariants.{ClassGone, FieldChanged, InitChanged, MethodChanged, NoDefault}
use Rattle.program_upgrade.specs.declared.rule.UpgradeFault.{UpgradeFault}
use Rattle.program_upgrade.specs.SameParts.{same_name, keeps_fields, keeps_init, keeps_methods}
use Rattle.program_upgrade.specs.Defaults.{defaults_behind}

abbrev pub tables_in : Source → List PlainTable
tables_in src = tables_of src.names src.program

-- a rule, where it is broken
abbrev pub broken : UpgradeRule → Bool → Option UpgradeRule
broken rule is_broken = if is_broken then Some rule else None

-- the first of several
abbrev pub first_of : {A : Type 0} → List (Option A) → Option A
first_of [] = None
first_of (None ∷ more) = first_of more
first_of (Some rule ∷ more) = Some rule

-- the rules on what the table of a class says, beside that of the later class
abbrev pub table_rules : List (List ℕ) → List (List ℕ) → PlainTable → PlainTable → List (Option UpgradeRule)
table_rules old new t u =
    broken ClassGone (not (same_name old new t.name u.name))
    ∷ broken FieldChanged (not (keeps_fields old new t u))
    ∷ broken InitChanged (not (keeps_init old new t u))
    ∷ broken MethodChanged (not (keeps_methods old new t u))
    ∷ []

-- the first rule that a class breaks, beside the later program's class of its number
abbrev pub rule_beside : Source → Source → ℕ → PlainTable → Option PlainTable → Option UpgradeRule
rule_beside old new class t None = Some ClassGone
rule_beside old new class t (Some u) =
    first_of (table_rules old.names new.names t u ++ broken NoDefault (is_none (defaults_behind new class (length t.fields))) ∷ [])

unfoldable pub broken_rule : Source → Source → ℕ → PlainTable → Option UpgradeRule
broken_rule old new class t = rule_beside old new class t (slice_get (tables_in new) class)

abbrev pub fault_at : ℕ → UpgradeRule → UpgradeFault
fault_at class rule = record { rule = rule; class = class }

-- the first broken rule of the classes from this number on
abbrev pub fault_from : Source → Source → ℕ → List PlainTable → Option UpgradeFault
fault_from old new class [] = None
fault_from old new class (t ∷ ts) = first_of (option_map (fault_at class) (broken_rule old new class t) ∷ fault_from old new (class + 1) ts ∷ [])

unfoldable pub upgrade_fault : Source → Source → Option UpgradeFault
upgrade_fault old new = fault_from old new 0 (tables_in old)

-- the later program breaks none
pub record Follows (old new : Source) : Type 0 where
  pub keeps : upgrade_fault old new ≡ None

-- for each class from this number on the values of the fields that the later program adds
abbrev pub added_from : Source → ℕ → List PlainTable → List (List Value)
added_from new class [] = []
added_from new class (t ∷ ts) = unwrap_or (defaults_behind new class (length t.fields)) [] ∷ added_from new (class + 1) ts

unfoldable pub added_values : Source → Source → List (List Value)
added_values old new = added_from new 0 (tables_in old)

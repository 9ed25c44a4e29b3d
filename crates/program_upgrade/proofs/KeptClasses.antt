-- What a program that follows another keeps of each of its classes.
use Rattle.std.proofs.Common.{◌≡◌, ℕ, zero, suc, ◌+◌, arith, Bool, true, false, not, Option, Some, None, List, [], ◌∷◌, length, unwrap_or, zero-add, refl, sym, ap, ◌∙◌, subst}
use Rattle.std.specs.Prelude.{option_map, slice_get, slice_index_or, is_none}
use Rattle.std.proofs.lemmas.Option.{none-some, same_Some}
use Rattle.py_tree.specs.ClassRules.{PlainTable}
use Rattle.sf_value.specs.declared.value.Value.{Value}
use Rattle.program_meaning.specs.ClassTables.{Source}
use Rattle.program_meaning.specs.Fits.{HasTable}
use Rattle.program_upgrade.specs.declared.rule.UpgradeRule.{UpgradeRule}
use Rattle.program_upgrade.specs.declared.rule.UpgradeRule.TheVariants.{ClassGone, FieldChanged, InitChanged, MethodChanged, NoDefault}
use Rattle.program_upgrade.specs.declared.rule.UpgradeFault.{UpgradeFault}
use Rattle.program_upgrade.specs.SameParts.{same_name, keeps_fields, keeps_init, keeps_methods}
use Rattle.program_upgrade.specs.Defaults.{defaults_behind}
use Rattle.program_upgrade.specs.UpgradeRules.{tables_in, broken, first_of, rule_beside, broken_rule, fault_at, fault_from, upgrade_fault, Follows, added_from, added_values}

module _ (old new : Source) where
  -- the later table of a class, and what it keeps of the earlier one
  pub record Kept (class : ℕ) (t : PlainTable) : Type 0 where
    pub u : PlainTable
    pub has : HasTable (tables_in new) class u
    pub name : same_name old.names new.names t.name u.name ≡ true
    pub fields : keeps_fields old.names new.names t u ≡ true
    pub init : keeps_init old.names new.names t u ≡ true
    pub methods : keeps_methods old.names new.names t u ≡ true
    pub values : List Value
    pub given : defaults_behind new class (length t.fields) ≡ Some values

  some_rule : {A : Type 0} (rule : UpgradeRule) → Some rule ≡ None → A
  some_rule rule h = absurd (none-some rule (sym h))

  all_kept : (class : ℕ) (t u : PlainTable) → HasTable (tables_in new) class u → (a b c d : Bool) (o : Option (List Value))
      → same_name old.names new.names t.name u.name ≡ a → keeps_fields old.names new.names t u ≡ b → keeps_init old.names new.names t u ≡ c
      → keeps_methods old.names new.names t u ≡ d → defaults_behind new class (length t.fields) ≡ o
      → first_of (broken ClassGone (not a) ∷ broken FieldChanged (not b) ∷ broken InitChanged (not c) ∷ broken MethodChanged (not d) ∷ broken NoDefault (is_none o) ∷ []) ≡ None
      → Kept class t
  all_kept class t u has true true true true (Some values) name fields init methods given none = record { u = u; has = has; name = name; fields = fields; init = init; methods = methods; values = values; given = given }
  all_kept class t u has true true true true None name fields init methods given none = some_rule NoDefault none
  all_kept class t u has true true true false o name fields init methods given none = some_rule MethodChanged none
  all_kept class t u has true true false d o name fields init methods given none = some_rule InitChanged none
  all_kept class t u has true false c d o name fields init methods given none = some_rule FieldChanged none
  all_kept class t u has false b c d o name fields init methods given none = some_rule ClassGone none

  kept_beside : (class : ℕ) (t : PlainTable) (o : Option PlainTable) → slice_get (tables_in new) class ≡ o → rule_beside old new class t o ≡ None → Kept class t
  kept_beside class t None is none = some_rule ClassGone none
  kept_beside class t (Some u) is none = all_kept class t u is _ _ _ _ _ refl refl refl refl refl none

  alone : (o : Option UpgradeRule) (rest : Option UpgradeFault) (class : ℕ) → first_of (option_map (fault_at class) o ∷ rest ∷ []) ≡ None → (o ≡ None) × (rest ≡ None)
  alone None None class none = (refl, refl)
  alone None (Some fault) class none = absurd (none-some fault (sym none))
  alone (Some rule) rest class none = absurd (none-some (fault_at class rule) (sym none))

  none_from : (class : ℕ) (ts : List PlainTable) (k : ℕ) (t : PlainTable) → fault_from old new class ts ≡ None → slice_get ts k ≡ Some t → broken_rule old new (class + k) t ≡ None
  none_from class [] k t none is = absurd (none-some t is)
  none_from class (x ∷ ts) zero t none is =
      let here : class ≡ class + 0 = omega arith in
      let first : broken_rule old new class x ≡ None = (alone (broken_rule old new class x) (fault_from old new (class + 1) ts) class none).0 in
      subst (λ n. broken_rule old new n t ≡ None) here (subst (λ y. broken_rule old new class y ≡ None) (same_Some x t is) first)
  none_from class (x ∷ ts) (suc k) t none is =
      let here : class + 1 + k ≡ class + suc k = omega arith in
      let rest : fault_from old new (class + 1) ts ≡ None = (alone (broken_rule old new class x) (fault_from old new (class + 1) ts) class none).1 in
      subst (λ n. broken_rule old new n t ≡ None) here (none_from (class + 1) ts k t rest is)

  pub kept_class : Follows old new → (class : ℕ) (t : PlainTable) → HasTable (tables_in old) class t → Kept class t
  unfolding upgrade_fault broken_rule
  kept_class follows class t has =
      let none : broken_rule old new class t ≡ None = subst (λ n. broken_rule old new n t ≡ None) (zero-add class) (none_from 0 (tables_in old) class t follows.keeps has) in
      kept_beside class t (slice_get (tables_in new) class) refl none

  added_at : (class : ℕ) (ts : List PlainTable) (k : ℕ) (t : PlainTable) → slice_get ts k ≡ Some t → slice_index_or (added_from new class ts) k [] ≡ unwrap_or (defaults_behind new (class + k) (length t.fields)) []
  added_at class [] k t is = absurd (none-some t is)
  added_at class (x ∷ ts) zero t is =
      let here : class ≡ class + 0 = omega arith in
      (λ i. unwrap_or (defaults_behind new (here i) (length (same_Some x t is i).fields)) [])
  added_at class (x ∷ ts) (suc k) t is =
      let here : class + 1 + k ≡ class + suc k = omega arith in
      added_at (class + 1) ts k t is ∙ ap (λ n. unwrap_or (defaults_behind new n (length t.fields)) []) here

  -- the values that a class is given
  pub class_values : (class : ℕ) (t : PlainTable) → HasTable (tables_in old) class t → (kept : Kept class t) → slice_index_or (added_values old new) class [] ≡ kept.values
  unfolding added_values
  class_values class t has kept =
      added_at 0 (tables_in old) class t has
      ∙ ap (λ n. unwrap_or (defaults_behind new n (length t.fields)) []) (zero-add class)
      ∙ ap (λ o. unwrap_or o []) kept.given

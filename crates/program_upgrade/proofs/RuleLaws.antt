-- The first broken rule of an upgrade, class after class, and the values that it adds.
use Rattle.std.proofs.Common.{◌≡◌, ℕ, suc, ◌+◌, ◌<◌, ◌≤◌, arith, Option, Some, None, List, [], ◌∷◌, ◌++◌, length, map, take, drop, get_or, append_assoc, append-nil, unwrap_or, refl, sym, ap, ◌∙◌, subst}
use Rattle.std.specs.Prelude.{option_map, option_and_then, slice_get, is_none, filter_map, find}
use Rattle.std.specs.List.{cons_option}
use Rattle.std.proofs.lemmas.Option.{none-some, same_Some}
use Rattle.std.proofs.lemmas.List.{drop_all, length-drop, length-map}
use Rattle.py_tree.specs.declared.rule.RuleFault.{RuleFault}
use Rattle.py_tree.specs.PlainStatements.{PlainStmt}
use Rattle.py_tree.specs.PlainExpressions.{PlainExpr}
use Rattle.py_tree.specs.PlainProgram.{PlainMethod, PlainClass, PlainProgram}
use Rattle.py_tree.specs.ClassRules.{PlainTable, table_of, init_of as init_among, Declaration, declaration, field_declared, body_of, fields_of, first_in, member_fault, whole_fault, class_fault}
use Rattle.py_tree.proofs.ListWalks.{map_from}
use Rattle.py_tree.proofs.ClassRuleLaws.{head_none, class_kept, few_classes}
use Rattle.py_tree.specs.declared.checked.Checked.{Checked}
use Rattle.py_tree.specs.CheckedViews.{checked_program, checked_names}
use Rattle.entity_tables.specs.declared.table.ClassTable.{ClassTable}
use Rattle.entity_tables.specs.Views.{plain_table, plain_tables}
use Rattle.entity_tables.specs.Answers.{IsSmall}
use Rattle.entity_tables.proofs.SmallLaws.{small}
use Rattle.sf_value.specs.declared.value.Value.{Value}
use Rattle.program_meaning.specs.ClassTables.{Source, members_of, init_of, members_at}
use Rattle.program_meaning.specs.NothingGoesWrong.{IsKnownAccepted}
use Rattle.program_meaning.specs.Sources.{source_of}
use Rattle.program_meaning.proofs.Soundness.{checked_are_known}
use Rattle.program_upgrade.specs.declared.rule.UpgradeRule.{UpgradeRule}
use Rattle.program_upgrade.specs.declared.rule.UpgradeRule.TheVariants.{ClassGone, NoDefault}
use Rattle.program_upgrade.specs.declared.rule.UpgradeFault.{UpgradeFault}
use Rattle.program_upgrade.specs.Counts.{count_of}
use Rattle.program_upgrade.specs.Defaults.{default, defaults, declared_values, defaults_behind}
use Rattle.program_upgrade.specs.UpgradeRules.{tables_in, broken, first_of, table_rules, rule_beside, broken_rule, fault_at, fault_from, added_from}
use Rattle.program_upgrade.specs.Answers.{beside_class}

-- ---- the first of several

first_last : {A : Type 0} (xs : List (Option A)) (o : Option A) → first_of xs ≡ None → first_of (xs ++ o ∷ []) ≡ first_of (o ∷ [])
first_last [] o none = refl
first_last (None ∷ xs) o none = first_last xs o none
first_last (Some x ∷ xs) o none = absurd (none-some x (sym none))

first_found : {A : Type 0} (xs : List (Option A)) (o : Option A) (x : A) → first_of xs ≡ Some x → first_of (xs ++ o ∷ []) ≡ Some x
first_found [] o x h = absurd (none-some x h)
first_found (None ∷ xs) o x h = first_found xs o x h
first_found (Some y ∷ xs) o x h = h

-- ---- one class

module _ (old new : Source) (class : ℕ) (t : PlainTable) where
  pub class_gone : beside_class new class ≡ None → option_map (fault_at class) (broken_rule old new class t) ≡ Some (record { rule = ClassGone; class = class })
  unfolding broken_rule
  class_gone none = ap (λ o. option_map (fault_at class) (rule_beside old new class t o)) none

  module _ (u : PlainTable) (has : beside_class new class ≡ Some u) where
    pub class_changed : (rule : UpgradeRule) → first_of (table_rules old.names new.names t u) ≡ Some rule → option_map (fault_at class) (broken_rule old new class t) ≡ Some (record { rule = rule; class = class })
    unfolding broken_rule
    class_changed rule is =
        ap (λ o. option_map (fault_at class) (rule_beside old new class t o)) has
        ∙ ap (option_map (fault_at class)) (first_found (table_rules old.names new.names t u) (broken NoDefault (is_none (defaults_behind new class (length t.fields)))) rule is)

    by_default : first_of (table_rules old.names new.names t u) ≡ None → (o : Option (List Value)) → defaults_behind new class (length t.fields) ≡ o → broken_rule old new class t ≡ first_of (broken NoDefault (is_none o) ∷ [])
    unfolding broken_rule
    by_default none o is =
        ap (rule_beside old new class t) has
        ∙ first_last (table_rules old.names new.names t u) (broken NoDefault (is_none (defaults_behind new class (length t.fields)))) none
        ∙ ap (λ o. first_of (broken NoDefault (is_none o) ∷ [])) is

    pub class_without : first_of (table_rules old.names new.names t u) ≡ None → defaults_behind new class (length t.fields) ≡ None → option_map (fault_at class) (broken_rule old new class t) ≡ Some (record { rule = NoDefault; class = class })
    class_without none is = ap (option_map (fault_at class)) (by_default none None is)

    pub class_follows : (values : List Value) → first_of (table_rules old.names new.names t u) ≡ None → defaults_behind new class (length t.fields) ≡ Some values → broken_rule old new class t ≡ None
    class_follows values none is = by_default none (Some values) is

-- ---- class after class

module _ (old new : Source) (ts : List ClassTable) (i : ℕ) where
  at_class : (t : ClassTable) (o : Option UpgradeRule) → i < length ts → t ≡ get_or ts i t → broken_rule old new i (plain_table t) ≡ o
      → fault_from old new i (plain_tables (drop i ts)) ≡ first_of (option_map (fault_at i) o ∷ fault_from old new (i + 1) (plain_tables (drop (i + 1) ts)) ∷ [])
  at_class t o within is gives =
      ap (fault_from old new i) (map_from plain_table ts i t within is)
      ∙ ap (λ o. first_of (option_map (fault_at i) o ∷ fault_from old new (i + 1) (plain_tables (drop (i + 1) ts)) ∷ [])) gives

  alone : (o : Option UpgradeFault) → first_of (o ∷ []) ≡ o
  alone None = refl
  alone (Some fault) = refl

  pub fault_more : (t : ClassTable) → i < length ts → t ≡ get_or ts i t → broken_rule old new i (plain_table t) ≡ None → fault_from old new i (plain_tables (drop i ts)) ≡ fault_from old new (i + 1) (plain_tables (drop (i + 1) ts))
  fault_more t within is none = at_class t None within is none ∙ alone (fault_from old new (i + 1) (plain_tables (drop (i + 1) ts)))

  first_here : (o : Option UpgradeRule) (rest : Option UpgradeFault) (fault : UpgradeFault) → option_map (fault_at i) o ≡ Some fault → first_of (option_map (fault_at i) o ∷ rest ∷ []) ≡ Some fault
  first_here None rest fault h = absurd (none-some fault h)
  first_here (Some rule) rest fault h = h

  pub fault_stop : (t : ClassTable) (fault : UpgradeFault) → i < length ts → t ≡ get_or ts i t → option_map (fault_at i) (broken_rule old new i (plain_table t)) ≡ Some fault → fault_from old new i (plain_tables (drop i ts)) ≡ Some fault
  fault_stop t fault within is h = at_class t (broken_rule old new i (plain_table t)) within is refl ∙ first_here (broken_rule old new i (plain_table t)) _ fault h

  pub fault_end : length ts ≤ i → fault_from old new i (plain_tables (drop i ts)) ≡ None
  fault_end past = ap (λ zs. fault_from old new i (plain_tables zs)) (drop_all i ts past)

  pub added_more : (t : ClassTable) (before after : List (List Value)) (values : List Value) → i < length ts → t ≡ get_or ts i t → defaults_behind new i (length (plain_table t).fields) ≡ Some values → after ≡ before ++ values ∷ []
      → before ++ added_from new i (plain_tables (drop i ts)) ≡ after ++ added_from new (i + 1) (plain_tables (drop (i + 1) ts))
  added_more t before after values within is gives more =
      ap (λ us. before ++ added_from new i us) (map_from plain_table ts i t within is)
      ∙ ap (λ o. before ++ (unwrap_or o [] ∷ added_from new (i + 1) (plain_tables (drop (i + 1) ts)))) gives
      ∙ sym (append_assoc before (values ∷ []) (added_from new (i + 1) (plain_tables (drop (i + 1) ts))))
      ∙ ap (λ vss. vss ++ added_from new (i + 1) (plain_tables (drop (i + 1) ts))) (sym more)

  pub added_end : (values : List (List Value)) → length ts ≤ i → values ++ added_from new i (plain_tables (drop i ts)) ≡ values
  added_end values past = ap (λ zs. values ++ added_from new i (plain_tables zs)) (drop_all i ts past) ∙ append-nil values

-- ---- how many values there are

pub count_more : (before : List (List Value)) (values : List Value) → count_of (before ++ values ∷ []) ≡ count_of before + length values
count_more [] values = omega arith
count_more (vs ∷ before) values = let rest : count_of (before ++ values ∷ []) ≡ count_of before + length values = count_more before values in omega (arith, rest)

length-defaults : (names : List (List ℕ)) (es : List PlainExpr) (values : List Value) → defaults names es ≡ Some values → length values ≡ length es
unfolding defaults
length-defaults names [] values h = ap length (sym (same_Some [] values h))
length-defaults names (e ∷ es) values h = by (default names e) (defaults names es) h (length-defaults names es)
  where
    by : (o : Option Value) (rest : Option (List Value)) → option_and_then (λ v. option_map (λ vs. v ∷ vs) rest) o ≡ Some values → ((vs : List Value) → rest ≡ Some vs → length vs ≡ length es) → length values ≡ length (e ∷ es)
    by None rest h more = absurd (none-some values h)
    by (Some v) None h more = absurd (none-some values h)
    by (Some v) (Some vs) h more = ap length (sym (same_Some (v ∷ vs) values h)) ∙ ap suc (more vs refl)

same_count : (body : List PlainStmt) → length (declared_values body) ≡ length (fields_of body)
unfolding declared_values fields_of
same_count [] = refl
same_count (s ∷ body) = by (declaration s) (same_count body)
  where
    by : (o : Option Declaration) → length (declared_values body) ≡ length (fields_of body) → length (cons_option (option_map (λ (d : Declaration). d.value) o) (declared_values body)) ≡ length (cons_option (option_map field_declared o) (fields_of body))
    by None e = e
    by (Some d) e = ap suc e

module _ (src : Source) (known : IsKnownAccepted src.names src.program) where
  no_class : length (declared_values (body_of (init_among src.names []))) ≤ 256
  unfolding init_among declared_values
  no_class = omega arith

  class_small : (class : ℕ) (c : PlainClass) → slice_get src.program class ≡ Some c → IsSmall src.names c.members
  unfolding class_fault
  class_small class c is =
      let members = first_in (member_fault src.names src.program c.members) c.members in
      small src.names src.program c.members (head_none members (whole_fault src.names c ∷ []) (class_kept src.names src.program class c known.rules.classes is))

  few_declared : (class : ℕ) → length (declared_values (body_of (init_of src class))) ≤ 256
  few_declared class = by (slice_get src.program class) refl
    where
      by : (o : Option PlainClass) → slice_get src.program class ≡ o → length (declared_values (body_of (init_among src.names (members_of o)))) ≤ 256
      by None is = no_class
      by (Some c) is = subst (λ n. n ≤ 256) (sym (same_count (body_of (init_among src.names c.members)))) (class_small class c is).fields

  -- a class is given few fields
  pub few_values : (class count : ℕ) (values : List Value) → defaults_behind src class count ≡ Some values → length values ≤ 256
  few_values class count values gives =
      let all : List PlainExpr = declared_values (body_of (init_of src class)) in
      let few : length all ≤ 256 = few_declared class in
      let same : length values ≡ length (drop count all) = length-defaults src.names (drop count all) values gives in
      omega (arith, few, same, length-drop count all)

-- an accepted program has few classes
pub few_tables : (c : Checked) (ts : List ClassTable) → plain_tables ts ≡ tables_in (source_of c) → length ts ≤ 256
few_tables c ts is =
    let known : IsKnownAccepted (checked_names c) (checked_program c) = checked_are_known c in
    let few : length (checked_program c) ≤ 256 = few_classes (checked_names c) (checked_program c) known.rules.classes in
    let same : length ts ≡ length (checked_program c) = sym (length-map ts plain_table) ∙ ap length is ∙ length-map (checked_program c) (table_of (checked_names c)) in
    omega (arith, few, same)

-- what a class is given has few values, and so have so many classes
pub values_within : (c : Checked) (class fields : ℕ) (values : List Value) → defaults_behind (source_of c) class fields ≡ Some values → length values ≤ 256
values_within c class fields values gives = few_values (source_of c) (checked_are_known c) class fields values gives

pub ruleset plan_laws = (fault_more, fault_stop, fault_end, added_more, added_end, count_more, values_within)

pub ruleset rule_laws = (class_gone, class_changed, class_without, class_follows)

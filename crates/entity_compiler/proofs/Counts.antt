-- How many classes an accepted program has, and how many methods each of them, by its tables.
use Rattle.std.proofs.Common.{◌≡◌, ℕ, arith, ◌≤◌, Option, Some, None, List, length, refl, sym, ap, subst, ◌∙◌}
use Rattle.std.specs.Prelude.{slice_get, option_map}
use Rattle.std.proofs.lemmas.List.{length-map}
use Rattle.std.proofs.lemmas.Option.{none-some, same_Some, slice_get-map}
use Rattle.py_tree.specs.PlainProgram.{PlainClass, PlainProgram}
use Rattle.py_tree.specs.ClassRules.{PlainTable, program_fault, methods_of, sig_of, table_of, tables_of}
use Rattle.py_tree.specs.Acceptance.{members_of, members_at}
use Rattle.py_tree.proofs.ClassRuleLaws.{few_classes, few_methods}
use Rattle.entity_tables.specs.declared.table.ClassTable.{ClassTable}
use Rattle.entity_tables.specs.Views.{plain_sig, plain_table, plain_tables}

module _ (names : List (List ℕ)) (program : PlainProgram) (ts : List ClassTable) (are : plain_tables ts ≡ tables_of names program) where
  pub many_classes : length ts ≡ length program
  many_classes = sym (length-map ts plain_table) ∙ ap length are ∙ length-map program (table_of names)

  pub few : program_fault names program ≡ None → length ts ≤ 256
  few kept = subst (λ n. n ≤ 256) (sym many_classes) (few_classes names program kept)

  -- a table and the class of its number
  both : (class : ℕ) → option_map plain_table (slice_get ts class) ≡ option_map (table_of names) (slice_get program class)
  both class = sym (slice_get-map plain_table ts class) ∙ ap (λ us. slice_get us class) are ∙ slice_get-map (table_of names) program class

  pub many_methods : (class : ℕ) (t : ClassTable) → slice_get ts class ≡ Some t → length t.methods ≡ length (methods_of names (members_at program class))
  unfolding table_of methods_of
  many_methods class t is = by (slice_get program class) (sym (ap (option_map plain_table) is) ∙ both class)
    where
      by : (o : Option PlainClass) → Some (plain_table t) ≡ option_map (table_of names) o → length t.methods ≡ length (methods_of names (members_of o))
      by None e = absurd (none-some (plain_table t) (sym e))
      by (Some c) e = sym (length-map t.methods plain_sig) ∙ ap (λ (u : PlainTable). length u.methods) (same_Some _ _ e) ∙ length-map (methods_of names c.members) sig_of

  pub no_methods : (class : ℕ) → slice_get ts class ≡ None → 0 ≡ length (methods_of names (members_at program class))
  unfolding methods_of
  no_methods class none = by (slice_get program class) (sym (ap (option_map plain_table) none) ∙ both class)
    where
      by : (o : Option PlainClass) → None ≡ option_map (table_of names) o → 0 ≡ length (methods_of names (members_of o))
      by None e = refl
      by (Some c) e = absurd (none-some (table_of names c) e)

  -- each class has few
  pub few_in_class : program_fault names program ≡ None → (class : ℕ) → length (methods_of names (members_at program class)) ≤ 256
  unfolding methods_of
  few_in_class kept class = by (slice_get program class) refl
    where
      by : (o : Option PlainClass) → slice_get program class ≡ o → length (methods_of names (members_of o)) ≤ 256
      by None e = omega arith
      by (Some c) e = few_methods names program class c kept e

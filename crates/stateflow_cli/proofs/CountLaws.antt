-- How many classes and methods the tables of a program have.
use Rattle.std.proofs.Common.{◌≡◌, ℕ, zero, suc, ◌*◌, ◌^◌, ◌<◌, ◌≤◌, arith, Some, List, [], ◌∷◌, length, refl, sym, ap, ◌∙◌}
use Rattle.std.specs.Prelude.{slice_get}
use Rattle.std.specs.List.{sum_by}
use Rattle.std.proofs.lemmas.List.{length-map}
use Rattle.std.proofs.lemmas.List.Sums.{sum_by-cons}
use Rattle.py_tree.specs.PlainProgram.{PlainClass, PlainProgram}
use Rattle.py_tree.specs.ClassRules.{PlainTable, methods_of, sig_of, table_of, tables_of}
use Rattle.py_tree.specs.Acceptance.{KeepsRules}
use Rattle.py_tree.proofs.ClassRuleLaws.{few_classes, few_methods}
use Rattle.entity_tables.specs.declared.table.ClassTable.{ClassTable}
use Rattle.entity_tables.specs.Views.{plain_sig, plain_table, plain_tables}
use Rattle.stateflow_cli.specs.CheckLine.{count_methods}

-- a sum of small numbers
sum_small : {X : Type 0} (f : X → ℕ) (xs : List X) → ((k : ℕ) (x : X) → slice_get xs k ≡ Some x → f x ≤ 256) → sum_by f xs ≤ length xs * 256
sum_small f [] each = omega arith
sum_small f (x ∷ xs) each =
    let first : f x ≤ 256 = each zero x refl in
    let rest : sum_by f xs ≤ length xs * 256 = sum_small f xs (λ k y e. each (suc k) y e) in
    omega (arith, sum_by-cons f x xs, first, rest)

table_sizes : (ts : List ClassTable) → sum_by (λ t. length t.methods) ts ≡ sum_by (λ t. length t.methods) (plain_tables ts)
table_sizes [] = refl
table_sizes (t ∷ ts) =
    omega (arith, sum_by-cons (λ (u : ClassTable). length u.methods) t ts, sum_by-cons (λ (u : PlainTable). length u.methods) (plain_table t) (plain_tables ts), length-map t.methods plain_sig, table_sizes ts)

class_size : (names : List (List ℕ)) (c : PlainClass) → length (table_of names c).methods ≡ length (methods_of names c.members)
unfolding table_of
class_size names c = length-map (methods_of names c.members) sig_of

class_sizes : (names : List (List ℕ)) (cs : PlainProgram) → sum_by (λ t. length t.methods) (tables_of names cs) ≡ count_methods names cs
class_sizes names [] = refl
class_sizes names (c ∷ cs) =
    omega (arith, sum_by-cons (λ (u : PlainTable). length u.methods) (table_of names c) (tables_of names cs), sum_by-cons (λ (d : PlainClass). length (methods_of names d.members)) c cs, class_size names c, class_sizes names cs)

module _ (names : List (List ℕ)) (program : PlainProgram) (ts : List ClassTable) (made : plain_tables ts ≡ tables_of names program) where
  pub classes_counted : length ts ≡ length program
  classes_counted = sym (length-map ts plain_table) ∙ ap length made ∙ length-map program (table_of names)

  pub methods_counted : sum_by (λ t. length t.methods) ts ≡ count_methods names program
  methods_counted = table_sizes ts ∙ ap (sum_by (λ t. length t.methods)) made ∙ class_sizes names program

  pub few_counted : KeepsRules names program → sum_by (λ t. length t.methods) ts < 2 ^ 64
  few_counted keeps =
      let few : length program ≤ 256 = few_classes names program keeps.classes in
      let small : count_methods names program ≤ length program * 256 = sum_small (λ c. length (methods_of names c.members)) program (λ k c e. few_methods names program k c keeps.classes e) in
      omega (arith, few, small, methods_counted)

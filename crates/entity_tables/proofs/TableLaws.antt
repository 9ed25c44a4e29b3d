-- The tables of the classes up to one.
use Rattle.std.proofs.Common.{◌≡◌, ℕ, ◌+◌, ◌<◌, Some, None, List, [], ◌∷◌, ◌++◌, length, map, take, drop, get_or, sym, ap, ◌∙◌}
use Rattle.std.proofs.lemmas.List.{map-append}
use Rattle.py_tree.specs.declared.program.Class.{Class}
use Rattle.py_tree.specs.declared.rule.RuleFault.{RuleFault}
use Rattle.py_tree.specs.PlainProgram.{plain_class, PlainProgram}
use Rattle.py_tree.specs.ClassRules.{first_behind, class_fault, table_of, tables_of}
use Rattle.entity_tables.specs.declared.table.ClassTable.{ClassTable}
use Rattle.entity_tables.specs.Answers.{class_faults}
use Rattle.entity_tables.specs.Views.{plain_table, plain_tables}
use Rattle.py_tree.proofs.ListWalks.{map_more}
use Rattle.entity_tables.proofs.Lists.{first_passes, first_stops}

pub tables_more : (names : List (List ℕ)) (xs : List Class) (i : ℕ) (x : Class) (old new : List ClassTable) (t : ClassTable) → i < length xs → x ≡ get_or xs i x → plain_tables old ≡ tables_of names (map plain_class (take i xs)) → plain_table t ≡ table_of names (plain_class x) → new ≡ old ++ t ∷ [] → plain_tables new ≡ tables_of names (map plain_class (take (i + 1) xs))
tables_more names xs i x old new t within is so_far one more =
    ap plain_tables more ∙ map-append plain_table old (t ∷ []) ∙ (λ j. so_far j ++ one j ∷ []) ∙ sym (map-append (table_of names) (map plain_class (take i xs)) (plain_class x ∷ [])) ∙ ap (tables_of names) (sym (map_more plain_class xs i x within is))

pub classes_pass : (names : List (List ℕ)) (p : PlainProgram) (xs : List Class) (i : ℕ) (x : Class) → i < length xs → x ≡ get_or xs i x → class_fault names p (plain_class x) ≡ None → first_behind (class_faults names p) (map plain_class (take i xs)) (map plain_class (drop i xs)) ≡ first_behind (class_faults names p) (map plain_class (take (i + 1) xs)) (map plain_class (drop (i + 1) xs))
classes_pass names p xs i x within is none = first_passes plain_class (class_faults names p) xs i x within is none

pub classes_stop : (names : List (List ℕ)) (p : PlainProgram) (xs : List Class) (i : ℕ) (x : Class) (f : RuleFault) → i < length xs → x ≡ get_or xs i x → class_fault names p (plain_class x) ≡ Some f → first_behind (class_faults names p) (map plain_class (take i xs)) (map plain_class (drop i xs)) ≡ Some f
classes_stop names p xs i x f within is some = first_stops plain_class (class_faults names p) xs i x f within is some

pub ruleset table_laws = (tables_more, classes_pass, classes_stop)

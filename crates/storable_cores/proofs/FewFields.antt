-- The classes of an accepted program have few fields.
use Rattle.std.proofs.Common.{◌≡◌, ℕ, ◌≤◌, List, [], ◌∷◌, length, Some, subst}
use Rattle.std.specs.Prelude.{slice_get}
use Rattle.py_tree.specs.PlainProgram.{PlainClass, PlainProgram}
use Rattle.py_tree.specs.ClassRules.{PlainTable, table_of, tables_of, first_in, member_fault, whole_fault, class_fault}
use Rattle.py_tree.proofs.ClassRuleLaws.{head_none, class_kept}
use Rattle.entity_tables.proofs.SmallLaws.{small}
use Rattle.program_meaning.specs.Fits.{HasTable}
use Rattle.program_meaning.specs.NothingGoesWrong.{IsKnownAccepted}
use Rattle.program_meaning.proofs.TableFacts.{class_at}

module _ (names : List (List ℕ)) (program : PlainProgram) (accepted : IsKnownAccepted names program) where
  abbrev tables : List PlainTable
  tables = tables_of names program

  class_few : (class : ℕ) (c : PlainClass) → slice_get program class ≡ Some c → length (table_of names c).fields ≤ 256
  unfolding class_fault table_of
  class_few class c is =
      let members = first_in (member_fault names program c.members) c.members in
      (small names program c.members (head_none members (whole_fault names c ∷ []) (class_kept names program class c accepted.rules.classes is))).fields

  pub few_fields : (class : ℕ) (t : PlainTable) → HasTable tables class t → length t.fields ≤ 256
  few_fields class t has =
      let c = class_at names program accepted.rules.classes class t has in
      subst (λ (u : PlainTable). length u.fields ≤ 256) c.2 (class_few class c.0 c.1)

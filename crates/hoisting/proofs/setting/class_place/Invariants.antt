use Rattle.std.proofs.Common.{◌≡◌, drop}
use Rattle.std.specs.Prelude.{nat_eq}
use Rattle.std.specs.List.{position_from}
use Rattle.py_tree.specs.ClassRules.{PlainTable}
use Rattle.entity_tables.specs.Views.{plain_tables}
use Rattle.hoisting.proofs.setting.class_place.Given as goal

abbrev pub invariant-loop-i : goal.invariant-loop-i
invariant-loop-i l =
    position_from (λ (t : PlainTable). nat_eq t.name l.name.0) 0 (plain_tables l.tables) ≡ position_from (λ (t : PlainTable). nat_eq t.name l.name.0) l.i (plain_tables (drop l.i l.tables))

use Rattle.std.proofs.Common.{◌≡◌, map, drop}
use Rattle.std.specs.Prelude.{nat_eq}
use Rattle.std.specs.List.{position_from}
use Rattle.py_tree.specs.ClassRules.{PlainSig}
use Rattle.entity_tables.specs.Views.{plain_sig}
use Rattle.hoisting.proofs.setting.method_place.Given as goal

abbrev pub invariant-loop-i : goal.invariant-loop-i
invariant-loop-i l =
    position_from (λ (m : PlainSig). nat_eq m.name l.name.0) 0 (map plain_sig l.methods) ≡ position_from (λ (m : PlainSig). nat_eq m.name l.name.0) l.i (map plain_sig (drop l.i l.methods))

-- How the rules of an upgrade are printed.
use Rattle.std.specs.Prelude.{ℕ, List, codes}
use Rattle.program_upgrade.specs.declared.rule.UpgradeRule.{UpgradeRule}
use Rattle.program_upgrade.specs.declared.rule.UpgradeRule.TheVariants.{ClassGone, FieldChanged, InitChanged, MethodChanged, NoDefault}

abbrev pub text_of : UpgradeRule → List ℕ
text_of ClassGone = codes "ClassGone"
text_of FieldChanged = codes "FieldChanged"
text_of InitChanged = codes "InitChanged"
text_of MethodChanged = codes "MethodChanged"
text_of NoDefault = codes "NoDefault"

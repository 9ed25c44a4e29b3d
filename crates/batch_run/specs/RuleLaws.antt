-- The rule of a run keeps what each rule has to keep.
use Rattle.std.specs.Prelude.{Bool, true, false, List}
use Rattle.serial_order.specs.ConflictFree.{Access}
use Rattle.reservations.specs.CommitRules.{IsLawful}
use Rattle.reservations.specs.BatchRuleLaws.{batch_rule_is_lawful}
use Rattle.batch_reorder.specs.ReorderingLaws.{reordered_is_lawful}
use Rattle.batch_run.specs.RunViews.{rule_by}

pub rule_is_lawful : (reorder : Bool) (batch : List Access) → IsLawful batch (rule_by reorder batch)
rule_is_lawful true batch = reordered_is_lawful batch
rule_is_lawful false batch = batch_rule_is_lawful batch

use Rattle.std.proofs.Common.{◌≡◌, ◌≤◌, ◌*◌, ◌++◌, drop}
use Rattle.entity_tables.specs.Views.{plain_tables}
use Rattle.program_meaning.specs.Sources.{source_of}
use Rattle.program_upgrade.specs.Counts.{count_of}
use Rattle.program_upgrade.specs.UpgradeRules.{fault_from, added_from}
use Rattle.program_upgrade.proofs.planning.plan_classes.Given as goal

abbrev pub invariant-loop-i : goal.invariant-loop-i
invariant-loop-i l = record {
  fault : fault_from (source_of l.earlier) (source_of l.later) l.i (plain_tables (drop l.i l.old)) ≡ fault_from (source_of l.earlier) (source_of l.later) 0 (plain_tables l.old);
  added : l.values ++ added_from (source_of l.later) l.i (plain_tables (drop l.i l.old)) ≡ added_from (source_of l.later) 0 (plain_tables l.old);
  count : l.count ≡ count_of l.values;
  few : l.count ≤ 256 * l.i;
}

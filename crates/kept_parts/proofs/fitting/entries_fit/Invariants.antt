use Rattle.std.proofs.Common.{take}
use Rattle.std.specs.List.{AllByRecursion}
use Rattle.entity_tables.specs.Views.{plain_tables}
use Rattle.kept_parts.proofs.EachLaws.{EntryFits}
use Rattle.kept_parts.proofs.fitting.entries_fit.Given as goal

abbrev pub invariant-loop-entry : goal.invariant-loop-entry
invariant-loop-entry l = AllByRecursion (EntryFits (plain_tables l.tables)) (take l.entry-index l.entries)

use Rattle.std.proofs.Common.{subst, ◌≤◌, length}
use Rattle.std.specs.List.{AllByRecursion}
use Rattle.std.proofs.lemmas.List.{take_all}
use Rattle.entity_tables.specs.Views.{plain_tables}
use Rattle.kept_parts.proofs.EachLaws.{EntryFits, each_of_entries, entries_of_each, each_more, each_stop, holds, fails, refuses}
use Rattle.kept_parts.proofs.fitting.entries_fit.Goals as goal

pub returns-then-not-entry_fits : goal.returns-then-not-entry_fits
returns-then-not-entry_fits c =
    fails (λ fit. each_stop (EntryFits (plain_tables c.args.tables.now)) c.args.entries.now c.loop-entry.entry-index c.entry-item.result c.loop-entry-test.true c.entry-item.is (refuses c.entry_fits.result c.if-not-entry_fits.true c.entry_fits.ensures)
    (each_of_entries (plain_tables c.args.tables.now) c.args.entries.now fit))

pub loop-entry-preserved : goal.loop-entry-preserved
loop-entry-preserved c = each_more (EntryFits (plain_tables c.args.tables.now)) c.args.entries.now c.loop-entry.entry-index c.entry-item.result c.loop-entry-test.true c.entry-item.is c.loop-entry.invariant (c.entry_fits.ensures.0 c.if-not-entry_fits.false)

pub returns : goal.returns
returns c =
    let whole : length c.args.entries.now ≤ c.loop-entry.entry-index = c.loop-entry-test.false in
    holds (entries_of_each (plain_tables c.args.tables.now) c.args.entries.now (subst (AllByRecursion (EntryFits (plain_tables c.args.tables.now))) (take_all c.loop-entry.entry-index c.args.entries.now whole) c.loop-entry.invariant))

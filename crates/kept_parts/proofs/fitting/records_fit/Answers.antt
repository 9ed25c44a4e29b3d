use Rattle.sf_value.specs.declared.Held.{Held}
use Rattle.entity_tables.specs.Views.{plain_tables}
use Rattle.program_meaning.specs.Fits.{RecordFits}
use Rattle.kept_parts.proofs.EachLaws.{each_more, each_stop, fails, refuses}
use Rattle.kept_parts.proofs.fitting.records_fit.Goals as goal

pub returns-then-not-held_fits : goal.returns-then-not-held_fits
returns-then-not-held_fits c = fails (each_stop (λ (held : Held). RecordFits (plain_tables c.args.tables.now) held.at.class held.fields.fields) c.args.records.now c.loop-held.held-index c.held-item.result c.loop-held-test.true c.held-item.is (refuses c.held_fits.result c.if-not-held_fits.true c.held_fits.ensures))

pub loop-held-preserved : goal.loop-held-preserved
loop-held-preserved c = each_more (λ (held : Held). RecordFits (plain_tables c.args.tables.now) held.at.class held.fields.fields) c.args.records.now c.loop-held.held-index c.held-item.result c.loop-held-test.true c.held-item.is c.loop-held.invariant (c.held_fits.ensures.0 c.if-not-held_fits.false)

use Rattle.std.proofs.Common.{arith}
use Rattle.py_tree.specs.ClassRules.{PlainField}
use Rattle.entity_tables.specs.Views.{plain_field, plain_tables}
use Rattle.program_meaning.specs.Fits.{no_value}
use Rattle.program_fit.proofs.FitTests.{fails, refuses, other_count, each_more, each_stop}
use Rattle.program_fit.proofs.records.fields_fit.Goals as goal

pub returns-then-fields-values : goal.returns-then-fields-values
returns-then-fields-values c = fails (other_count (plain_tables c.args.tables.now) plain_field (λ (x : PlainField). x.ty) c.args.fields.now c.args.values.now c.if-fields-values.true)

pub loop-i-init : goal.loop-i-init
loop-i-init c = no_value

pub returns-then-not-value_fits : goal.returns-then-not-value_fits
returns-then-not-value_fits c = fails (each_stop (plain_tables c.args.tables.now) plain_field (λ (x : PlainField). x.ty) c.args.fields.now c.args.values.now c.loop-i.i c.index-fields-i.result c.index-values-i.result
    c.loop-i-test.true c.index-fields-i.is (omega arith) c.index-values-i.is (refuses c.value_fits.result c.if-not-value_fits.true c.value_fits.ensures))

pub loop-i-preserved : goal.loop-i-preserved
loop-i-preserved c = each_more (plain_tables c.args.tables.now) plain_field (λ (x : PlainField). x.ty) c.args.fields.now c.args.values.now c.loop-i.i c.index-fields-i.result c.index-values-i.result
    c.loop-i-test.true c.index-fields-i.is (omega arith) c.index-values-i.is c.loop-i.invariant (c.value_fits.ensures.0 c.if-not-value_fits.false)

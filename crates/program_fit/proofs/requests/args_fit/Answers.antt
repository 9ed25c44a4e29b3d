use Rattle.std.proofs.Common.{arith}
use Rattle.py_tree.specs.ClassRules.{PlainSigParam}
use Rattle.entity_tables.specs.Views.{plain_sig_param, plain_tables}
use Rattle.program_meaning.specs.Fits.{no_value}
use Rattle.program_fit.proofs.FitTests.{fails, refuses, other_count, each_more, each_stop}
use Rattle.program_fit.proofs.requests.args_fit.Goals as goal

pub returns-then-params-args : goal.returns-then-params-args
returns-then-params-args c = fails (other_count (plain_tables c.args.tables.now) plain_sig_param (λ (x : PlainSigParam). x.ty) c.args.params.now c.args.args.now c.if-params-args.true)

pub loop-i-init : goal.loop-i-init
loop-i-init c = no_value

pub returns-then-not-value_fits : goal.returns-then-not-value_fits
returns-then-not-value_fits c = fails (each_stop (plain_tables c.args.tables.now) plain_sig_param (λ (x : PlainSigParam). x.ty) c.args.params.now c.args.args.now c.loop-i.i c.index-params-i.result c.index-args-i.result
    c.loop-i-test.true c.index-params-i.is (omega arith) c.index-args-i.is (refuses c.value_fits.result c.if-not-value_fits.true c.value_fits.ensures))

pub loop-i-preserved : goal.loop-i-preserved
loop-i-preserved c = each_more (plain_tables c.args.tables.now) plain_sig_param (λ (x : PlainSigParam). x.ty) c.args.params.now c.args.args.now c.loop-i.i c.index-params-i.result c.index-args-i.result
    c.loop-i-test.true c.index-params-i.is (omega arith) c.index-args-i.is c.loop-i.invariant (c.value_fits.ensures.0 c.if-not-value_fits.false)

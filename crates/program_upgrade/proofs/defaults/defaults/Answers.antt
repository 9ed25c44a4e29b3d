use Rattle.std.proofs.Common.{arith, sym, ap, ◌∙◌}
use Rattle.program_upgrade.proofs.DefaultLaws.{read_default, values_from, value_more, value_stop, value_end, value_start}
use Rattle.program_upgrade.proofs.defaults.defaults.Goals as goal

pub loop-i-init : goal.loop-i-init
loop-i-init c = ap (values_from c.args.names.now c.args.exprs.now c.args.first) c.new-values.ensures ∙ value_start c.args.names.now c.args.exprs.now c.args.first

pub loop-i-preserved : goal.loop-i-preserved
loop-i-preserved c =
    sym (value_more c.args.names.now c.args.exprs.now c.loop-i.i c.index-exprs-i.result c.loop-i.values c.push.new.self c.in-Some.value (omega arith) (read_default c.args.names.now c.args.exprs.now c.loop-i.i c.index-exprs-i.result _ c.index-exprs-i.is (sym c.in_ok-made.ensures ∙ c.in-Some.is)) c.in_ok-push.ensures.ok)
    ∙ c.loop-i.invariant

pub returns-in_default : goal.returns-in_default
returns-in_default c =
    sym (value_stop c.args.names.now c.args.exprs.now c.loop-i.i c.index-exprs-i.result c.loop-i.values (omega arith) (read_default c.args.names.now c.args.exprs.now c.loop-i.i c.index-exprs-i.result _ c.index-exprs-i.is (sym c.in_ok-made.ensures ∙ c.in_default.is)))
    ∙ c.loop-i.invariant

pub returns : goal.returns
returns c = sym (value_end c.args.names.now c.args.exprs.now c.loop-i.i c.loop-i.values (omega arith)) ∙ c.loop-i.invariant

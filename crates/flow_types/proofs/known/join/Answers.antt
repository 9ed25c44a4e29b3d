use Rattle.std.proofs.Common.{arith, sym, ap, ◌∙◌}
use Rattle.flow_types.specs.Views.{plain_standings}
use Rattle.flow_types.proofs.StandingLaws.{joined_more, joined_all, no_joined}
use Rattle.flow_types.proofs.known.join.Goals as goal

pub loop-i-init : goal.loop-i-init
loop-i-init c = ap plain_standings c.new-made.ensures ∙ sym (no_joined c.args.first.now c.args.second.now)

pub loop-i-preserved : goal.loop-i-preserved
loop-i-preserved c = joined_more c.args.first.now c.args.second.now c.loop-i.i c.on_both.result c.loop-i.made _ (omega arith) (omega arith) c.loop-i.invariant c.on_both.ensures c.in_ok-push.ensures.ok

pub returns : goal.returns
returns c = c.loop-i.invariant ∙ joined_all c.args.first.now c.args.second.now c.loop-i.i (omega arith)

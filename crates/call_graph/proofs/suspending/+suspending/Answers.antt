use Rattle.std.proofs.Common.{arith}
use Rattle.call_graph.specs.SuspendingCode.{leaving_in}
use Rattle.call_graph.proofs.CodeRules.{exprs_more, links_more, part_asks, call_leaves}
use Rattle.call_graph.proofs.suspending.+suspending.Goals as goal

pub exprs_suspend-returns-then-expr_suspends : goal.exprs_suspend-returns-then-expr_suspends
exprs_suspend-returns-then-expr_suspends t c = grind (arith, exprs_more (leaving_in c.args.program.now c.args.graph.now c.args.class) c.as_slice-expr-items.result.now c.loop-expr.expr-index c.expr-item.result c.loop-expr-test.true c.expr-item.is)

pub exprs_suspend-loop-expr-preserved : goal.exprs_suspend-loop-expr-preserved
exprs_suspend-loop-expr-preserved t c = grind (arith, exprs_more (leaving_in c.args.program.now c.args.graph.now c.args.class) c.as_slice-expr-items.result.now c.loop-expr.expr-index c.expr-item.result c.loop-expr-test.true c.expr-item.is)

pub links_suspend-returns-then-expr_suspends : goal.links_suspend-returns-then-expr_suspends
links_suspend-returns-then-expr_suspends t c = grind (arith, links_more (leaving_in c.args.program.now c.args.graph.now c.args.class) c.as_slice-link-items.result.now c.loop-link.link-index c.link-item.result c.loop-link-test.true c.link-item.is)

pub links_suspend-loop-link-preserved : goal.links_suspend-loop-link-preserved
links_suspend-loop-link-preserved t c = grind (arith, links_more (leaving_in c.args.program.now c.args.graph.now c.args.class) c.as_slice-link-items.result.now c.loop-link.link-index c.link-item.result c.loop-link-test.true c.link-item.is)

pub expr_suspends-returns-then-parts_suspend : goal.expr_suspends-returns-then-parts_suspend
expr_suspends-returns-then-parts_suspend t c = part_asks (leaving_in c.args.program.now c.args.graph.now c.args.class) c.args.expr.now.place c.args.expr.now.kind c.in-Call.on c.in-Call.name c.in-Call.args c.deref.result.now c.expr_suspends.result c.exprs_suspend.result c.in-Call.is c.deref.ensures c.expr_suspends.ensures c.exprs_suspend.ensures c.if-parts_suspend.true

pub expr_suspends-returns-else-parts_suspend : goal.expr_suspends-returns-else-parts_suspend
expr_suspends-returns-else-parts_suspend t c = call_leaves (leaving_in c.args.program.now c.args.graph.now c.args.class) c.args.expr.now.place c.args.expr.now.kind c.in-Call.on c.in-Call.name c.in-Call.args c.deref.result.now c.expr_suspends.result c.exprs_suspend.result c.in-Call.is c.deref.ensures c.expr_suspends.ensures c.exprs_suspend.ensures c.deref-else-parts_suspend.result.now c.call_leaves.result c.if-parts_suspend.false c.deref-else-parts_suspend.ensures c.call_leaves.ensures

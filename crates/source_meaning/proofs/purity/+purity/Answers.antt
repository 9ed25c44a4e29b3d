use Rattle.std.proofs.Common.{arith}
use Rattle.program_meaning.proofs.PurityLaws.{exprs_more, links_more}
use Rattle.source_meaning.proofs.purity.+purity.Goals as goal

pub all_pure-returns-then-not-is_pure : goal.all_pure-returns-then-not-is_pure
all_pure-returns-then-not-is_pure t c = grind (arith, exprs_more c.as_slice-expr-items.result.now c.loop-expr.expr-index c.expr-item.result c.loop-expr-test.true c.expr-item.is)

pub all_pure-loop-expr-preserved : goal.all_pure-loop-expr-preserved
all_pure-loop-expr-preserved t c = grind (arith, exprs_more c.as_slice-expr-items.result.now c.loop-expr.expr-index c.expr-item.result c.loop-expr-test.true c.expr-item.is)

pub links_pure-returns-then-not-is_pure : goal.links_pure-returns-then-not-is_pure
links_pure-returns-then-not-is_pure t c = grind (arith, links_more c.as_slice-link-items.result.now c.loop-link.link-index c.link-item.result c.loop-link-test.true c.link-item.is)

pub links_pure-loop-link-preserved : goal.links_pure-loop-link-preserved
links_pure-loop-link-preserved t c = grind (arith, links_more c.as_slice-link-items.result.now c.loop-link.link-index c.link-item.result c.loop-link-test.true c.link-item.is)

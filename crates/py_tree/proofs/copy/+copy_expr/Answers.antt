use Rattle.std.proofs.Common.{arith}
use Rattle.py_tree.specs.PlainExpressions.{plain_expr, plain_link}
use Rattle.py_tree.proofs.CopyLaws.{map_step}
use Rattle.py_tree.proofs.Views.{plain-Call}
use Rattle.py_tree.proofs.copy.+copy_expr.Goals as goal

pub copy_exprs-loop-expr-preserved : goal.copy_exprs-loop-expr-preserved
copy_exprs-loop-expr-preserved t c = map_step plain_expr c.as_slice-expr-items.result.now c.loop-expr.made c.push.new.self c.loop-expr.expr-index c.expr-item.result c.in_ok-copy_expr.field-0 c.loop-expr.invariant c.loop-expr-test.true c.expr-item.is c.in_ok-copy_expr.ensures c.in_ok-push.ensures.ok

pub copy_links-loop-link-preserved : goal.copy_links-loop-link-preserved
copy_links-loop-link-preserved t c = map_step plain_link c.as_slice-link-items.result.now c.loop-link.made c.push.new.self c.loop-link.link-index c.link-item.result c.in_ok-copy_link.field-0 c.loop-link.invariant c.loop-link-test.true c.link-item.is c.in_ok-copy_link.ensures c.in_ok-push.ensures.ok

pub copy_kind-returns-in_ok-copy_exprs-in-Call : goal.copy_kind-returns-in_ok-copy_exprs-in-Call
copy_kind-returns-in_ok-copy_exprs-in-Call t c = λ at. grind (arith, plain-Call at c.in_ok-on-in-Call.on c.in-Call.name c.in_ok-copy_exprs-in-Call.field-0, plain-Call at c.in-Call.on c.in-Call.name c.in-Call.args)

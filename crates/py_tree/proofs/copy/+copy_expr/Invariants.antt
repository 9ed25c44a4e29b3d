use Rattle.std.proofs.Common.{◌≡◌, take}
use Rattle.py_tree.specs.PlainExpressions.{plain_exprs, plain_links}
use Rattle.py_tree.proofs.copy.+copy_expr.Given as goal

abbrev pub invariant-copy_exprs-loop-expr : goal.invariant-copy_exprs-loop-expr
invariant-copy_exprs-loop-expr l = plain_exprs l.made ≡ plain_exprs (take l.expr-index l.expr-items)

abbrev pub invariant-copy_links-loop-link : goal.invariant-copy_links-loop-link
invariant-copy_links-loop-link l = plain_links l.made ≡ plain_links (take l.link-index l.link-items)

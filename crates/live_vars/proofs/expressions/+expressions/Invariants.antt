use Rattle.std.proofs.Common.{◌≡◌, drop}
use Rattle.py_tree.specs.PlainExpressions.{plain_exprs, exprs_of, plain_links, links_of}
use Rattle.live_laws.specs.Reads.{any_read, links_read}
use Rattle.live_vars.proofs.expressions.+expressions.Given as goal

abbrev pub invariant-any_read-loop-expr : goal.invariant-any_read-loop-expr
invariant-any_read-loop-expr l = any_read (exprs_of (plain_exprs (drop l.expr-index l.expr-items))) l.name.0 ≡ any_read (exprs_of (plain_exprs l.expr-items)) l.name.0

abbrev pub invariant-links_read-loop-link : goal.invariant-links_read-loop-link
invariant-links_read-loop-link l = links_read (links_of (plain_links (drop l.link-index l.link-items))) l.name.0 ≡ links_read (links_of (plain_links l.link-items)) l.name.0

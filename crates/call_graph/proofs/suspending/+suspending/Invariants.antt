use Rattle.std.proofs.Common.{◌≡◌, drop}
use Rattle.py_tree.specs.PlainExpressions.{plain_exprs, exprs_of, plain_links, links_of}
use Rattle.call_graph.specs.SuspendingCode.{leaving_in, exprs_suspend, links_suspend}
use Rattle.call_graph.proofs.suspending.+suspending.Given as goal

abbrev pub invariant-exprs_suspend-loop-expr : goal.invariant-exprs_suspend-loop-expr
invariant-exprs_suspend-loop-expr l =
    exprs_suspend (leaving_in l.program l.graph l.class) (exprs_of (plain_exprs (drop l.expr-index l.expr-items)))
    ≡ exprs_suspend (leaving_in l.program l.graph l.class) (exprs_of (plain_exprs l.expr-items))

abbrev pub invariant-links_suspend-loop-link : goal.invariant-links_suspend-loop-link
invariant-links_suspend-loop-link l =
    links_suspend (leaving_in l.program l.graph l.class) (links_of (plain_links (drop l.link-index l.link-items)))
    ≡ links_suspend (leaving_in l.program l.graph l.class) (links_of (plain_links l.link-items))

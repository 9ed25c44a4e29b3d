use Rattle.std.proofs.Common.{◌≡◌, ◌++◌, map, drop}
use Rattle.py_tree.specs.PlainExpressions.{plain_exprs, exprs_of, plain_links, links_of}
use Rattle.py_tree.specs.PlainProgram.{plain_class}
use Rattle.call_graph.specs.Suspending.{sites_in, sites_in_links}
use Rattle.py_tree.specs.ClassViews.{numbers_of}
use Rattle.call_graph.proofs.exprs.+exprs.Given as goal

abbrev pub invariant-find_in-loop-expr : goal.invariant-find_in-loop-expr
invariant-find_in-loop-expr l = l.found ++ sites_in (map plain_class l.classes) (numbers_of l.methods) (exprs_of (plain_exprs (drop l.expr-index l.expr-items))) ≡ l.initial.found ++ sites_in (map plain_class l.classes) (numbers_of l.methods) (exprs_of (plain_exprs l.expr-items))

abbrev pub invariant-find_in_links-loop-link : goal.invariant-find_in_links-loop-link
invariant-find_in_links-loop-link l = l.found ++ sites_in_links (map plain_class l.classes) (numbers_of l.methods) (links_of (plain_links (drop l.link-index l.link-items))) ≡ l.initial.found ++ sites_in_links (map plain_class l.classes) (numbers_of l.methods) (links_of (plain_links l.link-items))

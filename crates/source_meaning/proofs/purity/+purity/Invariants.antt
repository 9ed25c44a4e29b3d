use Rattle.std.proofs.Common.{◌≡◌, drop}
use Rattle.py_tree.specs.PlainExpressions.{plain_exprs, exprs_of, plain_links, links_of}
use Rattle.program_meaning.specs.Purity.{all_pure, links_pure}
use Rattle.source_meaning.proofs.purity.+purity.Given as goal

abbrev pub invariant-all_pure-loop-expr : goal.invariant-all_pure-loop-expr
invariant-all_pure-loop-expr l = all_pure (exprs_of (plain_exprs (drop l.expr-index l.expr-items))) ≡ all_pure (exprs_of (plain_exprs l.expr-items))

abbrev pub invariant-links_pure-loop-link : goal.invariant-links_pure-loop-link
invariant-links_pure-loop-link l = links_pure (links_of (plain_links (drop l.link-index l.link-items))) ≡ links_pure (links_of (plain_links l.link-items))

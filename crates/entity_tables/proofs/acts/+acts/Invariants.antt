use Rattle.std.proofs.Common.{◌≡◌, map, drop}
use Rattle.py_tree.specs.PlainExpressions.{plain_exprs, exprs_of, plain_links, links_of}
use Rattle.py_tree.specs.PlainProgram.{plain_class}
use Rattle.py_tree.specs.ClassRules.{any_acts, any_link_acts}
use Rattle.py_tree.specs.ClassViews.{numbers_of}
use Rattle.entity_tables.proofs.acts.+acts.Given as goal

abbrev pub invariant-any_acts-loop-expr : goal.invariant-any_acts-loop-expr
invariant-any_acts-loop-expr l = any_acts (map plain_class l.classes) (numbers_of l.fields) (exprs_of (plain_exprs l.expr-items)) ≡ any_acts (map plain_class l.classes) (numbers_of l.fields) (exprs_of (plain_exprs (drop l.expr-index l.expr-items)))

abbrev pub invariant-any_link_acts-loop-link : goal.invariant-any_link_acts-loop-link
invariant-any_link_acts-loop-link l = any_link_acts (map plain_class l.classes) (numbers_of l.fields) (links_of (plain_links l.link-items)) ≡ any_link_acts (map plain_class l.classes) (numbers_of l.fields) (links_of (plain_links (drop l.link-index l.link-items)))

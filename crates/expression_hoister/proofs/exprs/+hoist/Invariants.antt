use Rattle.std.proofs.Common.{◌≡◌, ◌+◌, ◌*◌, drop}
use Rattle.py_tree.specs.PlainTypes.{plain_ty}
use Rattle.py_tree.specs.PlainExpressions.{plain_expr, plain_exprs, exprs_of, plain_links, links_of}
use Rattle.py_tree.specs.Bounded.{expr_size, exprs_size, links_size}
use Rattle.flat_tree.specs.PlainFlat.{plain_flat_stmts, plain_operands}
use Rattle.hoisting.specs.HoistExpressions.{taken_each, taken_links, taken_operands}
use Rattle.hoisting.specs.Views.{plain_stage, context_of, leaves_of}
use Rattle.expression_hoister.specs.ExpressionViews.{run_at, plain_each_wanted}
use Rattle.expression_hoister.proofs.InRow.{after_each, after_operands}
use Rattle.expression_hoister.proofs.exprs.+hoist.Given as goal

abbrev pub invariant-each-loop-i : goal.invariant-each-loop-i
invariant-each-loop-i l =
    after_each (plain_flat_stmts l.before) (plain_exprs l.rest) (taken_each (leaves_of l.setting) (context_of l.setting) (plain_each_wanted (drop l.i l.wanted)) (exprs_of (plain_exprs (drop l.i l.items))) (plain_stage l.stage))
    ≡ taken_each (leaves_of l.setting) (context_of l.setting) (plain_each_wanted l.wanted) (exprs_of (plain_exprs l.items)) (plain_stage l.fn.stage)

abbrev pub invariant-linked-loop-link : goal.invariant-linked-loop-link
invariant-linked-loop-link l =
    taken_links (leaves_of l.setting) (context_of l.setting) l.place (plain_ty l.ty) (links_of (plain_links (drop l.link-index l.links))) (run_at l.made l.stage)
    ≡ taken_links (leaves_of l.setting) (context_of l.setting) l.place (plain_ty l.ty) (links_of (plain_links l.links)) (run_at l.initial.made l.fn.stage)

abbrev pub invariant-operands-loop-item : goal.invariant-operands-loop-item
invariant-operands-loop-item l =
    after_operands (plain_operands l.made) (taken_operands (leaves_of l.setting) (context_of l.setting) l.truth (exprs_of (plain_exprs (drop l.item-index l.items))) (plain_stage l.here))
    ≡ taken_operands (leaves_of l.setting) (context_of l.setting) l.truth (exprs_of (plain_exprs l.items)) (plain_stage l.stage)

abbrev pub decreases-value : goal.decreases-value
decreases-value l = 8 * (expr_size (plain_expr l.expr.now)) + 0

abbrev pub decreases-by_value : goal.decreases-by_value
decreases-by_value l = 8 * (expr_size (plain_expr l.expr.now)) + 1

abbrev pub decreases-test : goal.decreases-test
decreases-test l = 8 * (expr_size (plain_expr l.expr.now)) + 2

abbrev pub decreases-kept_value : goal.decreases-kept_value
decreases-kept_value l = 8 * (expr_size (plain_expr l.expr.now)) + 1

abbrev pub decreases-operand : goal.decreases-operand
decreases-operand l = 8 * (expr_size (plain_expr l.expr.now)) + 3

abbrev pub decreases-operands : goal.decreases-operands
decreases-operands l = 8 * (exprs_size (exprs_of (plain_exprs l.items.now))) + 4

abbrev pub decreases-each : goal.decreases-each
decreases-each l = 8 * (exprs_size (exprs_of (plain_exprs l.items.now))) + 2

abbrev pub decreases-link_on : goal.decreases-link_on
decreases-link_on l = 8 * (expr_size (plain_expr l.link.now.right)) + 1

abbrev pub decreases-linked : goal.decreases-linked
decreases-linked l = 8 * (links_size (links_of (plain_links l.links.now))) + 2

abbrev pub decreases-two : goal.decreases-two
decreases-two l = 8 * (expr_size (plain_expr l.first.now) + expr_size (plain_expr l.second.now)) + 2

abbrev pub decreases-call_parts : goal.decreases-call_parts
decreases-call_parts l = 8 * (expr_size (plain_expr l.on.now) + exprs_size (exprs_of (plain_exprs l.args.now))) + 3

abbrev pub decreases-call : goal.decreases-call
decreases-call l = 8 * (expr_size (plain_expr l.on.now) + exprs_size (exprs_of (plain_exprs l.args.now))) + 4

abbrev pub decreases-apply : goal.decreases-apply
decreases-apply l = 8 * (exprs_size (exprs_of (plain_exprs l.args.now))) + 3

abbrev pub decreases-list : goal.decreases-list
decreases-list l = 8 * (exprs_size (exprs_of (plain_exprs l.items.now))) + 3

abbrev pub decreases-run : goal.decreases-run
decreases-run l = 8 * (expr_size (plain_expr l.first.now) + links_size (links_of (plain_links l.links.now))) + 3

abbrev pub decreases-truth : goal.decreases-truth
decreases-truth l = 8 * (exprs_size (exprs_of (plain_exprs l.items.now))) + 5

abbrev pub decreases-way : goal.decreases-way
decreases-way l = 8 * (expr_size (plain_expr l.expr.now)) + 1

abbrev pub decreases-cond : goal.decreases-cond
decreases-cond l = 8 * (expr_size (plain_expr l.decider.now) + (expr_size (plain_expr l.yes.now) + expr_size (plain_expr l.no.now))) + 3

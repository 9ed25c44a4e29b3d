use Rattle.std.proofs.Common.{◌≡◌, ◌+◌, ◌*◌, map, drop}
use Rattle.py_tree.specs.PlainTypes.{plain_ty}
use Rattle.py_tree.specs.PlainExpressions.{plain_expr, plain_exprs, exprs_of, plain_links, links_of}
use Rattle.py_tree.specs.ExpressionTypes.{conditions, arguments, each_is, elements, linked}
use Rattle.entity_tables.specs.Views.{plain_sig_param, plain_tables}
use Rattle.entity_types.specs.Functions.{asked, given}
use Rattle.py_tree.specs.Functions.{plain_function}
use Rattle.entity_types.specs.Scopes.{plain_scope}
use Rattle.py_tree.specs.Bounded.{expr_size, exprs_size, links_size}
use Rattle.entity_types.proofs.walk.+walk.Given as goal

abbrev pub invariant-conditions_in-loop-operand : goal.invariant-conditions_in-loop-operand
invariant-conditions_in-loop-operand l = conditions (plain_tables l.tables) (plain_scope l.scope) l.truth (exprs_of (plain_exprs l.operands)) ≡ conditions (plain_tables l.tables) (plain_scope l.known) l.truth (exprs_of (plain_exprs (drop l.operand-index l.operands)))

abbrev pub invariant-arguments_in-loop-i : goal.invariant-arguments_in-loop-i
invariant-arguments_in-loop-i l = arguments (plain_tables l.tables) (plain_scope l.scope) (exprs_of (plain_exprs l.args)) (map plain_sig_param l.params) (plain_ty l.gives) ≡ arguments (plain_tables l.tables) (plain_scope l.scope) (exprs_of (plain_exprs (drop l.i l.args))) (map plain_sig_param (drop l.i l.params)) (plain_ty l.gives)

abbrev pub invariant-each_in-loop-arg : goal.invariant-each_in-loop-arg
invariant-each_in-loop-arg l = each_is (asked (plain_function l.function)) (plain_tables l.tables) (plain_scope l.scope) (exprs_of (plain_exprs l.args)) (given (plain_function l.function)) ≡ each_is (asked (plain_function l.function)) (plain_tables l.tables) (plain_scope l.scope) (exprs_of (plain_exprs (drop l.arg-index l.args))) (given (plain_function l.function))

abbrev pub invariant-elements_in-loop-item : goal.invariant-elements_in-loop-item
invariant-elements_in-loop-item l = elements (plain_tables l.tables) (plain_scope l.scope) (plain_ty l.element) (exprs_of (plain_exprs l.items)) ≡ elements (plain_tables l.tables) (plain_scope l.scope) (plain_ty l.element) (exprs_of (plain_exprs (drop l.item-index l.items)))

abbrev pub invariant-chain_in-loop-link : goal.invariant-chain_in-loop-link
invariant-chain_in-loop-link l = linked (plain_tables l.tables) (plain_scope l.scope) (plain_ty l.fn.first) (links_of (plain_links l.links)) ≡ linked (plain_tables l.tables) (plain_scope l.scope) (plain_ty l.left) (links_of (plain_links (drop l.link-index l.links)))

abbrev pub decreases-type_in : goal.decreases-type_in
decreases-type_in l = 8 * expr_size (plain_expr l.expr.now) + 0

abbrev pub decreases-condition_in : goal.decreases-condition_in
decreases-condition_in l = 8 * expr_size (plain_expr l.test.now) + 1

abbrev pub decreases-conditions_in : goal.decreases-conditions_in
decreases-conditions_in l = 8 * exprs_size (exprs_of (plain_exprs l.operands.now)) + 2

abbrev pub decreases-value_in : goal.decreases-value_in
decreases-value_in l = 8 * expr_size (plain_expr l.expr.now) + 1

abbrev pub decreases-arguments_in : goal.decreases-arguments_in
decreases-arguments_in l = 8 * exprs_size (exprs_of (plain_exprs l.args.now)) + 2

abbrev pub decreases-call_in : goal.decreases-call_in
decreases-call_in l = 8 * (expr_size (plain_expr l.on.now) + exprs_size (exprs_of (plain_exprs l.args.now))) + 3

abbrev pub decreases-apply_in : goal.decreases-apply_in
decreases-apply_in l = 8 * exprs_size (exprs_of (plain_exprs l.args.now)) + 4

abbrev pub decreases-creation_in : goal.decreases-creation_in
decreases-creation_in l = 8 * exprs_size (exprs_of (plain_exprs l.args.now)) + 3

abbrev pub decreases-each_in : goal.decreases-each_in
decreases-each_in l = 8 * exprs_size (exprs_of (plain_exprs l.args.now)) + 1

abbrev pub decreases-index_in : goal.decreases-index_in
decreases-index_in l = 8 * (expr_size (plain_expr l.on.now) + expr_size (plain_expr l.index.now)) + 1

abbrev pub decreases-list_in : goal.decreases-list_in
decreases-list_in l = 8 * exprs_size (exprs_of (plain_exprs l.items.now)) + 3

abbrev pub decreases-elements_in : goal.decreases-elements_in
decreases-elements_in l = 8 * exprs_size (exprs_of (plain_exprs l.items.now)) + 2

abbrev pub decreases-chain_in : goal.decreases-chain_in
decreases-chain_in l = 8 * links_size (links_of (plain_links l.links.now)) + 1

abbrev pub decreases-part_in : goal.decreases-part_in
decreases-part_in l = 8 * expr_size (plain_expr l.part.now) + 1

abbrev pub decreases-choice_in : goal.decreases-choice_in
decreases-choice_in l = 8 * (expr_size (plain_expr l.test.now) + expr_size (plain_expr l.yes.now) + expr_size (plain_expr l.no.now)) + 2

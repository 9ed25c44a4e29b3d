use Rattle.std.specs.Prelude.{not, ◌==◌}
use Rattle.std.proofs.Common.{◌≡◌, ◌+◌, None, length, map, drop, arith, sym, ap, ◌∙◌, subst}
use Rattle.py_tree.specs.declared.rule.RuleFault.{RuleFault}
use Rattle.py_tree.specs.declared.ty.Ty.{Entity}
use Rattle.py_tree.specs.PlainTypes.{plain_ty}
use Rattle.py_tree.specs.PlainExpressions.{PCall, plain_kind, plain_expr, plain_exprs, exprs_of}
use Rattle.py_tree.specs.ExpressionTypes.{type_of, list_of, elements, with_found}
use Rattle.py_tree.proofs.Views.{ty-Entity}
use Rattle.py_tree.proofs.TypeRules.{type-Call}
use Rattle.entity_tables.specs.Views.{plain_sig_param, plain_table, plain_tables}
use Rattle.entity_types.specs.Answers.{Types}
use Rattle.py_tree.specs.Functions.{plain_function}
use Rattle.entity_types.specs.Scopes.{plain_scope}
use Rattle.entity_types.specs.Views.{plain_wanted}
use Rattle.py_tree.proofs.ListWalks.{rest}
use Rattle.py_tree.specs.Bounded.{expr_size, exprs_size}
use Rattle.py_tree.proofs.Sizes.{item_size, link_part, rest_size, size-Call}
use Rattle.entity_types.proofs.WalkLaws.{function_is, creation_typed, argument_stops, list_none, list_from}
use Rattle.entity_types.proofs.walk.+walk.Goals as goal

pub apply_in-returns-in_err-refuse-in-Some : goal.apply_in-returns-in_err-refuse-in-Some
apply_in-returns-in_err-refuse-in-Some t c = grind (arith, function_is (plain_tables c.args.tables.now) (plain_scope c.args.scope.now) (plain_function c.in-Some.function) c.args.place c.args.name.0 c.args.args.now)

pub apply_in-returns-in_ok-refuse-in-Some : goal.apply_in-returns-in_ok-refuse-in-Some
apply_in-returns-in_ok-refuse-in-Some t c = grind (arith, function_is (plain_tables c.args.tables.now) (plain_scope c.args.scope.now) (plain_function c.in-Some.function) c.args.place c.args.name.0 c.args.args.now)

pub arguments_in-value_in-requires : goal.arguments_in-value_in-requires
arguments_in-value_in-requires t c = let h = item_size c.args.args.now c.loop-i.i c.index-args-i.result (omega arith) c.index-args-i.is in omega arith

pub arguments_in-returns-in_err-value_in : goal.arguments_in-returns-in_err-value_in
arguments_in-returns-in_err-value_in t c =
    let stops = λ (f : RuleFault). argument_stops (plain_tables c.args.tables.now) (plain_scope c.args.scope.now) c.args.args.now c.args.params.now c.loop-i.i c.index-args-i.result c.index-params-i.result (plain_ty c.args.gives.now) f (omega arith) c.index-args-i.is (omega arith) c.index-params-i.is in
    grind (arith, stops)

pub chain_in-type_in-requires : goal.chain_in-type_in-requires
chain_in-type_in-requires t c = let h = link_part c.args.links.now c.loop-link.link-index c.link-item.result c.loop-link-test.true c.link-item.is in omega arith

pub conditions_in-condition_in-requires : goal.conditions_in-condition_in-requires
conditions_in-condition_in-requires t c = let h = item_size c.args.operands.now c.loop-operand.operand-index c.operand-item.result c.loop-operand-test.true c.operand-item.is in omega arith

pub creation_in-returns : goal.creation_in-returns
creation_in-returns t c =
    let as_many = ap (λ n. not (length c.args.args.now == n)) (ap length c.as_slice.ensures ∙ sym c.len.ensures) ∙ c.in_ok-refuse.ensures in
    let made = creation_typed (plain_tables c.args.tables.now) (plain_scope c.args.scope.now) c.args.place c.args.class.0 c.args.args.now (plain_table c.in-Some.table.now) c.as_slice.result.now (plain_ty (Entity c.in-Some.table.now.name)) c.in-Some.ensures as_many (ap (map plain_sig_param) c.as_slice.ensures) (ty-Entity c.in-Some.table.now.name) in
    subst (λ m. Types plain_ty m c.arguments_in.result) (sym made) c.arguments_in.ensures

pub each_in-type_in-requires : goal.each_in-type_in-requires
each_in-type_in-requires t c = let h = item_size c.args.args.now c.loop-arg.arg-index c.arg-item.result c.loop-arg-test.true c.arg-item.is in omega arith

pub elements_in-value_in-requires : goal.elements_in-value_in-requires
elements_in-value_in-requires t c = let h = item_size c.args.items.now c.loop-item.item-index c.item-item.result c.loop-item-test.true c.item-item.is in omega arith

pub list_in-type_in-requires : goal.list_in-type_in-requires
list_in-type_in-requires t c = let h = item_size c.args.items.now 0 c.first-item.result (omega arith) c.first-item.is in omega arith

pub list_in-elements_in-requires-in-len1-up : goal.list_in-elements_in-requires-in-len1-up
list_in-elements_in-requires-in-len1-up t c =
    let h = rest_size c.args.items.now in omega arith

pub list_in-returns-in-empty : goal.list_in-returns-in-empty
list_in-returns-in-empty t c = grind (arith, list_none (plain_tables c.args.tables.now) (plain_scope c.args.scope.now) c.args.place c.args.items.now (omega arith))

pub list_in-returns-in_ok-element-in-len1-up : goal.list_in-returns-in_ok-element-in-len1-up
list_in-returns-in_ok-element-in-len1-up t c =
    let tables = plain_tables c.args.tables.now in
    let env = plain_scope c.args.scope.now in
    let items = c.args.items.now in
    let element = plain_ty c.in_ok-element-in-len1-up.element in
    let typed = ap (λ w. list_of tables env (plain_wanted w) c.args.place (exprs_of (plain_exprs items))) c.in_default.is ∙ list_from tables env c.args.place items c.first-item.result (omega arith) c.first-item.is ∙ ap (λ m. with_found m (λ t. elements tables env t (exprs_of (plain_exprs (drop 1 items))))) c.in_ok-element-in-len1-up.ensures ∙ ap (λ ys. elements tables env element (exprs_of (plain_exprs ys))) (sym (rest items)) in
    subst (λ m. Types plain_ty m c.elements_in-in-len1-up.result) (sym typed) c.elements_in-in-len1-up.ensures

pub type_in-call_in-requires : goal.type_in-call_in-requires
type_in-call_in-requires t c =
    let size : expr_size (plain_expr c.args.expr.now) ≡ 1 + expr_size (plain_expr c.deref-in-Call.result.now) + exprs_size (exprs_of (plain_exprs c.as_slice.result.now)) = ap (λ k. expr_size (plain_kind k c.args.expr.now.place)) c.in-Call.is ∙ size-Call c.args.expr.now.place c.in-Call.on c.in-Call.name c.in-Call.args ∙ (λ j. 1 + expr_size (plain_expr (sym c.deref-in-Call.ensures j)) + exprs_size (exprs_of (plain_exprs (sym c.as_slice.ensures j)))) in
    omega arith

pub type_in-returns-in-Call : goal.type_in-returns-in-Call
type_in-returns-in-Call t c =
    let tables = plain_tables c.args.tables.now in
    let env = plain_scope c.args.scope.now in
    let name = c.in-Call.name in
    let typed = ap (λ k. type_of tables env (plain_wanted c.args.wanted) (plain_kind k c.args.expr.now.place)) c.in-Call.is ∙ type-Call c.args.expr.now.place tables env (plain_wanted c.args.wanted) c.in-Call.on name c.in-Call.args ∙ (λ j. type_of tables env None (PCall (sym c.deref-in-Call.ensures j).place (plain_expr (sym c.deref-in-Call.ensures j)) name.name.0 name.place (exprs_of (plain_exprs (sym c.as_slice.ensures j))))) in
    subst (λ m. Types plain_ty m c.call_in.result) (sym typed) c.call_in.ensures

pub list_in-returns-in_err-element-in-len1-up : goal.list_in-returns-in_err-element-in-len1-up
list_in-returns-in_err-element-in-len1-up t c = grind (arith, list_from (plain_tables c.args.tables.now) (plain_scope c.args.scope.now) c.args.place c.args.items.now c.first-item.result (omega arith) c.first-item.is)

use Rattle.std.proofs.Common.{rules, ◌≡◌, ◌+◌, ◌++◌, ◌∷◌, [], arith, true, false, None, drop, sym, ap, ◌∙◌}
use Rattle.std.specs.Prelude.{is_none}
use Rattle.std.proofs.lemmas.List.{map-append}
use Rattle.py_tree.specs.PlainTypes.{TBool, plain_ty}
use Rattle.py_tree.specs.Bounded.{expr_size, exprs_size}
use Rattle.py_tree.proofs.Views.{expr_views, ty-Bool}
use Rattle.call_graph.specs.SuspendingCode.{expr_suspends}
use Rattle.py_tree.specs.PlainExpressions.{PBool, PIndex, PNeg, PPos, PNot, PCompare, PIsNone, plain_kind, plain_expr, plain_exprs, exprs_of, plain_link, plain_links, links_of}
use Rattle.py_tree.specs.ExpressionTypes.{function_of, place_of}
use Rattle.py_tree.proofs.TypeRules.{place-expr}
use Rattle.py_tree.proofs.ListWalks.{exprs_from, exprs_end, links_from, links_end}
use Rattle.entity_types.specs.Views.{plain_locals, plain_wanted}
use Rattle.py_tree.proofs.Sizes.{item_size, link_part, size-Call}
use Rattle.flat_tree.specs.PlainFlat.{FNot, FAnd, FOr, plain_flat_test, plain_flat_stmt, plain_flat_stmts, plain_operand, plain_operands}
use Rattle.hoisting.specs.HoistExpressions.{still, built, so_far, chain_of, made_of, truth_of, settled, lasts, with_args, by_function, apply_of, taken_each, taken_links, taken_operands, forms}
use Rattle.hoisting.specs.Views.{plain_stage, context_of, leaves_of, ty_in, hoisted_at, each_at, call_at}
use Rattle.expression_hoister.specs.Ways.{PlainWay, way_where, choice_of, junction, kept_form, each_form}
use Rattle.expression_hoister.specs.ExpressionViews.{run_at, plain_tested, plain_way, plain_each_wanted}
use Rattle.expression_hoister.proofs.AnswerLaws.{ok_as, less_is}
use Rattle.expression_hoister.proofs.KindLaws.{turned, kept_settled, run_so_far, not_so, chosen_is, is_leaf, is_junction, value-Neg, value-Pos, value-Not, value-IsNone, value-Index, value-Compare, value-List, value-Call, value-Apply, value-Cond, value-Chain, value-And, value-Or, value_leaf, test_by_value, test-Not, test-And, test-Or}
use Rattle.expression_hoister.proofs.KindViews.{is-Neg, is-Pos, is-Not, is-IsNone, is-Index, is-Compare, is-Cond, is-List, is-And, is-Or, is-Apply, is-Call, is-Chain}
use Rattle.expression_hoister.proofs.InRow.{after_each, after_operands, each_taken, each_more, each_done, links_more, links_done, operands_more, operands_done}
use Rattle.expression_hoister.proofs.exprs.+hoist.Goals as goal

pub apply-returns : goal.apply-returns
apply-returns t c =
    let leaves = leaves_of c.args.setting.now in
    let here = context_of c.args.setting.now in
    let name = c.args.name.0 in
    let args = exprs_of (plain_exprs c.args.args.now) in
    let start = plain_stage c.args.stage.now in
    let wanted_is : plain_each_wanted c.as_slice.result.now ≡ by_function here (function_of name) name = ap plain_each_wanted c.as_slice.ensures ∙ c.in_ok-wanted.ensures in
    let args_are : each_at c.in_ok-args.args c.each.new.stage ≡ each_form leaves here (by_function here (function_of name) name) args start =
    c.in_ok-args.ensures ∙ (λ j. taken_each leaves here (wanted_is j) (exprs_of (plain_exprs (c.as_slice-2.ensures j))) start) ∙ sym (each_taken leaves here (by_function here (function_of name) name) args start) in
    ok_as c.finish_apply.result (λ made. hoisted_at made c.finish_apply.new.stage) _ _ (λ j. apply_of here (is_none (function_of name)) c.args.expr.now.place (c.in_ok-ty.ensures j) name (args_are j)) c.finish_apply.ensures

pub call_parts-returns : goal.call_parts-returns
call_parts-returns t c =
    let leaves = leaves_of c.args.setting.now in
    let here = context_of c.args.setting.now in
    let ws = plain_each_wanted c.args.wanted.now in
    let args = exprs_of (plain_exprs c.args.args.now) in
    let on = plain_expr c.args.on.now in
    let start = plain_stage c.args.stage.now in
    let between = plain_stage c.kept_value.new.stage in
    let first : hoisted_at c.in_ok-on.on c.kept_value.new.stage ≡ kept_form leaves here _ None on start = c.in_ok-on.ensures ∙ ap (λ b. kept_form leaves here b None on start) c.any_suspends-later.ensures in
    let second : each_at c.in_ok-args.args c.each.new.stage ≡ each_form leaves here ws args between =
    c.in_ok-args.ensures ∙ ap (λ es. taken_each leaves here ws (exprs_of (plain_exprs es)) between) c.as_slice.ensures ∙ sym (each_taken leaves here ws args between) in
    ok_as c.call_with.result (λ made. call_at made c.each.new.stage) _ _ (turned with_args (hoisted_at c.in_ok-on.on c.kept_value.new.stage) _ (each_at c.in_ok-args.args c.each.new.stage) (λ g. each_form leaves here ws args g) first second) c.call_with.ensures

pub each-kept_value-requires : goal.each-kept_value-requires
each-kept_value-requires t c = let h = item_size c.args.items.now c.loop-i.i c.index-items-i.result c.loop-i-test.true c.index-items-i.is in omega (arith, h)

pub each-loop-i-preserved : goal.each-loop-i-preserved
each-loop-i-preserved t c =
    let leaves = leaves_of c.args.setting.now in
    let here = context_of c.args.setting.now in
    let i = c.loop-i.i in
    let items = c.args.items.now in
    let made = hoisted_at c.in_ok-made.made c.kept_value.new.stage in
    let xs = exprs_of (plain_exprs (drop (i + 1) items)) in
    let appended : plain_flat_stmts c.append.new.self ≡ plain_flat_stmts c.loop-i.before ++ made.before = ap plain_flat_stmts c.in_ok-append.ensures.ok ∙ map-append plain_flat_stmt c.loop-i.before c.in_ok-made.made.before in
    let pushed : plain_exprs c.push.new.self ≡ plain_exprs c.loop-i.rest ++ made.rest ∷ [] = ap plain_exprs c.in_ok-push.ensures.ok ∙ map-append plain_expr c.loop-i.rest (c.in_ok-made.made.rest ∷ []) in
    (λ j. after_each (appended j) (pushed j) (taken_each leaves here (plain_each_wanted (drop (i + 1) c.args.wanted.now)) xs made.stage))
    ∙ each_more leaves here _ c.args.wanted.now i (plain_flat_stmts c.loop-i.before) (plain_exprs c.loop-i.rest) (plain_stage c.loop-i.stage) (plain_expr c.index-items-i.result) xs (exprs_of (plain_exprs (drop i items))) _ _ (exprs_from items i c.index-items-i.result c.loop-i-test.true c.index-items-i.is) (less_is (i + 1) c.up_to_last-count.result _ (c.up_to_last-count.ensures.before (i + 1)) (c.up_to_last-count.ensures.behind (i + 1))) c.wanted_at.ensures made c.in_ok-made.ensures c.loop-i.invariant

pub each-returns : goal.each-returns
each-returns t c =
    each_done (leaves_of c.args.setting.now) (context_of c.args.setting.now) _ c.args.wanted.now c.loop-i.i (plain_flat_stmts c.loop-i.before) (plain_exprs c.loop-i.rest) (plain_stage c.loop-i.stage) (exprs_of (plain_exprs (drop c.loop-i.i c.args.items.now))) (exprs_end c.args.items.now c.loop-i.i c.loop-i-test.false) c.loop-i.invariant

pub kept_value-returns : goal.kept_value-returns
kept_value-returns t c =
    let leaves = leaves_of c.args.setting.now in
    let here = context_of c.args.setting.now in
    let e = plain_expr c.args.expr.now in
    let wanted = plain_wanted c.args.wanted in
    let start = plain_stage c.args.stage.now in
    let known : settled c.args.expr.now.place (plain_ty c.in_ok-ty.ty) (hoisted_at c.in_ok-hoisted.hoisted c.value-2.new.stage) ≡ settled (place_of e) (ty_in c.args.setting.now start.locals wanted e) ((forms leaves here e).value wanted start) =
    λ j. settled (sym (place-expr c.args.expr.now) j) (c.in_ok-ty.ensures j) (c.in_ok-hoisted.ensures j) in
    let off : lasts leaves e ≡ false = sym c.lasts.ensures ∙ c.if-lasts.false in
    ok_as c.settle.result (λ made. hoisted_at made c.settle.new.stage) _ _ (known ∙ kept_settled c.args.later (lasts leaves e) (place_of e) (ty_in c.args.setting.now start.locals wanted e) ((forms leaves here e).value wanted start) c.if-not-later.false off) c.settle.ensures

pub linked-link_on-requires : goal.linked-link_on-requires
linked-link_on-requires t c = let h = link_part c.args.links.now c.loop-link.link-index c.link-item.result c.loop-link-test.true c.link-item.is in omega (arith, h)

pub linked-loop-link-preserved : goal.linked-loop-link-preserved
linked-loop-link-preserved t c =
    let leaves = leaves_of c.args.setting.now in
    let here = context_of c.args.setting.now in
    let i = c.loop-link.link-index in
    let links = c.args.links.now in
    let ty = plain_ty c.args.ty.now in
    let more = links_of (plain_links (drop (i + 1) links)) in
    let run = run_at c.loop-link.made c.loop-link.stage in
    ap (taken_links leaves here c.args.place ty more) c.in_ok-made.ensures ∙ sym (links_more leaves here c.args.place ty (plain_link c.link-item.result) more run)
    ∙ sym (ap (λ ls. taken_links leaves here c.args.place ty ls run) (links_from links i c.link-item.result c.loop-link-test.true c.link-item.is)) ∙ c.loop-link.invariant

pub linked-returns : goal.linked-returns
linked-returns t c =
    let leaves = leaves_of c.args.setting.now in
    let here = context_of c.args.setting.now in
    let ty = plain_ty c.args.ty.now in
    let run = run_at c.loop-link.made c.loop-link.stage in
    sym (links_done leaves here c.args.place ty run) ∙ sym (ap (λ ls. taken_links leaves here c.args.place ty ls run) (links_end c.args.links.now c.loop-link.link-index c.loop-link-test.false)) ∙ c.loop-link.invariant

pub operands-operand-requires : goal.operands-operand-requires
operands-operand-requires t c = let h = item_size c.args.items.now c.loop-item.item-index c.item-item.result c.loop-item-test.true c.item-item.is in omega (arith, h)

pub operands-loop-item-preserved : goal.operands-loop-item-preserved
operands-loop-item-preserved t c =
    let leaves = leaves_of c.args.setting.now in
    let here = context_of c.args.setting.now in
    let i = c.loop-item.item-index in
    let items = c.args.items.now in
    let xs = exprs_of (plain_exprs (drop (i + 1) items)) in
    let pushed : plain_operands c.push.new.self ≡ plain_operands c.loop-item.made ++ plain_operand c.in_ok-operand.field-0 ∷ [] = ap plain_operands c.in_ok-push.ensures.ok ∙ map-append plain_operand c.loop-item.made (c.in_ok-operand.field-0 ∷ []) in
    (λ j. after_operands (pushed j) (taken_operands leaves here c.args.truth xs (plain_stage c.operand.new.stage)))
    ∙ operands_more leaves here _ c.args.truth (plain_operands c.loop-item.made) (plain_stage c.loop-item.here) (plain_expr c.item-item.result) xs (exprs_of (plain_exprs (drop i items))) (exprs_from items i c.item-item.result c.loop-item-test.true c.item-item.is) (plain_operand c.in_ok-operand.field-0) (plain_stage c.operand.new.stage) c.in_ok-operand.ensures.operand c.in_ok-operand.ensures.behind c.loop-item.invariant

pub operands-returns : goal.operands-returns
operands-returns t c =
    operands_done (leaves_of c.args.setting.now) (context_of c.args.setting.now) _ c.args.truth (plain_operands c.loop-item.made) (plain_stage c.loop-item.here) (exprs_of (plain_exprs (drop c.loop-item.item-index c.args.items.now))) (exprs_end c.args.items.now c.loop-item.item-index c.loop-item-test.false) c.loop-item.invariant

pub run-returns : goal.run-returns
run-returns t c =
    let leaves = leaves_of c.args.setting.now in
    let here = context_of c.args.setting.now in
    let at = c.args.place in
    let known : run_at c.in_ok-made.made c.linked.new.stage ≡ _ =
    c.in_ok-made.ensures ∙ (λ j. taken_links leaves here at (c.in_ok-ty.ensures j) (links_of (plain_links (c.as_slice.ensures j))) ((c.run_of-start.ensures ∙ (λ k. chain_of (c.lasts.ensures k) (c.in_ok-left.ensures k))) j)) in
    ok_as c.so_far.result (λ made. hoisted_at made c.linked.new.stage) _ _ (ap (so_far at) known ∙ run_so_far leaves here at (plain_expr c.args.first.now) c.args.links.now (plain_stage c.args.stage.now) (not_so c.is_empty.result c.is_empty.ensures c.if-is_empty.false)) c.so_far.ensures

pub truth-returns : goal.truth-returns
truth-returns t c =
    let leaves = leaves_of c.args.setting.now in
    let here = context_of c.args.setting.now in
    let x = c.args.expr.now in
    let e = plain_expr x in
    let locals = plain_locals c.args.stage.now.locals in
    let tested : plain_tested c.junction-tested.result ≡ _ = c.junction-tested.ensures ∙ ap (made_of (junction c.args.is_and)) (c.in_ok-tested.ensures ∙ ap (λ es. taken_operands leaves here c.args.is_and (exprs_of (plain_exprs es)) (plain_stage c.args.stage.now)) c.as_slice.ensures) in
    let holds : plain_way c.in_ok-holds.holds ≡ way_where true e locals c.junction-tested.result.next (λ g. still (PBool x.place true) g) = c.in_ok-holds.ensures in
    let fails : plain_way c.in_ok-fails.fails ≡ way_where false e locals c.in_ok-holds.holds.next (λ g. still (PBool x.place false) g) = c.in_ok-fails.ensures ∙ ap (λ n. way_where false e locals n (λ g. still (PBool x.place false) g)) (sym (ap (λ (w : PlainWay). w.next) holds)) in
    ok_as c.choose.result (λ made. hoisted_at made c.choose.new.stage) _ _
    (ap (λ ty. choice_of x.place ty locals (plain_flat_test c.junction-tested.result.test) (plain_way c.in_ok-holds.holds) (plain_way c.in_ok-fails.fails)) ty-Bool
    ∙ chosen_is x.place TBool locals e (plain_tested c.junction-tested.result) (plain_way c.in_ok-holds.holds) (plain_way c.in_ok-fails.fails) (λ g. still (PBool x.place true) g) (λ g. still (PBool x.place false) g) holds fails
    ∙ ap (λ t. truth_of x.place locals e t) tested)
    c.choose.ensures

pub test-returns-in_ok-tested-in-Not : goal.test-returns-in_ok-tested-in-Not
test-returns-in_ok-tested-in-Not t c =
    let leaves = leaves_of c.args.setting.now in
    let here = context_of c.args.setting.now in
    let x = c.args.expr.now in
    let start = plain_stage c.args.stage.now in
    let asks : expr_suspends leaves (plain_expr x) ≡ true = sym c.suspends.ensures ∙ c.if-not-suspends.false in
    ok_as c.not_test.result plain_tested _ _ (ap (made_of FNot) c.in_ok-tested-in-Not.ensures ∙ test-Not leaves here start x.place (plain_expr c.deref.result.now) (plain_expr x) (is-Not x c.in-Not.a c.deref.result.now c.in-Not.is c.deref.ensures) asks) c.not_test.ensures

pub test-returns-in_ok-tested-in-And : goal.test-returns-in_ok-tested-in-And
test-returns-in_ok-tested-in-And t c =
    let leaves = leaves_of c.args.setting.now in
    let here = context_of c.args.setting.now in
    let x = c.args.expr.now in
    let start = plain_stage c.args.stage.now in
    let asks : expr_suspends leaves (plain_expr x) ≡ true = sym c.suspends.ensures ∙ c.if-not-suspends.false in
    c.junction.ensures ∙ ap (made_of FAnd) (c.in_ok-tested-in-And.ensures ∙ ap (λ es. taken_operands leaves here true (exprs_of (plain_exprs es)) start) c.as_slice.ensures) ∙ test-And leaves here start x.place (exprs_of (plain_exprs c.in-And.items)) (plain_expr x) (is-And x c.in-And.items c.in-And.is) asks

pub test-returns-in_ok-tested-in-Or : goal.test-returns-in_ok-tested-in-Or
test-returns-in_ok-tested-in-Or t c =
    let leaves = leaves_of c.args.setting.now in
    let here = context_of c.args.setting.now in
    let x = c.args.expr.now in
    let start = plain_stage c.args.stage.now in
    let asks : expr_suspends leaves (plain_expr x) ≡ true = sym c.suspends.ensures ∙ c.if-not-suspends.false in
    c.junction-in-Or.ensures ∙ ap (made_of FOr) (c.in_ok-tested-in-Or.ensures ∙ ap (λ es. taken_operands leaves here false (exprs_of (plain_exprs es)) start) c.as_slice-in-Or.ensures) ∙ test-Or leaves here start x.place (exprs_of (plain_exprs c.in-Or.items)) (plain_expr x) (is-Or x c.in-Or.items c.in-Or.is) asks

pub test-returns-in-Int : goal.test-returns-in-Int
test-returns-in-Int t c =
    let x = c.args.expr.now in
    let no : is_junction (plain_expr x) ≡ false = search (rules, c.in-Int.is, expr_views) in
    ok_as c.by_value-in-Int.result plain_tested _ _ (test_by_value (leaves_of c.args.setting.now) (context_of c.args.setting.now) (plain_expr x) (plain_stage c.args.stage.now) no) c.by_value-in-Int.ensures

pub value-call-requires : goal.value-call-requires
value-call-requires t c =
    let size : expr_size (plain_expr c.args.expr.now) ≡ 1 + expr_size (plain_expr c.deref.result.now) + exprs_size (exprs_of (plain_exprs c.in-Call.args)) = ap (λ k. expr_size (plain_kind k c.args.expr.now.place)) c.in-Call.is ∙ size-Call c.args.expr.now.place c.in-Call.on c.in-Call.name c.in-Call.args ∙ (λ j. 1 + expr_size (plain_expr (sym c.deref.ensures j)) + exprs_size (exprs_of (plain_exprs c.in-Call.args))) in
    omega (arith, size)

pub value-returns-in-Call : goal.value-returns-in-Call
value-returns-in-Call t c =
    let leaves = leaves_of c.args.setting.now in
    let here = context_of c.args.setting.now in
    let x = c.args.expr.now in
    let start = plain_stage c.args.stage.now in
    let asks : expr_suspends leaves (plain_expr x) ≡ true = sym c.suspends.ensures ∙ c.if-not-suspends.false in
    let wanted = plain_wanted c.args.wanted in
    ok_as c.call.result (λ made. hoisted_at made c.call.new.stage) _ _ (value-Call leaves here wanted start x.place (plain_expr c.deref.result.now) c.in-Call.name.name.0 c.in-Call.name.place (exprs_of (plain_exprs c.in-Call.args)) (plain_expr x) (is-Call x c.in-Call.name c.in-Call.args c.in-Call.on c.deref.result.now c.in-Call.is c.deref.ensures) asks) c.call.ensures

pub value-returns-in-Apply : goal.value-returns-in-Apply
value-returns-in-Apply t c =
    let leaves = leaves_of c.args.setting.now in
    let here = context_of c.args.setting.now in
    let x = c.args.expr.now in
    let start = plain_stage c.args.stage.now in
    let asks : expr_suspends leaves (plain_expr x) ≡ true = sym c.suspends.ensures ∙ c.if-not-suspends.false in
    let wanted = plain_wanted c.args.wanted in
    ok_as c.apply.result (λ made. hoisted_at made c.apply.new.stage) _ _ (value-Apply leaves here wanted start x.place c.in-Apply.name.0 (exprs_of (plain_exprs c.in-Apply.args)) (plain_expr x) (is-Apply x c.in-Apply.name c.in-Apply.args c.in-Apply.is) asks) c.apply.ensures

pub value-returns-in_ok-two-in-Index : goal.value-returns-in_ok-two-in-Index
value-returns-in_ok-two-in-Index t c =
    let leaves = leaves_of c.args.setting.now in
    let here = context_of c.args.setting.now in
    let x = c.args.expr.now in
    let start = plain_stage c.args.stage.now in
    let asks : expr_suspends leaves (plain_expr x) ≡ true = sym c.suspends.ensures ∙ c.if-not-suspends.false in
    let wanted = plain_wanted c.args.wanted in
    ok_as c.indexed.result (λ made. hoisted_at made c.two.new.stage) _ _ (ap (built (λ r. PIndex x.place r.0 r.1)) c.in_ok-two-in-Index.ensures ∙ value-Index leaves here wanted start x.place (plain_expr c.deref-in-Index.result.now) (plain_expr c.deref-in-Index-2.result.now) (plain_expr x) (is-Index x c.in-Index.on c.in-Index.index c.deref-in-Index.result.now c.deref-in-Index-2.result.now c.in-Index.is c.deref-in-Index.ensures c.deref-in-Index-2.ensures) asks) c.indexed.ensures

pub value-returns-in_ok-two-in-Compare : goal.value-returns-in_ok-two-in-Compare
value-returns-in_ok-two-in-Compare t c =
    let leaves = leaves_of c.args.setting.now in
    let here = context_of c.args.setting.now in
    let x = c.args.expr.now in
    let start = plain_stage c.args.stage.now in
    let asks : expr_suspends leaves (plain_expr x) ≡ true = sym c.suspends.ensures ∙ c.if-not-suspends.false in
    let wanted = plain_wanted c.args.wanted in
    ok_as c.compared.result (λ made. hoisted_at made c.two-in-Compare.new.stage) _ _ (ap (built (λ r. PCompare x.place c.in-Compare.op c.in-Compare.op_place r.0 r.1)) c.in_ok-two-in-Compare.ensures ∙ value-Compare leaves here wanted start x.place c.in-Compare.op c.in-Compare.op_place (plain_expr c.deref-in-Compare.result.now) (plain_expr c.deref-in-Compare-2.result.now) (plain_expr x) (is-Compare x c.in-Compare.op c.in-Compare.op_place c.in-Compare.left c.in-Compare.right c.deref-in-Compare.result.now c.deref-in-Compare-2.result.now c.in-Compare.is c.deref-in-Compare.ensures c.deref-in-Compare-2.ensures) asks) c.compared.ensures

pub value-returns-in-List : goal.value-returns-in-List
value-returns-in-List t c =
    let leaves = leaves_of c.args.setting.now in
    let here = context_of c.args.setting.now in
    let x = c.args.expr.now in
    let start = plain_stage c.args.stage.now in
    let asks : expr_suspends leaves (plain_expr x) ≡ true = sym c.suspends.ensures ∙ c.if-not-suspends.false in
    let wanted = plain_wanted c.args.wanted in
    ok_as c.list.result (λ made. hoisted_at made c.list.new.stage) _ _ (value-List leaves here wanted start x.place (exprs_of (plain_exprs c.in-List.items)) (plain_expr x) (is-List x c.in-List.items c.in-List.is) asks) c.list.ensures

pub value-returns-in_ok-a-in-Neg : goal.value-returns-in_ok-a-in-Neg
value-returns-in_ok-a-in-Neg t c =
    let leaves = leaves_of c.args.setting.now in
    let here = context_of c.args.setting.now in
    let x = c.args.expr.now in
    let start = plain_stage c.args.stage.now in
    let asks : expr_suspends leaves (plain_expr x) ≡ true = sym c.suspends.ensures ∙ c.if-not-suspends.false in
    let wanted = plain_wanted c.args.wanted in
    ok_as c.negated.result (λ made. hoisted_at made c.value.new.stage) _ _ (ap (built (PNeg x.place)) c.in_ok-a-in-Neg.ensures ∙ value-Neg leaves here wanted start x.place (plain_expr c.deref-in-Neg.result.now) (plain_expr x) (is-Neg x c.in-Neg.a c.deref-in-Neg.result.now c.in-Neg.is c.deref-in-Neg.ensures) asks) c.negated.ensures

pub value-returns-in_ok-a-in-Pos : goal.value-returns-in_ok-a-in-Pos
value-returns-in_ok-a-in-Pos t c =
    let leaves = leaves_of c.args.setting.now in
    let here = context_of c.args.setting.now in
    let x = c.args.expr.now in
    let start = plain_stage c.args.stage.now in
    let asks : expr_suspends leaves (plain_expr x) ≡ true = sym c.suspends.ensures ∙ c.if-not-suspends.false in
    let wanted = plain_wanted c.args.wanted in
    ok_as c.posed.result (λ made. hoisted_at made c.value-in-Pos.new.stage) _ _ (ap (built (PPos x.place)) c.in_ok-a-in-Pos.ensures ∙ value-Pos leaves here wanted start x.place (plain_expr c.deref-in-Pos.result.now) (plain_expr x) (is-Pos x c.in-Pos.a c.deref-in-Pos.result.now c.in-Pos.is c.deref-in-Pos.ensures) asks) c.posed.ensures

pub value-returns-in_ok-a-in-Not : goal.value-returns-in_ok-a-in-Not
value-returns-in_ok-a-in-Not t c =
    let leaves = leaves_of c.args.setting.now in
    let here = context_of c.args.setting.now in
    let x = c.args.expr.now in
    let start = plain_stage c.args.stage.now in
    let asks : expr_suspends leaves (plain_expr x) ≡ true = sym c.suspends.ensures ∙ c.if-not-suspends.false in
    let wanted = plain_wanted c.args.wanted in
    ok_as c.inverted.result (λ made. hoisted_at made c.value-in-Not.new.stage) _ _ (ap (built (PNot x.place)) c.in_ok-a-in-Not.ensures ∙ value-Not leaves here wanted start x.place (plain_expr c.deref-in-Not.result.now) (plain_expr x) (is-Not x c.in-Not.a c.deref-in-Not.result.now c.in-Not.is c.deref-in-Not.ensures) asks) c.inverted.ensures

pub value-returns-in_ok-a-in-IsNone : goal.value-returns-in_ok-a-in-IsNone
value-returns-in_ok-a-in-IsNone t c =
    let leaves = leaves_of c.args.setting.now in
    let here = context_of c.args.setting.now in
    let x = c.args.expr.now in
    let start = plain_stage c.args.stage.now in
    let asks : expr_suspends leaves (plain_expr x) ≡ true = sym c.suspends.ensures ∙ c.if-not-suspends.false in
    let wanted = plain_wanted c.args.wanted in
    ok_as c.none_test.result (λ made. hoisted_at made c.value-in-IsNone.new.stage) _ _ (ap (built (λ r. PIsNone x.place r c.in-IsNone.positive)) c.in_ok-a-in-IsNone.ensures ∙ value-IsNone leaves here wanted start x.place c.in-IsNone.positive (plain_expr c.deref-in-IsNone.result.now) (plain_expr x) (is-IsNone x c.in-IsNone.positive c.in-IsNone.a c.deref-in-IsNone.result.now c.in-IsNone.is c.deref-in-IsNone.ensures) asks) c.none_test.ensures

pub value-returns-in-Chain : goal.value-returns-in-Chain
value-returns-in-Chain t c =
    let leaves = leaves_of c.args.setting.now in
    let here = context_of c.args.setting.now in
    let x = c.args.expr.now in
    let start = plain_stage c.args.stage.now in
    let asks : expr_suspends leaves (plain_expr x) ≡ true = sym c.suspends.ensures ∙ c.if-not-suspends.false in
    let wanted = plain_wanted c.args.wanted in
    ok_as c.run.result (λ made. hoisted_at made c.run.new.stage) _ _ (value-Chain leaves here wanted start x.place (plain_expr c.deref-in-Chain.result.now) (links_of (plain_links c.in-Chain.links)) (plain_expr x) (is-Chain x c.in-Chain.links c.in-Chain.first c.deref-in-Chain.result.now c.in-Chain.is c.deref-in-Chain.ensures) asks) c.run.ensures

pub value-returns-in-And : goal.value-returns-in-And
value-returns-in-And t c =
    let leaves = leaves_of c.args.setting.now in
    let here = context_of c.args.setting.now in
    let x = c.args.expr.now in
    let start = plain_stage c.args.stage.now in
    let asks : expr_suspends leaves (plain_expr x) ≡ true = sym c.suspends.ensures ∙ c.if-not-suspends.false in
    let wanted = plain_wanted c.args.wanted in
    ok_as c.truth.result (λ made. hoisted_at made c.truth.new.stage) _ _ (value-And leaves here wanted start x.place (exprs_of (plain_exprs c.in-And.items)) (plain_expr x) (is-And x c.in-And.items c.in-And.is) asks) c.truth.ensures

pub value-returns-in-Or : goal.value-returns-in-Or
value-returns-in-Or t c =
    let leaves = leaves_of c.args.setting.now in
    let here = context_of c.args.setting.now in
    let x = c.args.expr.now in
    let start = plain_stage c.args.stage.now in
    let asks : expr_suspends leaves (plain_expr x) ≡ true = sym c.suspends.ensures ∙ c.if-not-suspends.false in
    let wanted = plain_wanted c.args.wanted in
    ok_as c.truth-in-Or.result (λ made. hoisted_at made c.truth-in-Or.new.stage) _ _ (value-Or leaves here wanted start x.place (exprs_of (plain_exprs c.in-Or.items)) (plain_expr x) (is-Or x c.in-Or.items c.in-Or.is) asks) c.truth-in-Or.ensures

pub value-returns-in-Cond : goal.value-returns-in-Cond
value-returns-in-Cond t c =
    let leaves = leaves_of c.args.setting.now in
    let here = context_of c.args.setting.now in
    let x = c.args.expr.now in
    let start = plain_stage c.args.stage.now in
    let asks : expr_suspends leaves (plain_expr x) ≡ true = sym c.suspends.ensures ∙ c.if-not-suspends.false in
    let wanted = plain_wanted c.args.wanted in
    ok_as c.cond.result (λ made. hoisted_at made c.cond.new.stage) _ _ (value-Cond leaves here wanted start x.place (plain_expr c.deref-in-Cond.result.now) (plain_expr c.deref-in-Cond-2.result.now) (plain_expr c.deref-in-Cond-3.result.now) (plain_expr x) (is-Cond x c.in-Cond.test c.in-Cond.yes c.in-Cond.no c.deref-in-Cond.result.now c.deref-in-Cond-2.result.now c.deref-in-Cond-3.result.now c.in-Cond.is c.deref-in-Cond.ensures c.deref-in-Cond-2.ensures c.deref-in-Cond-3.ensures) asks) c.cond.ensures

pub value-returns-in-Int : goal.value-returns-in-Int
value-returns-in-Int t c =
    let x = c.args.expr.now in
    let no : is_leaf (plain_expr x) ≡ true = search (rules, c.in-Int.is, expr_views) in
    ok_as c.still-in-Int.result (λ made. hoisted_at made c.args.stage.now) _ _ (value_leaf (leaves_of c.args.setting.now) (context_of c.args.setting.now) (plain_expr x) (plain_wanted c.args.wanted) (plain_stage c.args.stage.now) no) c.still-in-Int.ensures

use Rattle.std.proofs.Common.{◌≡◌, ◌+◌, ◌-◌, ◌<◌, arith, true, false, length, take, refl, sym, ap, ◌∙◌}
use Rattle.py_tree.specs.PlainStatements.{plain_stmt}
use Rattle.method_splitter.specs.Rests.{begins_with_code, code_from_end}
use Rattle.method_splitter.proofs.OtherOrder.{last_is, last_set, last_is_code, has_items, before_last, before_others}
use Rattle.method_splitter.proofs.rest.add_statement.Goals as goal

pub add_to_item-requires : goal.add_to_item-requires
add_to_item-requires c =
    let items = c.args.code.now in
    let begins : begins_with_code (code_from_end items) ≡ true = ap (λ l. begins_with_code (code_from_end l)) (sym c.as_slice.ensures) ∙ sym c.begins_with_code.ensures ∙ c.if-begins_with_code.true in
    let some : 0 < length items = has_items items begins in
    let count : c.len-last.result - 1 + 1 ≡ length items = omega (arith, some, c.len-last.ensures) in
    last_is_code items (c.len-last.result - 1) c.at_mut.result.now count c.at_mut.ensures.value ∙ begins

pub returns-then-begins_with_code : goal.returns-then-begins_with_code
returns-then-begins_with_code c =
    let items = c.args.code.now in
    let i = c.len-last.result - 1 in
    let item = c.at_mut.result.now in
    let begins : begins_with_code (code_from_end items) ≡ true = ap (λ l. begins_with_code (code_from_end l)) (sym c.as_slice.ensures) ∙ sym c.begins_with_code.ensures ∙ c.if-begins_with_code.true in
    let some : 0 < length items = has_items items begins in
    let count : i + 1 ≡ length items = omega (arith, some, c.len-last.ensures) in
    let is = last_is items i item count c.at_mut.ensures.value in
    before_last items (take i items) item c.add_to_item.new.item (plain_stmt c.args.stmt) is (last_is_code items i item count c.at_mut.ensures.value ∙ begins) c.in_ok-add_to_item.ensures _ (last_set items (take i items) i item c.add_to_item.new.item is count)

pub returns : goal.returns
returns c =
    let items = c.args.code.now in
    let others : begins_with_code (code_from_end items) ≡ false = ap (λ l. begins_with_code (code_from_end l)) (sym c.as_slice.ensures) ∙ sym c.begins_with_code.ensures ∙ c.if-begins_with_code.false in
    before_others items c.push-2.new.self c.new-stmts.result c.push.new.self c.args.stmt _ others c.new-stmts.ensures c.in_ok-push.ensures.ok refl c.in_ok-push-2.ensures.ok

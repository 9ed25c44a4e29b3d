use Rattle.std.proofs.Common.{rules, ◌≡◌, ◌+◌, ◌-◌, ◌<◌, ◌≤◌, arith, length, [], ◌∷◌, ◌++◌, slice_set, true, false, sym, ap, subst, ◌∙◌}
use Rattle.std.proofs.lemmas.List.{length-map}
use Rattle.std.proofs.lemmas.Result.{err_from_is_err_and}
use Rattle.block_code.specs.PlainVars.{plain_vars}
use Rattle.block_code.specs.PlainBlocks.{plain_blocks}
use Rattle.py_tree.specs.PlainStatements.{plain_option}
use Rattle.py_tree.specs.PlainExpressions.{plain_expr, plain_exprs, exprs_of}
use Rattle.flat_tree.specs.PlainFlat.{FIf, FWhile, FTry, FLeaf, FNot, FAnd, FOr, flat_stmts_of, flat_arms_of, flat_clauses_of, operands_of, plain_flat_stmt, plain_flat_stmts, plain_flat_arm, plain_flat_arms, plain_flat_clause, plain_flat_clauses, plain_flat_test, plain_operand, plain_operands}
use Rattle.flat_tree.proofs.FlatViews.{flat_views, flat-Call, flat-Make, flat-If, flat-While, flat-Try, test-Leaf, test-Not, test-And, test-Or}
use Rattle.method_splitter.specs.Split as spec
use Rattle.method_splitter.specs.SmallStatements.{reached_part, is_small}
use Rattle.method_splitter.specs.Numbering.{Made, rank_below}
use Rattle.method_splitter.specs.Rests.{plain_target, plain_rest, plain_caughts, plain_around}
use Rattle.method_splitter.proofs.FromTheEnd.{taken_long, part_from, all_from, stmts_begin, stmts_fail_from, stmts_more_from, stmts_whole, arms_begin, arm_more, arms_fail_from, clauses_begin, clause_more, clauses_fail_from, and_begins, or_begins, and_more, or_more, and_fail_from, or_fail_from}
use Rattle.method_splitter.proofs.StatementsMade.{endless_made, head_made, small_made, call_made, call_fails, make_made, make_fails, if_makes, if_fails_joining, if_fails_copied, while_fails_joining, endless_makes, while_fails_copied, while_fails_heading, while_fails_turning, while_made, try_fails_joining, try_fails_clauses, try_makes, guarded_fails_lodging, leaf_makes, not_makes, and_makes, or_makes}
use Rattle.method_splitter.proofs.walk.+split.Goals as goal

-- Statements in a row

pub split_all-loop-at-init : goal.split_all-loop-at-init
split_all-loop-at-init t c =
    let n = c.reached-at.result in
    let part = reached_part (plain_flat_stmts c.args.stmts.now) in
    let past : length part ≤ n = subst (λ l. length l ≤ n) c.reached-at.ensures.part (taken_long plain_flat_stmt c.args.stmts.now n) in
    record { within = omega arith; made = stmts_begin (plain_around c.args.around.now) (plain_rest c.args.rest) (plain_blocks c.args.blocks.now) part n past c.requires.ready }

pub split_all-loop-at-preserved : goal.split_all-loop-at-preserved
split_all-loop-at-preserved t c =
    let stmts = c.args.stmts.now in
    let i = c.loop-at.at - 1 in
    let some : 0 < c.loop-at.at = c.loop-at-test.true in
    let next : i + 1 ≡ c.loop-at.at = omega (arith, some) in
    let low : c.loop-at.at ≤ c.reached-at.result = c.loop-at.invariant.within in
    let from = part_from plain_flat_stmt stmts (reached_part (plain_flat_stmts stmts)) c.reached-at.result i c.loop-at.at c.index-stmts-at.result c.reached-at.ensures.part c.reached-at.ensures.within next low c.index-stmts-at.is in
    record {
      within = omega (arith, low);
      made = stmts_more_from (plain_around c.args.around.now) (plain_rest c.args.rest) (plain_blocks c.args.blocks.now) (plain_flat_stmts stmts) i (plain_flat_stmt c.index-stmts-at.result) _ (plain_blocks c.loop-at.blocks) (plain_blocks c.split_stmt.new.blocks) (plain_rest c.loop-at.rest) (plain_rest c.in_ok-rest.rest) _ _ from c.loop-at.invariant.made c.in_ok-rest.ensures;
    }

pub split_all-returns-in_err-rest : goal.split_all-returns-in_err-rest
split_all-returns-in_err-rest t c =
    let stmts = c.args.stmts.now in
    let i = c.loop-at.at - 1 in
    let some : 0 < c.loop-at.at = c.loop-at-test.true in
    let next : i + 1 ≡ c.loop-at.at = omega (arith, some) in
    let low : c.loop-at.at ≤ c.reached-at.result = c.loop-at.invariant.within in
    let from = part_from plain_flat_stmt stmts (reached_part (plain_flat_stmts stmts)) c.reached-at.result i c.loop-at.at c.index-stmts-at.result c.reached-at.ensures.part c.reached-at.ensures.within next low c.index-stmts-at.is in
    let back = err_from_is_err_and c.from_residual.result c.from_residual.ensures.1 in
    rw (back.1, back.2)
    (stmts_fail_from (plain_around c.args.around.now) (plain_rest c.args.rest) (plain_blocks c.args.blocks.now) (plain_flat_stmts stmts) i (plain_flat_stmt c.index-stmts-at.result) _ (plain_blocks c.loop-at.blocks) (plain_rest c.loop-at.rest) _ _ c.requires.ready.few from c.loop-at.invariant.made c.in_err-rest.ensures)

pub split_all-returns : goal.split_all-returns
split_all-returns t c =
    stmts_whole (plain_around c.args.around.now) (plain_rest c.args.rest) (plain_blocks c.args.blocks.now) (plain_flat_stmts c.args.stmts.now) c.loop-at.at (plain_blocks c.loop-at.blocks) (plain_rest c.loop-at.rest) _ (omega arith) c.loop-at.invariant.made

-- Arms

pub split_arms-loop-at-init : goal.split_arms-loop-at-init
split_arms-loop-at-init t c =
    let n = length c.args.arms.now in
    let long : length (plain_flat_arms c.args.arms.now) ≡ n = length-map c.args.arms.now plain_flat_arm in
    record { within = omega arith; made = arms_begin (plain_around c.args.around.now) (plain_rest c.args.join.now) (plain_rest c.args.other) (plain_blocks c.args.blocks.now) (plain_flat_arms c.args.arms.now) n (omega (arith, long)) c.requires.ready }

pub split_arms-loop-at-preserved : goal.split_arms-loop-at-preserved
split_arms-loop-at-preserved t c =
    let arms = c.args.arms.now in
    let i = c.loop-at.at - 1 in
    let some : 0 < c.loop-at.at = c.loop-at-test.true in
    let next : i + 1 ≡ c.loop-at.at = omega (arith, some) in
    let low : c.loop-at.at ≤ length arms = c.loop-at.invariant.within in
    let from = all_from plain_flat_arm arms i c.loop-at.at c.index-arms-at.result next low c.index-arms-at.is in
    record {
      within = omega (arith, low);
      made =
          subst (λ l. Made (spec.split_arms (flat_arms_of l) (plain_around c.args.around.now) (plain_rest c.args.join.now) (plain_rest c.args.other)) (plain_blocks c.args.blocks.now) (plain_blocks c.split_arm.new.blocks) (plain_rest c.in_ok-later.later) (spec.rank_of (plain_rest c.in_ok-later.later))) (sym from)
          (arm_more (plain_around c.args.around.now) (plain_rest c.args.join.now) (plain_rest c.args.other) (plain_blocks c.args.blocks.now) (plain_flat_arm c.index-arms-at.result) _ (plain_blocks c.loop-at.blocks) (plain_blocks c.split_arm.new.blocks) (plain_rest c.loop-at.later) (plain_rest c.in_ok-later.later) _ _ c.loop-at.invariant.made c.in_ok-later.ensures);
    }

pub split_arms-returns-in_err-later : goal.split_arms-returns-in_err-later
split_arms-returns-in_err-later t c =
    let arms = c.args.arms.now in
    let i = c.loop-at.at - 1 in
    let some : 0 < c.loop-at.at = c.loop-at-test.true in
    let next : i + 1 ≡ c.loop-at.at = omega (arith, some) in
    let low : c.loop-at.at ≤ length arms = c.loop-at.invariant.within in
    let from = all_from plain_flat_arm arms i c.loop-at.at c.index-arms-at.result next low c.index-arms-at.is in
    let back = err_from_is_err_and c.from_residual.result c.from_residual.ensures.1 in
    rw (back.1, back.2)
    (arms_fail_from (plain_around c.args.around.now) (plain_rest c.args.join.now) (plain_rest c.args.other) (plain_blocks c.args.blocks.now) (plain_flat_arms arms) i (plain_flat_arm c.index-arms-at.result) _ (plain_blocks c.loop-at.blocks) (plain_rest c.loop-at.later) _ _ from c.loop-at.invariant.made c.in_err-later.ensures)

-- Operands

pub split_and-loop-at-init : goal.split_and-loop-at-init
split_and-loop-at-init t c =
    let n = length c.args.operands.now in
    let long : length (plain_operands c.args.operands.now) ≡ n = length-map c.args.operands.now plain_operand in
    record { within = omega arith; made = and_begins (plain_around c.args.around.now) (plain_target c.args.holds) (plain_target c.args.fails) (plain_blocks c.args.blocks.now) (plain_operands c.args.operands.now) n (omega (arith, long)) c.requires.holds }

pub split_and-loop-at-preserved : goal.split_and-loop-at-preserved
split_and-loop-at-preserved t c =
    let operands = c.args.operands.now in
    let i = c.loop-at.at - 1 in
    let some : 0 < c.loop-at.at = c.loop-at-test.true in
    let next : i + 1 ≡ c.loop-at.at = omega (arith, some) in
    let low : c.loop-at.at ≤ length operands = c.loop-at.invariant.within in
    let from = all_from plain_operand operands i c.loop-at.at c.index-operands-at.result next low c.index-operands-at.is in
    record {
      within = omega (arith, low);
      made =
          subst (λ l. Made (spec.split_each true (operands_of l) (plain_around c.args.around.now) (plain_target c.args.holds) (plain_target c.args.fails)) (plain_blocks c.args.blocks.now) (plain_blocks c.split_and_operand.new.blocks) (plain_rest c.in_ok-later.later) (spec.rank_of (plain_rest c.in_ok-later.later))) (sym from)
          (and_more (plain_around c.args.around.now) (plain_target c.args.holds) (plain_target c.args.fails) (plain_blocks c.args.blocks.now) (plain_operand c.index-operands-at.result) _ (plain_blocks c.loop-at.blocks) (plain_blocks c.split_and_operand.new.blocks) (plain_rest c.loop-at.later) (plain_rest c.in_ok-later.later) _ _ c.loop-at.invariant.made c.in_ok-later.ensures);
    }

pub split_and-returns-in_err-later : goal.split_and-returns-in_err-later
split_and-returns-in_err-later t c =
    let operands = c.args.operands.now in
    let i = c.loop-at.at - 1 in
    let some : 0 < c.loop-at.at = c.loop-at-test.true in
    let next : i + 1 ≡ c.loop-at.at = omega (arith, some) in
    let low : c.loop-at.at ≤ length operands = c.loop-at.invariant.within in
    let from = all_from plain_operand operands i c.loop-at.at c.index-operands-at.result next low c.index-operands-at.is in
    let back = err_from_is_err_and c.from_residual.result c.from_residual.ensures.1 in
    rw (back.1, back.2)
    (and_fail_from (plain_around c.args.around.now) (plain_target c.args.holds) (plain_target c.args.fails) (plain_blocks c.args.blocks.now) (plain_operands operands) i (plain_operand c.index-operands-at.result) _ (plain_blocks c.loop-at.blocks) (plain_rest c.loop-at.later) _ _ from c.loop-at.invariant.made c.in_err-later.ensures)

pub split_or-loop-at-init : goal.split_or-loop-at-init
split_or-loop-at-init t c =
    let n = length c.args.operands.now in
    let long : length (plain_operands c.args.operands.now) ≡ n = length-map c.args.operands.now plain_operand in
    record { within = omega arith; made = or_begins (plain_around c.args.around.now) (plain_target c.args.holds) (plain_target c.args.fails) (plain_blocks c.args.blocks.now) (plain_operands c.args.operands.now) n (omega (arith, long)) c.requires.fails }

pub split_or-loop-at-preserved : goal.split_or-loop-at-preserved
split_or-loop-at-preserved t c =
    let operands = c.args.operands.now in
    let i = c.loop-at.at - 1 in
    let some : 0 < c.loop-at.at = c.loop-at-test.true in
    let next : i + 1 ≡ c.loop-at.at = omega (arith, some) in
    let low : c.loop-at.at ≤ length operands = c.loop-at.invariant.within in
    let from = all_from plain_operand operands i c.loop-at.at c.index-operands-at.result next low c.index-operands-at.is in
    record {
      within = omega (arith, low);
      made =
          subst (λ l. Made (spec.split_each false (operands_of l) (plain_around c.args.around.now) (plain_target c.args.holds) (plain_target c.args.fails)) (plain_blocks c.args.blocks.now) (plain_blocks c.split_or_operand.new.blocks) (plain_rest c.in_ok-later.later) (spec.rank_of (plain_rest c.in_ok-later.later))) (sym from)
          (or_more (plain_around c.args.around.now) (plain_target c.args.holds) (plain_target c.args.fails) (plain_blocks c.args.blocks.now) (plain_operand c.index-operands-at.result) _ (plain_blocks c.loop-at.blocks) (plain_blocks c.split_or_operand.new.blocks) (plain_rest c.loop-at.later) (plain_rest c.in_ok-later.later) _ _ c.loop-at.invariant.made c.in_ok-later.ensures);
    }

pub split_or-returns-in_err-later : goal.split_or-returns-in_err-later
split_or-returns-in_err-later t c =
    let operands = c.args.operands.now in
    let i = c.loop-at.at - 1 in
    let some : 0 < c.loop-at.at = c.loop-at-test.true in
    let next : i + 1 ≡ c.loop-at.at = omega (arith, some) in
    let low : c.loop-at.at ≤ length operands = c.loop-at.invariant.within in
    let from = all_from plain_operand operands i c.loop-at.at c.index-operands-at.result next low c.index-operands-at.is in
    let back = err_from_is_err_and c.from_residual.result c.from_residual.ensures.1 in
    rw (back.1, back.2)
    (or_fail_from (plain_around c.args.around.now) (plain_target c.args.holds) (plain_target c.args.fails) (plain_blocks c.args.blocks.now) (plain_operands operands) i (plain_operand c.index-operands-at.result) _ (plain_blocks c.loop-at.blocks) (plain_rest c.loop-at.later) _ _ from c.loop-at.invariant.made c.in_err-later.ensures)

-- Loops

pub split_endless-returns : goal.split_endless-returns
split_endless-returns t c =
    endless_made (plain_blocks c.args.blocks.now) c.in_ok-number.number c.in_ok-number.ensures.0 (flat_stmts_of (plain_flat_stmts c.args.body.now)) (plain_around c.args.around.now) (plain_around c.in_ok-within.within) (plain_vars c.args.head.now) (plain_rest c.args.behind) (plain_rest c.in_ok-begin.begin) _ c.rank_in-rank.result
    (plain_blocks c.add_block.new.blocks) (plain_blocks c.split_all.new.blocks) (plain_blocks c.set_block.new.blocks) c.requires.around c.rank_in-rank.ensures c.in_ok-within.ensures
    (c.in_ok-number.ensures.1 ∙ ap (λ b. plain_blocks c.args.blocks.now ++ b ∷ []) c.empty_block.ensures) c.in_ok-begin.ensures
    (c.in_ok-set_block.ensures ∙ ap (λ r. slice_set (plain_blocks c.split_all.new.blocks) c.in_ok-number.number (spec.block (plain_around c.args.around.now) (plain_vars c.args.head.now) r)) c.in_ok-begin-2.ensures)

pub split_head-returns : goal.split_head-returns
split_head-returns t c =
    head_made (plain_blocks c.args.blocks.now) c.in_ok-number.number c.in_ok-number.ensures.0 (plain_flat_test c.args.test.now) (plain_vars c.args.head.now) (plain_around c.args.around.now) (plain_target c.args.fails) (plain_rest c.in_ok-begin.begin) _ c.in_ok-start.start c.rank_in.result c.rank_in-rank.result
    (plain_blocks c.add_block.new.blocks) (plain_blocks c.add_block-2.new.blocks) (plain_blocks c.split_test.new.blocks) (plain_blocks c.set_block.new.blocks)
    (c.in_ok-number.ensures.1 ∙ ap (λ b. plain_blocks c.args.blocks.now ++ b ∷ []) c.empty_block.ensures) c.in_ok-start.ensures.0
    (c.in_ok-start.ensures.1 ∙ ap (λ b. plain_blocks c.add_block.new.blocks ++ b ∷ []) c.empty_block-2.ensures)
    c.requires.around c.rank_in.ensures c.requires.fails c.in_ok-begin.ensures (c.rank_in-rank.ensures ∙ ap (spec.rank_in (plain_around c.args.around.now)) c.rank_of.ensures) c.in_ok-set_block.ensures

-- Statements, each

pub split_stmt-returns-in_err-to-in-Call : goal.split_stmt-returns-in_err-to-in-Call
split_stmt-returns-in_err-to-in-Call t c =
    let back = err_from_is_err_and c.from_residual.result c.from_residual.ensures.1 in
    rw (back.1, back.2)
    (call_fails (plain_flat_stmt c.args.stmt.now) (plain_around c.args.around.now) (plain_rest c.args.rest) (plain_blocks c.args.blocks.now) (plain_expr c.in-Call.on) c.in-Call.callee (exprs_of (plain_exprs c.in-Call.args)) c.in-Call.into.0 (plain_vars c.in-Call.after) _
    (ap plain_flat_stmt c.in-Call.is ∙ flat-Call c.in-Call.on c.in-Call.callee c.in-Call.args c.in-Call.into c.in-Call.after) c.in_err-to-in-Call.ensures)

pub split_stmt-returns-in_ok-call_end-in-Call : goal.split_stmt-returns-in_ok-call_end-in-Call
split_stmt-returns-in_ok-call_end-in-Call t c =
    call_made (plain_flat_stmt c.args.stmt.now) (plain_around c.args.around.now) (plain_rest c.args.rest) (plain_blocks c.args.blocks.now) (plain_expr c.in-Call.on) c.in-Call.callee (exprs_of (plain_exprs c.in-Call.args)) c.in-Call.into.0 (plain_vars c.in-Call.after) (plain_blocks c.lodge.new.blocks) (plain_target c.in_ok-to-in-Call.to) _ (plain_rest c.in_ok-call_end-in-Call.field-0)
    (ap plain_flat_stmt c.in-Call.is ∙ flat-Call c.in-Call.on c.in-Call.callee c.in-Call.args c.in-Call.into c.in-Call.after) c.in_ok-to-in-Call.ensures c.in_ok-call_end-in-Call.ensures

pub split_stmt-returns-in_err-to-in-Make : goal.split_stmt-returns-in_err-to-in-Make
split_stmt-returns-in_err-to-in-Make t c =
    let back = err_from_is_err_and c.from_residual-in_err-to-in-Make.result c.from_residual-in_err-to-in-Make.ensures.1 in
    rw (back.1, back.2)
    (make_fails (plain_flat_stmt c.args.stmt.now) (plain_around c.args.around.now) (plain_rest c.args.rest) (plain_blocks c.args.blocks.now) c.in-Make.class (exprs_of (plain_exprs c.in-Make.args)) c.in-Make.into.0 (plain_vars c.in-Make.after) _
    (ap plain_flat_stmt c.in-Make.is ∙ flat-Make c.in-Make.class c.in-Make.args c.in-Make.into c.in-Make.after) c.in_err-to-in-Make.ensures)

pub split_stmt-returns-in_ok-make_end-in-Make : goal.split_stmt-returns-in_ok-make_end-in-Make
split_stmt-returns-in_ok-make_end-in-Make t c =
    make_made (plain_flat_stmt c.args.stmt.now) (plain_around c.args.around.now) (plain_rest c.args.rest) (plain_blocks c.args.blocks.now) c.in-Make.class (exprs_of (plain_exprs c.in-Make.args)) c.in-Make.into.0 (plain_vars c.in-Make.after) (plain_blocks c.lodge-in-Make.new.blocks) (plain_target c.in_ok-to-in-Make.to) _ (plain_rest c.in_ok-make_end-in-Make.field-0)
    (ap plain_flat_stmt c.in-Make.is ∙ flat-Make c.in-Make.class c.in-Make.args c.in-Make.into c.in-Make.after) c.in_ok-to-in-Make.ensures c.in_ok-make_end-in-Make.ensures

pub split_stmt-returns-in_err-join-in-If : goal.split_stmt-returns-in_err-join-in-If
split_stmt-returns-in_err-join-in-If t c =
    let back = err_from_is_err_and c.from_residual-in_err-join-in-If.result c.from_residual-in_err-join-in-If.ensures.1 in
    rw (back.1, back.2)
    (if_fails_joining (plain_flat_stmt c.args.stmt.now) (plain_around c.args.around.now) (plain_rest c.args.rest) (flat_arms_of (plain_flat_arms c.in-If.arms)) (flat_stmts_of (plain_flat_stmts c.in-If.other)) (plain_option plain_vars c.in-If.after)
    (ap plain_flat_stmt c.in-If.is ∙ flat-If c.in-If.arms c.in-If.other c.in-If.after) (plain_blocks c.args.blocks.now) _ c.in_err-join-in-If.ensures)

pub split_stmt-returns-in_err-rest-in-If : goal.split_stmt-returns-in_err-rest-in-If
split_stmt-returns-in_err-rest-in-If t c =
    let back = err_from_is_err_and c.from_residual-in_err-rest-in-If.result c.from_residual-in_err-rest-in-If.ensures.1 in
    rw (back.1, back.2)
    (if_fails_copied (plain_flat_stmt c.args.stmt.now) (plain_around c.args.around.now) (plain_rest c.args.rest) (flat_arms_of (plain_flat_arms c.in-If.arms)) (flat_stmts_of (plain_flat_stmts c.as_slice.result.now)) (plain_option plain_vars c.in-If.after)
    (ap plain_flat_stmt c.in-If.is ∙ flat-If c.in-If.arms c.in-If.other c.in-If.after ∙ ap (λ l. FIf (flat_arms_of (plain_flat_arms c.in-If.arms)) (flat_stmts_of (plain_flat_stmts l)) (plain_option plain_vars c.in-If.after)) (sym c.as_slice.ensures))
    (plain_blocks c.args.blocks.now) (plain_blocks c.joined.new.blocks) (plain_rest c.in_ok-join-in-If.join) (plain_rest c.in_ok-last-in-If.last) _ _ c.in_ok-last-in-If.ensures c.in_ok-join-in-If.ensures c.in_err-rest-in-If.ensures)

pub split_stmt-returns-in_ok-rest-in-If : goal.split_stmt-returns-in_ok-rest-in-If
split_stmt-returns-in_ok-rest-in-If t c =
    let arms = c.as_slice-in-If.result.now in
    let others = c.as_slice.result.now in
    if_makes (plain_flat_stmt c.args.stmt.now) (plain_around c.args.around.now) (plain_rest c.args.rest) (flat_arms_of (plain_flat_arms arms)) (flat_stmts_of (plain_flat_stmts others)) (plain_option plain_vars c.in-If.after)
    (ap plain_flat_stmt c.in-If.is ∙ flat-If c.in-If.arms c.in-If.other c.in-If.after ∙ (λ i. FIf (flat_arms_of (plain_flat_arms (sym c.as_slice-in-If.ensures i))) (flat_stmts_of (plain_flat_stmts (sym c.as_slice.ensures i))) (plain_option plain_vars c.in-If.after)))
    c.args.blocks.now c.joined.new.blocks c.split_all.new.blocks c.split_arms.new.blocks (plain_rest c.in_ok-join-in-If.join) (plain_rest c.in_ok-rest-in-If.rest) _ _ c.in_ok-join-in-If.ensures
    (subst (λ r. Made (spec.split_all (flat_stmts_of (plain_flat_stmts others)) (plain_around c.args.around.now) r) (plain_blocks c.joined.new.blocks) (plain_blocks c.split_all.new.blocks) (plain_rest c.in_ok-rest-in-If.rest) (spec.rank_of (plain_rest c.in_ok-rest-in-If.rest))) c.in_ok-last-in-If.ensures c.in_ok-rest-in-If.ensures)
    c.split_arms.result c.split_arms.ensures

pub split_stmt-returns-in_err-behind-in-While : goal.split_stmt-returns-in_err-behind-in-While
split_stmt-returns-in_err-behind-in-While t c =
    let back = err_from_is_err_and c.from_residual-in_err-behind-in-While.result c.from_residual-in_err-behind-in-While.ensures.1 in
    rw (back.1, back.2)
    (while_fails_joining (plain_flat_stmt c.args.stmt.now) (plain_around c.args.around.now) (plain_rest c.args.rest) _ _ _ _ _ (ap plain_flat_stmt c.in-While.is ∙ flat-While c.in-While.head c.in-While.test c.in-While.start c.in-While.body c.in-While.after)
    (plain_blocks c.args.blocks.now) _ c.in_err-behind-in-While.ensures)

pub split_stmt-returns-then-always : goal.split_stmt-returns-then-always
split_stmt-returns-then-always t c =
    let body = c.as_slice-then-always.result.now in
    endless_makes (plain_flat_stmt c.args.stmt.now) (plain_around c.args.around.now) (plain_rest c.args.rest) (plain_vars c.in-While.head) (plain_flat_test c.in-While.test) (plain_vars c.in-While.start) (flat_stmts_of (plain_flat_stmts body)) (plain_option plain_vars c.in-While.after)
    (ap plain_flat_stmt c.in-While.is ∙ flat-While c.in-While.head c.in-While.test c.in-While.start c.in-While.body c.in-While.after
    ∙ ap (λ l. FWhile (plain_vars c.in-While.head) (plain_flat_test c.in-While.test) (plain_vars c.in-While.start) (flat_stmts_of (plain_flat_stmts l)) (plain_option plain_vars c.in-While.after)) (sym c.as_slice-then-always.ensures))
    c.args.blocks.now c.outlet.new.blocks c.split_endless.new.blocks (plain_rest c.in_ok-behind-in-While.behind) _ c.in_ok-behind-in-While.ensures (sym c.always.ensures ∙ c.if-always.true) c.split_endless.result c.split_endless.ensures

pub split_stmt-returns-in_err-fails-in-While : goal.split_stmt-returns-in_err-fails-in-While
split_stmt-returns-in_err-fails-in-While t c =
    let back = err_from_is_err_and c.from_residual-in_err-fails-in-While.result c.from_residual-in_err-fails-in-While.ensures.1 in
    rw (back.1, back.2)
    (while_fails_copied (plain_flat_stmt c.args.stmt.now) (plain_around c.args.around.now) (plain_rest c.args.rest) _ _ _ _ _ (ap plain_flat_stmt c.in-While.is ∙ flat-While c.in-While.head c.in-While.test c.in-While.start c.in-While.body c.in-While.after)
    (plain_blocks c.args.blocks.now) (plain_blocks c.outlet.new.blocks) (plain_rest c.in_ok-behind-in-While.behind) _ c.in_ok-behind-in-While.ensures (sym c.always.ensures ∙ c.if-always.false) (plain_rest c.in_ok-copy_rest-in-While.field-0) _ c.in_ok-copy_rest-in-While.ensures c.in_err-fails-in-While.ensures)

pub split_stmt-returns-in_err-again-in-While : goal.split_stmt-returns-in_err-again-in-While
split_stmt-returns-in_err-again-in-While t c =
    let back = err_from_is_err_and c.from_residual-in_err-again-in-While.result c.from_residual-in_err-again-in-While.ensures.1 in
    rw (back.1, back.2)
    (while_fails_heading (plain_flat_stmt c.args.stmt.now) (plain_around c.args.around.now) (plain_rest c.args.rest) _ _ _ _ _ (ap plain_flat_stmt c.in-While.is ∙ flat-While c.in-While.head c.in-While.test c.in-While.start c.in-While.body c.in-While.after)
    (plain_blocks c.args.blocks.now) (plain_blocks c.outlet.new.blocks) (plain_rest c.in_ok-behind-in-While.behind) _ c.in_ok-behind-in-While.ensures (sym c.always.ensures ∙ c.if-always.false) (plain_blocks c.lodge-in-While.new.blocks) (plain_target c.in_ok-fails-in-While.fails) _
    (subst (λ r. Made (spec.lodge (plain_around c.args.around.now) (plain_vars c.in-While.head) r) (plain_blocks c.outlet.new.blocks) (plain_blocks c.lodge-in-While.new.blocks) (plain_target c.in_ok-fails-in-While.fails) (rank_below (plain_target c.in_ok-fails-in-While.fails))) c.in_ok-copy_rest-in-While.ensures c.in_ok-fails-in-While.ensures) _ c.in_err-again-in-While.ensures)

pub split_stmt-returns-in_err-split_body-in-While : goal.split_stmt-returns-in_err-split_body-in-While
split_stmt-returns-in_err-split_body-in-While t c =
    let back = err_from_is_err_and c.from_residual-in_err-split_body-in-While.result c.from_residual-in_err-split_body-in-While.ensures.1 in
    rw (back.1, back.2)
    (while_fails_turning (plain_flat_stmt c.args.stmt.now) (plain_around c.args.around.now) (plain_rest c.args.rest) (plain_vars c.in-While.head) (plain_flat_test c.in-While.test) (plain_vars c.in-While.start) (flat_stmts_of (plain_flat_stmts c.as_slice-in-While.result.now)) (plain_option plain_vars c.in-While.after)
    (ap plain_flat_stmt c.in-While.is ∙ flat-While c.in-While.head c.in-While.test c.in-While.start c.in-While.body c.in-While.after
    ∙ ap (λ l. FWhile (plain_vars c.in-While.head) (plain_flat_test c.in-While.test) (plain_vars c.in-While.start) (flat_stmts_of (plain_flat_stmts l)) (plain_option plain_vars c.in-While.after)) (sym c.as_slice-in-While.ensures))
    (plain_blocks c.args.blocks.now) (plain_blocks c.outlet.new.blocks) (plain_rest c.in_ok-behind-in-While.behind) _ c.in_ok-behind-in-While.ensures (sym c.always.ensures ∙ c.if-always.false) (plain_blocks c.lodge-in-While.new.blocks) (plain_target c.in_ok-fails-in-While.fails) _
    (subst (λ r. Made (spec.lodge (plain_around c.args.around.now) (plain_vars c.in-While.head) r) (plain_blocks c.outlet.new.blocks) (plain_blocks c.lodge-in-While.new.blocks) (plain_target c.in_ok-fails-in-While.fails) (rank_below (plain_target c.in_ok-fails-in-While.fails))) c.in_ok-copy_rest-in-While.ensures c.in_ok-fails-in-While.ensures)
    (plain_blocks c.split_head.new.blocks) (plain_target c.in_ok-again-in-While.again) (plain_around c.in_ok-within-in-While.within) _ _ c.in_ok-within-in-While.ensures c.in_ok-again-in-While.ensures c.in_err-split_body-in-While.ensures)

pub split_stmt-returns-in_ok-split_body-in-While : goal.split_stmt-returns-in_ok-split_body-in-While
split_stmt-returns-in_ok-split_body-in-While t c =
    while_made (plain_flat_stmt c.args.stmt.now) (plain_around c.args.around.now) (plain_rest c.args.rest) (plain_vars c.in-While.head) (plain_flat_test c.in-While.test) (plain_vars c.in-While.start) (flat_stmts_of (plain_flat_stmts c.as_slice-in-While.result.now)) (plain_option plain_vars c.in-While.after)
    (ap plain_flat_stmt c.in-While.is ∙ flat-While c.in-While.head c.in-While.test c.in-While.start c.in-While.body c.in-While.after
    ∙ ap (λ l. FWhile (plain_vars c.in-While.head) (plain_flat_test c.in-While.test) (plain_vars c.in-While.start) (flat_stmts_of (plain_flat_stmts l)) (plain_option plain_vars c.in-While.after)) (sym c.as_slice-in-While.ensures))
    (plain_blocks c.args.blocks.now) (plain_blocks c.outlet.new.blocks) (plain_rest c.in_ok-behind-in-While.behind) _ c.in_ok-behind-in-While.ensures (sym c.always.ensures ∙ c.if-always.false) (plain_blocks c.lodge-in-While.new.blocks) (plain_target c.in_ok-fails-in-While.fails) _
    (subst (λ r. Made (spec.lodge (plain_around c.args.around.now) (plain_vars c.in-While.head) r) (plain_blocks c.outlet.new.blocks) (plain_blocks c.lodge-in-While.new.blocks) (plain_target c.in_ok-fails-in-While.fails) (rank_below (plain_target c.in_ok-fails-in-While.fails))) c.in_ok-copy_rest-in-While.ensures c.in_ok-fails-in-While.ensures)
    (plain_blocks c.split_head.new.blocks) (plain_blocks c.split_body.new.blocks) (plain_target c.in_ok-again-in-While.again) (plain_around c.in_ok-within-in-While.within) _ c.in_ok-within-in-While.ensures c.in_ok-again-in-While.ensures c.in_ok-again-in-While.ensures.ready.low c.in_ok-split_body-in-While.ensures

pub split_stmt-returns-in_err-behind-in-Try : goal.split_stmt-returns-in_err-behind-in-Try
split_stmt-returns-in_err-behind-in-Try t c =
    let back = err_from_is_err_and c.from_residual-in_err-behind-in-Try.result c.from_residual-in_err-behind-in-Try.ensures.1 in
    rw (back.1, back.2)
    (try_fails_joining (plain_flat_stmt c.args.stmt.now) (plain_around c.args.around.now) (plain_rest c.args.rest) _ _ _ _ (ap plain_flat_stmt c.in-Try.is ∙ flat-Try c.in-Try.start c.in-Try.body c.in-Try.clauses c.in-Try.after)
    (plain_blocks c.args.blocks.now) _ c.in_err-behind-in-Try.ensures)

pub split_stmt-returns-in_err-catches-in-Try : goal.split_stmt-returns-in_err-catches-in-Try
split_stmt-returns-in_err-catches-in-Try t c =
    let back = err_from_is_err_and c.from_residual-in_err-catches-in-Try.result c.from_residual-in_err-catches-in-Try.ensures.1 in
    rw (back.1, back.2)
    (try_fails_clauses (plain_flat_stmt c.args.stmt.now) (plain_around c.args.around.now) (plain_rest c.args.rest) (plain_vars c.in-Try.start) (flat_stmts_of (plain_flat_stmts c.in-Try.body)) (flat_clauses_of (plain_flat_clauses c.as_slice-in-Try.result.now)) (plain_option plain_vars c.in-Try.after)
    (ap plain_flat_stmt c.in-Try.is ∙ flat-Try c.in-Try.start c.in-Try.body c.in-Try.clauses c.in-Try.after
    ∙ ap (λ l. FTry (plain_vars c.in-Try.start) (flat_stmts_of (plain_flat_stmts c.in-Try.body)) (flat_clauses_of (plain_flat_clauses l)) (plain_option plain_vars c.in-Try.after)) (sym c.as_slice-in-Try.ensures))
    (plain_blocks c.args.blocks.now) (plain_blocks c.outlet-in-Try.new.blocks) (plain_rest c.in_ok-behind-in-Try.behind) _ _ c.in_ok-behind-in-Try.ensures c.in_err-catches-in-Try.ensures)

pub split_stmt-returns-in_ok-within-in-Try : goal.split_stmt-returns-in_ok-within-in-Try
split_stmt-returns-in_ok-within-in-Try t c =
    try_makes (plain_flat_stmt c.args.stmt.now) (plain_around c.args.around.now) (plain_rest c.args.rest) (plain_vars c.in-Try.start) (flat_stmts_of (plain_flat_stmts c.as_slice-in-Try-2.result.now)) (flat_clauses_of (plain_flat_clauses c.as_slice-in-Try.result.now)) (plain_option plain_vars c.in-Try.after)
    (ap plain_flat_stmt c.in-Try.is ∙ flat-Try c.in-Try.start c.in-Try.body c.in-Try.clauses c.in-Try.after
    ∙ (λ i. FTry (plain_vars c.in-Try.start) (flat_stmts_of (plain_flat_stmts (sym c.as_slice-in-Try-2.ensures i))) (flat_clauses_of (plain_flat_clauses (sym c.as_slice-in-Try.ensures i))) (plain_option plain_vars c.in-Try.after)))
    c.args.blocks.now c.outlet-in-Try.new.blocks c.split_clauses.new.blocks c.split_guarded.new.blocks (plain_rest c.in_ok-behind-in-Try.behind) (plain_caughts c.in_ok-catches-in-Try.catches) (plain_around c.in_ok-within-in-Try.within) _ _ c.in_ok-within-in-Try.ensures
    c.in_ok-behind-in-Try.ensures c.in_ok-catches-in-Try.ensures c.split_guarded.result c.split_guarded.ensures

pub split_guarded-returns-in_err-to : goal.split_guarded-returns-in_err-to
split_guarded-returns-in_err-to t c =
    let back = err_from_is_err_and c.from_residual-in_err-to.result c.from_residual-in_err-to.ensures.1 in
    rw (back.1, back.2)
    (guarded_fails_lodging (flat_stmts_of (plain_flat_stmts c.args.body.now)) (plain_around c.args.around) (plain_vars c.args.start.now) (plain_rest c.args.behind) (plain_blocks c.args.blocks.now) (plain_blocks c.split_all.new.blocks) (plain_rest c.in_ok-first.first) _ _
    c.in_ok-first.ensures c.in_err-to.ensures)

-- Clauses

pub split_clauses-loop-at-init : goal.split_clauses-loop-at-init
split_clauses-loop-at-init t c =
    let n = length c.args.clauses.now in
    let long : length (plain_flat_clauses c.args.clauses.now) ≡ n = length-map c.args.clauses.now plain_flat_clause in
    record {
      within = omega arith;
      made = clauses_begin (plain_around c.args.around.now) (plain_rest c.args.join.now) (plain_blocks c.args.blocks.now) (plain_flat_clauses c.args.clauses.now) n (plain_caughts c.in_ok-later.later) (omega (arith, long)) c.in_ok-later.ensures (record { few = c.requires.join.few; low = c.requires.around.catches });
    }

pub split_clauses-loop-at-preserved : goal.split_clauses-loop-at-preserved
split_clauses-loop-at-preserved t c =
    let clauses = c.args.clauses.now in
    let i = c.loop-at.at - 1 in
    let some : 0 < c.loop-at.at = c.loop-at-test.true in
    let next : i + 1 ≡ c.loop-at.at = omega (arith, some) in
    let low : c.loop-at.at ≤ length clauses = c.loop-at.invariant.within in
    let from = all_from plain_flat_clause clauses i c.loop-at.at c.index-clauses-at.result next low c.index-clauses-at.is in
    record {
      within = omega (arith, low);
      made =
          subst (λ l. Made (spec.split_clauses (flat_clauses_of l) (plain_around c.args.around.now) (plain_rest c.args.join.now)) (plain_blocks c.args.blocks.now) (plain_blocks c.split_clause.new.blocks) (plain_caughts c.in_ok-later-2.later) (spec.floor (plain_caughts c.in_ok-later-2.later))) (sym from)
          (clause_more (plain_around c.args.around.now) (plain_rest c.args.join.now) (plain_blocks c.args.blocks.now) (plain_flat_clause c.index-clauses-at.result) _ (plain_blocks c.loop-at.blocks) (plain_blocks c.split_clause.new.blocks) (plain_caughts c.loop-at.later) (plain_caughts c.in_ok-later-2.later) _ _ c.loop-at.invariant.made c.in_ok-later-2.ensures);
    }

pub split_clauses-returns-in_err-later-2 : goal.split_clauses-returns-in_err-later-2
split_clauses-returns-in_err-later-2 t c =
    let clauses = c.args.clauses.now in
    let i = c.loop-at.at - 1 in
    let some : 0 < c.loop-at.at = c.loop-at-test.true in
    let next : i + 1 ≡ c.loop-at.at = omega (arith, some) in
    let low : c.loop-at.at ≤ length clauses = c.loop-at.invariant.within in
    let from = all_from plain_flat_clause clauses i c.loop-at.at c.index-clauses-at.result next low c.index-clauses-at.is in
    let back = err_from_is_err_and c.from_residual-in_err-later-2.result c.from_residual-in_err-later-2.ensures.1 in
    rw (back.1, back.2)
    (clauses_fail_from (plain_around c.args.around.now) (plain_rest c.args.join.now) (plain_blocks c.args.blocks.now) (plain_flat_clauses clauses) i (plain_flat_clause c.index-clauses-at.result) _ (plain_blocks c.loop-at.blocks) (plain_caughts c.loop-at.later) _ _ from c.loop-at.invariant.made c.in_err-later-2.ensures)

-- Tests

pub split_test-returns-in_ok-rest-in-Leaf : goal.split_test-returns-in_ok-rest-in-Leaf
split_test-returns-in_ok-rest-in-Leaf t c =
    leaf_makes (plain_flat_test c.args.test.now) (plain_around c.args.around.now) (plain_target c.args.holds) (plain_target c.args.fails) c.args.blocks.now c.split_all.new.blocks c.split_all.result (flat_stmts_of (plain_flat_stmts c.as_slice.result.now)) (plain_expr c.in-Leaf.value) (plain_rest c.in_ok-rest-in-Leaf.rest)
    (ap plain_flat_test c.in-Leaf.is ∙ test-Leaf c.in-Leaf.before c.in-Leaf.value ∙ ap (λ l. FLeaf (flat_stmts_of (plain_flat_stmts l)) (plain_expr c.in-Leaf.value)) (sym c.as_slice.ensures)) c.in_ok-rest-in-Leaf.ensures c.split_all.ensures

pub split_test-returns-in-Not : goal.split_test-returns-in-Not
split_test-returns-in-Not t c =
    not_makes (plain_flat_test c.args.test.now) (plain_around c.args.around.now) (plain_target c.args.holds) (plain_target c.args.fails) c.args.blocks.now c.split_test.new.blocks c.split_test.result (plain_flat_test c.deref.result.now) (ap plain_flat_test c.in-Not.is ∙ test-Not _ ∙ ap (λ b. FNot (plain_flat_test b)) (sym c.deref.ensures)) c.split_test.ensures

pub split_test-returns-in-And : goal.split_test-returns-in-And
split_test-returns-in-And t c =
    and_makes (plain_flat_test c.args.test.now) (plain_around c.args.around.now) (plain_target c.args.holds) (plain_target c.args.fails) c.args.blocks.now c.split_and.new.blocks c.split_and.result (operands_of (plain_operands c.as_slice-in-And.result.now))
    (ap plain_flat_test c.in-And.is ∙ test-And c.in-And.operands ∙ ap (λ l. FAnd (operands_of (plain_operands l))) (sym c.as_slice-in-And.ensures)) c.split_and.ensures

pub split_test-returns-in-Or : goal.split_test-returns-in-Or
split_test-returns-in-Or t c =
    or_makes (plain_flat_test c.args.test.now) (plain_around c.args.around.now) (plain_target c.args.holds) (plain_target c.args.fails) c.args.blocks.now c.split_or.new.blocks c.split_or.result (operands_of (plain_operands c.as_slice-in-Or.result.now))
    (ap plain_flat_test c.in-Or.is ∙ test-Or c.in-Or.operands ∙ ap (λ l. FOr (operands_of (plain_operands l))) (sym c.as_slice-in-Or.ensures)) c.split_or.ensures

pub split_stmt-returns-in_ok-small-in-Mark : goal.split_stmt-returns-in_ok-small-in-Mark
split_stmt-returns-in_ok-small-in-Mark t c =
    let which = c.in-Mark.is in
    let is_one : is_small (plain_flat_stmt c.args.stmt.now) ≡ true = search (rules, c.in-Mark.is, flat_views) in
    small_made (plain_flat_stmt c.args.stmt.now) (plain_around c.args.around.now) (plain_rest c.args.rest) (plain_blocks c.args.blocks.now) (plain_rest c.in_ok-small-in-Mark.field-0) is_one (c.in_ok-small-in-Mark.ensures) c.requires.around c.requires.ready

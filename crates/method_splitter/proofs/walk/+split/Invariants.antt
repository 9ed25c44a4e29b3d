use Rattle.std.proofs.Common.{◌≤◌, true, false, length, drop}
use Rattle.block_code.specs.PlainBlocks.{plain_blocks}
use Rattle.flat_tree.specs.PlainFlat.{flat_stmts_of, flat_arms_of, flat_clauses_of, operands_of, plain_flat_stmts, plain_flat_arms, plain_flat_clauses, plain_operands}
use Rattle.method_splitter.specs.Split.{split_all, split_arms, split_clauses, split_each, rank_of, floor}
use Rattle.method_splitter.specs.SmallStatements.{reached_part}
use Rattle.method_splitter.specs.Rests.{plain_target, plain_rest, plain_caughts, plain_around}
use Rattle.method_splitter.specs.Numbering.{Made}
use Rattle.method_splitter.proofs.walk.+split.Given as goal

abbrev pub invariant-split_all-loop-at : goal.invariant-split_all-loop-at
invariant-split_all-loop-at l = record {
  within : l.at ≤ l.initial.at;
  made : Made (split_all (flat_stmts_of (drop l.at (reached_part (plain_flat_stmts l.stmts)))) (plain_around l.around) (plain_rest l.initial.rest)) (plain_blocks l.initial.blocks) (plain_blocks l.blocks) (plain_rest l.rest) (rank_of (plain_rest l.rest));
}

abbrev pub decreases-split_all-loop-at : goal.decreases-split_all-loop-at
decreases-split_all-loop-at l = l.at

abbrev pub invariant-split_arms-loop-at : goal.invariant-split_arms-loop-at
invariant-split_arms-loop-at l = record {
  within : l.at ≤ length l.arms;
  made : Made (split_arms (flat_arms_of (drop l.at (plain_flat_arms l.arms))) (plain_around l.around) (plain_rest l.join) (plain_rest l.initial.later)) (plain_blocks l.initial.blocks) (plain_blocks l.blocks) (plain_rest l.later) (rank_of (plain_rest l.later));
}

abbrev pub decreases-split_arms-loop-at : goal.decreases-split_arms-loop-at
decreases-split_arms-loop-at l = l.at

abbrev pub invariant-split_and-loop-at : goal.invariant-split_and-loop-at
invariant-split_and-loop-at l = record {
  within : l.at ≤ length l.operands;
  made : Made (split_each true (operands_of (drop l.at (plain_operands l.operands))) (plain_around l.around) (plain_target l.fn.holds) (plain_target l.fails)) (plain_blocks l.initial.blocks) (plain_blocks l.blocks) (plain_rest l.later) (rank_of (plain_rest l.later));
}

abbrev pub decreases-split_and-loop-at : goal.decreases-split_and-loop-at
decreases-split_and-loop-at l = l.at

abbrev pub invariant-split_or-loop-at : goal.invariant-split_or-loop-at
invariant-split_or-loop-at l = record {
  within : l.at ≤ length l.operands;
  made : Made (split_each false (operands_of (drop l.at (plain_operands l.operands))) (plain_around l.around) (plain_target l.holds) (plain_target l.fn.fails)) (plain_blocks l.initial.blocks) (plain_blocks l.blocks) (plain_rest l.later) (rank_of (plain_rest l.later));
}

abbrev pub decreases-split_or-loop-at : goal.decreases-split_or-loop-at
decreases-split_or-loop-at l = l.at

abbrev pub invariant-split_clauses-loop-at : goal.invariant-split_clauses-loop-at
invariant-split_clauses-loop-at l = record {
  within : l.at ≤ length l.clauses;
  made : Made (split_clauses (flat_clauses_of (drop l.at (plain_flat_clauses l.clauses))) (plain_around l.around) (plain_rest l.join)) (plain_blocks l.initial.blocks) (plain_blocks l.blocks) (plain_caughts l.later) (floor (plain_caughts l.later));
}

abbrev pub decreases-split_clauses-loop-at : goal.decreases-split_clauses-loop-at
decreases-split_clauses-loop-at l = l.at

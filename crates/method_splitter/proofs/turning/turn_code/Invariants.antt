use Rattle.std.proofs.Common.{◌≡◌, ◌++◌, length, map, take, drop}
use Rattle.block_code.specs.PlainBlocks.{plain_items}
use Rattle.method_splitter.specs.Rests.{turned}
use Rattle.method_splitter.proofs.turning.turn_code.Given as goal

abbrev pub invariant-loop-i : goal.invariant-loop-i
invariant-loop-i l = record {
  count : length l.code ≡ length l.initial.code;
  gives : map turned (plain_items l.initial.code) ≡ take l.i (plain_items l.code) ++ map turned (drop l.i (plain_items l.code));
}

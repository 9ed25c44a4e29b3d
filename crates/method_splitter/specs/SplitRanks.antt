-- The ranks of the blocks of a flat method are small.
use Rattle.std.specs.Prelude.{◌≤◌, length}
use Rattle.std.specs.List.{All}
use Rattle.block_code.specs.PlainBlocks.{PlainBlock}
use Rattle.flat_tree.specs.PlainFlat.{PlainFlat}
use Rattle.method_splitter.specs.Split.{split_blocks}

-- no rank is greater than the number of blocks
abbrev pub RanksAreSmall : Type 0
RanksAreSmall = (flat : PlainFlat) → All (λ (b : PlainBlock). b.rank ≤ length (split_blocks flat)) (split_blocks flat)

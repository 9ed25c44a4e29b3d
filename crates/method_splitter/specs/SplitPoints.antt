-- The parameters of the blocks of a flat method are its own and the points of its code.
use Rattle.std.specs.Prelude.{◌≡◌, Bool, true}
use Rattle.std.specs.List.{All}
use Rattle.block_code.specs.PlainBlocks.{PlainBlock}
use Rattle.flat_tree.specs.PlainFlat.{Point, PlainFlat, flat_stmts_of}
use Rattle.method_splitter.specs.Points.{PointsPassInAll}
use Rattle.method_splitter.specs.Split.{split_blocks}

-- what passes at the parameters of a method, and at each point of its code, passes at the parameters of each block
abbrev pub ParamsArePoints : Type 0
ParamsArePoints =
    (passes : Point → Bool) (flat : PlainFlat) → passes flat.params ≡ true → PointsPassInAll passes (flat_stmts_of flat.body)
    → All (λ (b : PlainBlock). passes b.params ≡ true) (split_blocks flat)

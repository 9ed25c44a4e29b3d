-- Where the blocks of a flat method go on: what their ends and catches name is there, and no block comes again without a step.
use Rattle.std.specs.Prelude.{◌≡◌, ◌<◌, false, Some, List, slice_get}
use Rattle.std.specs.List.{All, list_any}
use Rattle.py_tree.specs.ClassRules.{PlainTable}
use Rattle.block_code.specs.PlainBlocks.{PlainCatch, PlainBlock}
use Rattle.block_code.specs.GraphFits.{NamesAreThere, takes_step, NextAreBelow}
use Rattle.flat_tree.specs.PlainFlat.{PlainFlat, flat_stmts_of}
use Rattle.method_splitter.specs.Callees.{CalleesAreThere}
use Rattle.method_splitter.specs.Split.{split_blocks}

-- a catch leads to a block that is there, of smaller rank
pub record CatchGoesOn (blocks : List PlainBlock) (b : PlainBlock) (k : PlainCatch) : Type 0 where
  pub target : PlainBlock
  pub is : slice_get blocks k.to ≡ Some target
  pub below : target.rank < b.rank

-- as a graph that fits its program asks it of each block
pub record GoesOn (tables : List PlainTable) (blocks : List PlainBlock) (b : PlainBlock) : Type 0 where
  pub names : NamesAreThere tables blocks b.end
  pub ranks : list_any takes_step b.code ≡ false → NextAreBelow blocks b.rank b.end
  pub catches : All (CatchGoesOn blocks b) b.catches

-- so is each block of flat code whose callees, and classes of which it creates entities, are in these tables
abbrev pub BlocksGoOn : Type 0
BlocksGoOn =
    (tables : List PlainTable) (flat : PlainFlat) → CalleesAreThere tables (flat_stmts_of flat.body)
    → All (GoesOn tables (split_blocks flat)) (split_blocks flat)

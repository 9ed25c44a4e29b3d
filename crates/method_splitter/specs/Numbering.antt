-- Blocks that code makes one behind another, from the first free number. A number has 32 bits.
use Rattle.std.specs.Prelude.{◌≡◌, ℕ, suc, ◌+◌, ◌<◌, ◌≤◌, List, [], ◌∷◌, ◌++◌, length, Result, Ok, Err}
use Rattle.block_code.specs.declared.block.Block.{Block}
use Rattle.block_code.specs.PlainBlocks.{PlainBlock, ELeave, plain_blocks}
use Rattle.flat_tree.specs.PlainFlat.{PlainFlat}
use Rattle.method_splitter.specs.declared.fault.SplitError.{SplitError}
use Rattle.method_splitter.specs.declared.fault.SplitError.TheVariants.{TooManyBlocks, NoMemory}
use Rattle.method_splitter.specs.declared.rest.Target as target
use Rattle.method_splitter.specs.declared.rest.Rest as rest
use Rattle.method_splitter.specs.declared.around.Caught as caught
use Rattle.method_splitter.specs.Split.{Target, Rest, rank_of, Caught, floor, Around, Numbered, split_blocks}
use Rattle.method_splitter.specs.Rests.{plain_target, plain_rest, plain_caughts}

-- so many blocks have numbers, and their number has 32 bits too
abbrev pub most_blocks : ℕ
most_blocks = 4294967295

-- what stands at the number of a block that is made later
abbrev pub no_block : PlainBlock
no_block = record { params = []; code = []; end = ELeave; rank = 0; catches = [] }

-- a rank that is greater than this block's
abbrev pub rank_below : Target → ℕ
rank_below to = suc to.rank

-- there is a number for each block, and no rank is greater than the number of blocks
pub record Ready (blocks : List PlainBlock) (rank : ℕ) : Type 0 where
  pub few : length blocks ≤ 4294967295
  pub low : rank ≤ length blocks

-- so it is with where `break`, `continue` and failures go on
pub record AroundReady (blocks : List PlainBlock) (around : Around) : Type 0 where
  pub breaks : rank_of around.breaks ≤ length blocks
  pub continues : rank_of around.continues ≤ length blocks
  pub catches : floor around.catches ≤ length blocks

-- behind what was there stand the blocks that are made from the first free number, and this is what is got
pub record Made {A : Type 0} (m : Numbered A) (old new : List PlainBlock) (got : A) (rank : ℕ) : Type 0 where
  pub blocks : new ≡ old ++ (m (length old)).made
  pub is : got ≡ (m (length old)).got
  pub ready : Ready new rank

-- there would be more than have numbers
abbrev pub MadeTooMany : {A : Type 0} → Numbered A → List PlainBlock → Type 0
MadeTooMany m old = 4294967295 < length old + length (m (length old)).made

-- why nothing is got; want of memory is free
abbrev pub Fails : {A : Type 0} → Numbered A → List PlainBlock → SplitError → Type 0
Fails m old NoMemory = Unit {0}
Fails m old TooManyBlocks = MadeTooMany m old

-- a rest, and the blocks that are made for it, where they have numbers
abbrev pub MakesRest : Numbered Rest → List Block → List Block → Result rest.Rest SplitError → Type 0
MakesRest m old new (Ok made) = Made m (plain_blocks old) (plain_blocks new) (plain_rest made) (rank_of (plain_rest made))
MakesRest m old new (Err e) = Fails m (plain_blocks old) e

abbrev pub MakesTarget : Numbered Target → List Block → List Block → Result target.Target SplitError → Type 0
MakesTarget m old new (Ok made) = Made m (plain_blocks old) (plain_blocks new) (plain_target made) (rank_below (plain_target made))
MakesTarget m old new (Err e) = Fails m (plain_blocks old) e

abbrev pub MakesCaughts : Numbered (List Caught) → List Block → List Block → Result (List caught.Caught) SplitError → Type 0
MakesCaughts m old new (Ok made) = Made m (plain_blocks old) (plain_blocks new) (plain_caughts made) (floor (plain_caughts made))
MakesCaughts m old new (Err e) = Fails m (plain_blocks old) e

-- a block at the first free number
abbrev pub AddsBlock : PlainBlock → List PlainBlock → List PlainBlock → Result ℕ SplitError → Type 0
AddsBlock b old new (Ok number) = (number ≡ length old) × (new ≡ old ++ b ∷ []) × (length old < 4294967295)
AddsBlock b old new (Err NoMemory) = Unit {0}
AddsBlock b old new (Err TooManyBlocks) = 4294967295 ≤ length old

-- the blocks of a flat method, where they have numbers, and else no others; want of memory is free
abbrev pub SplitsInto : PlainFlat → Result (List Block) SplitError → Type 0
SplitsInto flat (Ok blocks) = plain_blocks blocks ≡ split_blocks flat
SplitsInto flat (Err NoMemory) = Unit {0}
SplitsInto flat (Err TooManyBlocks) = 4294967295 < length (split_blocks flat)

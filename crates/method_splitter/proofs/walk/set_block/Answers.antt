use Rattle.std.proofs.Common.{ap, ◌∙◌, slice_set}
use Rattle.block_code.specs.PlainBlocks.{plain_block, plain_blocks}
use Rattle.block_code.specs.PlainVars.{plain_vars}
use Rattle.method_splitter.specs.Split as spec
use Rattle.method_splitter.specs.Rests.{plain_around}
use Rattle.method_splitter.proofs.NumberLaws.{map-slice_set}
use Rattle.method_splitter.proofs.walk.set_block.Goals as goal

pub returns : goal.returns
returns c =
    ap plain_blocks c.set.ensures ∙ map-slice_set plain_block c.args.blocks.now c.args.number c.in_ok-block.block
    ∙ ap (slice_set (plain_blocks c.args.blocks.now) c.args.number) (c.in_ok-block.ensures ∙ ap (λ r. spec.block (plain_around c.args.around.now) (plain_vars c.args.params.now) r) c.as_held.ensures)

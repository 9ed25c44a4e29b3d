use Rattle.std.proofs.Common.{◌≡◌, subst}
use Rattle.std.specs.Prelude.{IfOk}
use Rattle.block_code.specs.PlainBlocks.{plain_blocks}
use Rattle.method_splitter.specs.Split.{split_blocks}
use Rattle.entity_compiler.proofs.methods.method_blocks.Goals as goal

pub returns : goal.returns
returns c = λ m is. subst (λ flat. IfOk c.flat_blocks-blocks.result (λ made. plain_blocks made ≡ split_blocks flat)) (c.in_ok-flat.ensures m is) c.flat_blocks-blocks.ensures

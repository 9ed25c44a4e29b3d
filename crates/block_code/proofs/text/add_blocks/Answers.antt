use Rattle.std.proofs.Common.{◌∙◌, sym, string_bytes}
use Rattle.entity_tables.specs.Views.{plain_tables}
use Rattle.block_code.proofs.TextLaws.{block_more, block_none}
use Rattle.block_code.proofs.text.add_blocks.Goals as goal

pub loop-number-preserved : goal.loop-number-preserved
loop-number-preserved c =
    block_more c.args.names.now (plain_tables c.args.tables.now) c.args.blocks.now c.loop-number.number c.index-blocks-number.result (string_bytes c.loop-number.text) (string_bytes c.add_block.new.text) _
    c.loop-number-test.true c.index-blocks-number.is c.loop-number.invariant c.in_ok-add_block.ensures

pub returns : goal.returns
returns c = sym (block_none c.args.names.now (plain_tables c.args.tables.now) c.args.blocks.now c.loop-number.number (string_bytes c.loop-number.text) c.loop-number-test.false) ∙ c.loop-number.invariant

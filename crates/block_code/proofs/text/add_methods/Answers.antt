use Rattle.std.proofs.Common.{◌+◌, ◌∙◌, sym, string_bytes}
use Rattle.block_code.specs.PlainBlocks.{plain_blocks}
use Rattle.block_code.specs.GraphViews.{graph_tables, graph_blocks}
use Rattle.block_code.proofs.TextLaws.{method_more, method_none}
use Rattle.block_code.proofs.text.add_methods.Goals as goal

pub loop-number-preserved : goal.loop-number-preserved
loop-number-preserved c =
    method_more c.args.names.now (graph_tables c.args.graph.now) (graph_blocks c.args.graph.now) c.args.class.0 c.args.first c.args.sigs.now c.loop-number.number c.index-sigs-number.result (plain_blocks c.at-blocks.result.now)
    (string_bytes c.loop-number.text) (string_bytes c.add_method.new.text) _ c.loop-number-test.true c.index-sigs-number.is c.at-blocks.ensures c.loop-number.invariant c.in_ok-add_method.ensures

pub returns : goal.returns
returns c = sym (method_none c.args.names.now (graph_tables c.args.graph.now) (graph_blocks c.args.graph.now) c.args.class.0 (c.args.first + c.loop-number.number) c.args.sigs.now c.loop-number.number (string_bytes c.loop-number.text) c.loop-number-test.false) ∙ c.loop-number.invariant

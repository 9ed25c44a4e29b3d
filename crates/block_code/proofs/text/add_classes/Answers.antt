use Rattle.std.proofs.Common.{◌∙◌, sym, string_bytes}
use Rattle.block_code.specs.GraphViews.{graph_tables, graph_blocks}
use Rattle.block_code.proofs.TextLaws.{class_more, class_none}
use Rattle.block_code.proofs.text.add_classes.Goals as goal

pub loop-number-preserved : goal.loop-number-preserved
loop-number-preserved c =
    class_more c.args.names.now (graph_tables c.args.graph.now) (graph_blocks c.args.graph.now) c.args.tables.now c.loop-number.number c.index-tables-number.result (string_bytes c.loop-number.text) (string_bytes c.add_class.new.text) _
    c.loop-number-test.true c.index-tables-number.is c.loop-number.invariant c.in_ok-add_class.ensures

pub returns : goal.returns
returns c = sym (class_none c.args.names.now (graph_tables c.args.graph.now) (graph_blocks c.args.graph.now) c.args.tables.now c.loop-number.number (string_bytes c.loop-number.text) c.loop-number-test.false) ∙ c.loop-number.invariant

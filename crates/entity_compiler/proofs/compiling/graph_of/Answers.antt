use Rattle.entity_compiler.proofs.WholeGraphs.{blocks_fit, none_go_back, cut_blocks, graph_if_made}
use Rattle.entity_compiler.proofs.compiling.graph_of.Goals as goal

pub trim-requires-clause-fits : goal.trim-requires-clause-fits
trim-requires-clause-fits c = blocks_fit c.args.program.now c.in_ok-calls.calls c.in_ok-calls.ensures _ c.in_ok-blocks.ensures

pub trim-requires-clause-begins : goal.trim-requires-clause-begins
trim-requires-clause-begins c = none_go_back c.args.program.now c.in_ok-calls.calls c.in_ok-calls.ensures _ c.in_ok-blocks.ensures

pub new-requires : goal.new-requires
new-requires c = c.in_ok-cut.ensures.fits

pub returns : goal.returns
returns c =
    let of = c.in_ok-cut.ensures in
    graph_if_made c.args.program.now _ (cut_blocks c.args.program.now c.in_ok-calls.calls c.in_ok-calls.ensures _ _ c.in_ok-blocks.ensures of.cut of.live of.fits of.means)
    c.new.result c.new.ensures.tables c.new.ensures.blocks

use Rattle.std.proofs.Common.{◌<◌, subst}
use Rattle.py_tree.specs.CheckedViews.{checked_program, checked_names}
use Rattle.block_code.specs.PlainBlocks.{plain_methods}
use Rattle.live_laws.specs.Cut.{AreCut}
use Rattle.live_laws.proofs.CutGraphs.{graph_fits, methods_mean}
use Rattle.live_laws.proofs.LiveParams.{graph_live}
use Rattle.live_laws.proofs.AlikeEvents.{still_means}
use Rattle.live_vars.proofs.CutSoFar.{methods_begin, method_next, known_of, methods_cut}
use Rattle.live_vars.proofs.cutting.trim.Goals as goal

pub loop-i-init : goal.loop-i-init
loop-i-init c = methods_begin (plain_methods c.args.blocks)

pub loop-i-preserved : goal.loop-i-preserved
loop-i-preserved c = method_next c.loop-i.i c.args.blocks c.loop-i.made c.at_mut.result.now c.trim_method.new.blocks c.loop-i.invariant (subst (λ n. c.loop-i.i < n) c.len-i-end.ensures c.loop-i-test.true) c.at_mut.ensures.value c.in_ok-trim_method.ensures

pub returns-clause-cut : goal.returns-clause-cut
returns-clause-cut c = methods_cut c.args.program.now c.loop-i.i c.len-i-end.result c.args.blocks c.loop-i.made c.requires.fits c.loop-i.invariant c.len-i-end.ensures c.loop-i-test.false

pub returns-clause-live : goal.returns-clause-live
returns-clause-live c = graph_live (checked_names c.args.program.now) (checked_program c.args.program.now) (plain_methods c.args.blocks) (plain_methods c.loop-i.made) (methods_cut c.args.program.now c.loop-i.i c.len-i-end.result c.args.blocks c.loop-i.made c.requires.fits c.loop-i.invariant c.len-i-end.ensures c.loop-i-test.false) c.requires.fits

pub returns-clause-fits : goal.returns-clause-fits
returns-clause-fits c = graph_fits (checked_names c.args.program.now) (checked_program c.args.program.now) (plain_methods c.args.blocks) (plain_methods c.loop-i.made) (methods_cut c.args.program.now c.loop-i.i c.len-i-end.result c.args.blocks c.loop-i.made c.requires.fits c.loop-i.invariant c.len-i-end.ensures c.loop-i-test.false) c.requires.begins c.requires.fits

pub returns-clause-bodies : goal.returns-clause-bodies
returns-clause-bodies c = methods_mean (checked_names c.args.program.now) (checked_program c.args.program.now) (plain_methods c.args.blocks) (plain_methods c.loop-i.made) (methods_cut c.args.program.now c.loop-i.i c.len-i-end.result c.args.blocks c.loop-i.made c.requires.fits c.loop-i.invariant c.len-i-end.ensures c.loop-i-test.false)

pub returns-clause-means : goal.returns-clause-means
returns-clause-means c =
    let cut : AreCut (plain_methods c.args.blocks) (plain_methods c.loop-i.made) = methods_cut c.args.program.now c.loop-i.i c.len-i-end.result c.args.blocks c.loop-i.made c.requires.fits c.loop-i.invariant c.len-i-end.ensures c.loop-i-test.false in
    still_means (checked_names c.args.program.now) (checked_program c.args.program.now) (known_of c.args.program.now) (plain_methods c.args.blocks) (plain_methods c.loop-i.made) cut (graph_fits (checked_names c.args.program.now) (checked_program c.args.program.now) (plain_methods c.args.blocks) (plain_methods c.loop-i.made) cut c.requires.begins c.requires.fits)

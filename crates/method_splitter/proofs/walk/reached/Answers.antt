use Rattle.std.proofs.Common.{◌<◌, ◌≤◌, arith, length, sym, ◌∙◌}
use Rattle.method_splitter.proofs.ReachedParts.{goes_further, ends_here, ends_there}
use Rattle.method_splitter.proofs.walk.reached.Goals as goal

pub returns-then-stops-clause-part : goal.returns-then-stops-clause-part
returns-then-stops-clause-part c =
    let within : c.loop-i.i < length c.args.stmts.now = omega arith in
    ends_here c.args.stmts.now _ c.loop-i.i c.index-stmts-i.result within c.index-stmts-i.is (sym c.stops.ensures ∙ c.if-stops.true) c.loop-i.invariant

pub loop-i-preserved : goal.loop-i-preserved
loop-i-preserved c =
    let within : c.loop-i.i < length c.args.stmts.now = omega arith in
    goes_further c.args.stmts.now _ c.loop-i.i c.index-stmts-i.result within c.index-stmts-i.is (sym c.stops.ensures ∙ c.if-stops.false) c.loop-i.invariant

pub returns-clause-part : goal.returns-clause-part
returns-clause-part c =
    let past : length c.args.stmts.now ≤ c.loop-i.i = omega arith in
    let whole : length c.args.stmts.now ≤ length c.args.stmts.now = omega arith in
    ends_there c.args.stmts.now _ c.loop-i.i (length c.args.stmts.now) past whole c.loop-i.invariant

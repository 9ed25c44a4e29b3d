use Rattle.std.proofs.Common.{◌≡◌, ◌-◌, suc, Some, length, sym, ap, refl, ◌∙◌}
use Rattle.std.specs.Prelude.{slice_get}
use Rattle.block_code.specs.declared.event.Frame.{Frame}
use Rattle.block_code.specs.GraphViews.{graph_tables, graph_blocks}
use Rattle.event_step.specs.Frames.{is_catching}
use Rattle.event_step.proofs.FrameLaws.{not_empty, last_there, stays, drops, none_stays}
use Rattle.event_step.proofs.frames.drop_to_catch.Goals as goal

pub returns-then-catches_at : goal.returns-then-catches_at
returns-then-catches_at c =
    let at = c.len-last.result - 1 in
    let long : length c.frames.frames ≡ suc at = not_empty c.frames.frames c.is_empty.result at c.frames-test.true c.is_empty.ensures.1 (ap (λ n. n - 1) c.len-last.ensures) in
    let x : (x : Frame) × (slice_get c.frames.frames at ≡ Some x) = last_there c.frames.frames at long in
    stays c.frames.frames c.frames.frames at x.0 long x.1 (is_catching (graph_tables c.args.graph.now) (graph_blocks c.args.graph.now) c.args.failure.now) (sym (c.if-catches_at.ensures x.0 x.1))
    ∙ c.frames.invariant

pub frames-preserved : goal.frames-preserved
frames-preserved c =
    let at = c.len-last.result - 1 in
    let long : length c.frames.frames ≡ suc at = not_empty c.frames.frames c.is_empty.result at c.frames-test.true c.is_empty.ensures.1 (ap (λ n. n - 1) c.len-last.ensures) in
    drops c.frames.frames c.remove.new.self at c.remove.result long c.remove.ensures.value c.remove.ensures.rest (is_catching (graph_tables c.args.graph.now) (graph_blocks c.args.graph.now) c.args.failure.now) (sym (c.if-catches_at.ensures c.remove.result c.remove.ensures.value))
    ∙ c.frames.invariant

pub returns : goal.returns
returns c = none_stays (is_catching (graph_tables c.args.graph.now) (graph_blocks c.args.graph.now) c.args.failure.now) c.frames.frames (c.frames-test.ensures.0 refl) ∙ c.frames.invariant

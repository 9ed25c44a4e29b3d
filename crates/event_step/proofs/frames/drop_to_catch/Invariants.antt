use Rattle.std.proofs.Common.{◌≡◌, length}
use Rattle.block_code.specs.GraphViews.{graph_tables, graph_blocks}
use Rattle.event_step.specs.Frames.{staying}
use Rattle.event_step.proofs.frames.drop_to_catch.Given as goal

abbrev pub invariant-frames : goal.invariant-frames
invariant-frames l = staying (graph_tables l.graph) (graph_blocks l.graph) l.frames l.failure ≡ staying (graph_tables l.graph) (graph_blocks l.graph) l.initial.frames l.failure

abbrev pub decreases-frames : goal.decreases-frames
decreases-frames l = length l.frames

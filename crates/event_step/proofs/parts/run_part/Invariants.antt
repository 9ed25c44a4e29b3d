use Rattle.block_code.specs.PlainBlocks.{plain_blocks}
use Rattle.block_runs.specs.EventStep.{Part as BlockPart}
use Rattle.event_step.specs.Turns.{CanRun, Runs}
use Rattle.event_step.proofs.LowerRanks.{left}
use Rattle.event_step.proofs.parts.run_part.Given as goal

abbrev pub invariant-turns : goal.invariant-turns
invariant-turns l = record {
  due : CanRun l.place (plain_blocks l.blocks) l.number l.running;
  leads : (p : BlockPart) → Runs l.place (plain_blocks l.blocks) l.initial.number l.initial.running p → Runs l.place (plain_blocks l.blocks) l.number l.running p;
}

abbrev pub decreases-turns : goal.decreases-turns
decreases-turns l = left (plain_blocks l.blocks) l.number l.running.steps

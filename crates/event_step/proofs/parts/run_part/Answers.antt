use Rattle.std.proofs.Common.{◌<◌, Ok, sym, subst}
use Rattle.block_code.specs.PlainBlocks.{plain_block, plain_blocks}
use Rattle.block_runs.specs.EventStep.{Part as BlockPart}
use Rattle.event_step.specs.Turns.{Runs, TurnsAs, block_at}
use Rattle.event_step.proofs.LowerRanks.{left}
use Rattle.event_step.proofs.BlockLaws.{goes_on, ends_there, is_there}
use Rattle.event_step.proofs.parts.run_part.Goals as goal

pub unreachable-requires : goal.unreachable-requires
unreachable-requires c = is_there c.args.place.now (plain_blocks c.args.blocks.now) c.turns.number c.turns.running c.turns.invariant.due (sym c.in_default.ensures)

pub turns-smaller : goal.turns-smaller
turns-smaller c =
    (goes_on c.args.place.now (plain_blocks c.args.blocks.now) c.requires.ranks c.turns.number (plain_block c.in-Some.block.now) (sym c.in-Some.ensures) c.turns.running c.run_block.new.running c.in-Goes.next
    (subst (λ t. TurnsAs (Ok t) c.run_block.new.running (block_at c.args.place.now c.turns.number (plain_block c.in-Some.block.now) c.turns.running)) c.in-Goes.is c.in_ok-next.ensures) c.turns.invariant.due.part c.turns.invariant.due.runs).0

pub turns-preserved : goal.turns-preserved
turns-preserved c =
    let goes : (p : BlockPart) → Runs c.args.place.now (plain_blocks c.args.blocks.now) c.turns.number c.turns.running p → (left (plain_blocks c.args.blocks.now) c.in-Goes.next c.run_block.new.running.steps < left (plain_blocks c.args.blocks.now) c.turns.number c.turns.running.steps) × Runs c.args.place.now (plain_blocks c.args.blocks.now) c.in-Goes.next c.run_block.new.running p =
    goes_on c.args.place.now (plain_blocks c.args.blocks.now) c.requires.ranks c.turns.number (plain_block c.in-Some.block.now) (sym c.in-Some.ensures) c.turns.running c.run_block.new.running c.in-Goes.next
    (subst (λ t. TurnsAs (Ok t) c.run_block.new.running (block_at c.args.place.now c.turns.number (plain_block c.in-Some.block.now) c.turns.running)) c.in-Goes.is c.in_ok-next.ensures) in
    record {
      due = record { part = c.turns.invariant.due.part; runs = (goes c.turns.invariant.due.part c.turns.invariant.due.runs).1 };
      leads = λ p runs. (goes p (c.turns.invariant.leads p runs)).1;
    }

pub returns-in-Ends : goal.returns-in-Ends
returns-in-Ends c = λ p runs.
    ends_there c.args.place.now (plain_blocks c.args.blocks.now) c.requires.ranks c.turns.number (plain_block c.in-Some.block.now) (sym c.in-Some.ensures) c.turns.running c.run_block.new.running c.in-Ends.part
    (subst (λ t. TurnsAs (Ok t) c.run_block.new.running (block_at c.args.place.now c.turns.number (plain_block c.in-Some.block.now) c.turns.running)) c.in-Ends.is c.in_ok-next.ensures) p (c.turns.invariant.leads p runs)

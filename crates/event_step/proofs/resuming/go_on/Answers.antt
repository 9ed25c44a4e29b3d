use Rattle.event_step.proofs.StepLaws.{goes_on_from, ok_comes_as}
use Rattle.block_code.specs.PlainBlocks.{plain_block}
use Rattle.event_step.specs.Frames.{plain_awaits}
use Rattle.event_step.proofs.resuming.go_on.Goals as goal

pub returns-in-Ok : goal.returns-in-Ok
returns-in-Ok c =
    ok_comes_as c.run_from.result _ _
    (goes_on_from c.args.code.now c.args.last c.args.tx c.args.frames c.args.steps c.args.held c.args.value c.assign_local.new.vars (plain_block c.in-Some.block.now) (plain_awaits c.in-Some-awaited.awaits) c.in-Some.ensures c.in-Some-awaited.ensures c.in-Ok.ensures)
    c.run_from.ensures

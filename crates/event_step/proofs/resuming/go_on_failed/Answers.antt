use Rattle.std.proofs.Common.{ap, ◌∙◌}
use Rattle.block_code.specs.PlainBlocks.{plain_block, plain_catches}
use Rattle.block_code.specs.EventsFit.{catch_of}
use Rattle.event_step.proofs.StepLaws.{caught_from, ok_comes_as}
use Rattle.event_step.proofs.resuming.go_on_failed.Goals as goal

pub returns : goal.returns
returns c =
    ok_comes_as c.run_from.result _ _
    (caught_from c.args.code.now c.args.last c.args.tx c.args.frames c.args.steps c.args.held c.args.failure (plain_block c.in-Some.block.now) c.in-Some-catch_of.to c.in-Some.ensures (c.in-Some-catch_of.ensures ∙ ap (λ l. catch_of (plain_catches l) c.args.failure.kind) c.as_slice.ensures))
    c.run_from.ensures

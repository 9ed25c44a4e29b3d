use Rattle.std.proofs.Common.{◌≡◌, drop}
use Rattle.block_code.specs.PlainBlocks.{plain_catches}
use Rattle.block_code.specs.EventsFit.{catch_of}
use Rattle.event_step.proofs.blocks.catch_of.Given as goal

abbrev pub invariant-loop-catch : goal.invariant-loop-catch
invariant-loop-catch l = catch_of (plain_catches (drop l.catch-index l.catches)) l.kind ≡ catch_of (plain_catches l.catches) l.kind

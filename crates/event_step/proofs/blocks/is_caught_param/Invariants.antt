use Rattle.std.proofs.Common.{◌≡◌, drop}
use Rattle.std.specs.Prelude.{◌==◌, slice_get}
use Rattle.std.specs.List.{list_any, flat_map}
use Rattle.block_code.specs.PlainBlocks.{plain_blocks, plain_catches}
use Rattle.block_code.specs.EventsFit.{params_if_there}
use Rattle.event_step.proofs.blocks.is_caught_param.Given as goal

abbrev pub invariant-loop-catch : goal.invariant-loop-catch
invariant-loop-catch l =
    list_any (λ p. p.name == l.name.0) (flat_map (λ c. params_if_there (slice_get (plain_blocks l.blocks) c.to)) (plain_catches (drop l.catch-index l.catches)))
    ≡ list_any (λ p. p.name == l.name.0) (flat_map (λ c. params_if_there (slice_get (plain_blocks l.blocks) c.to)) (plain_catches l.catches))

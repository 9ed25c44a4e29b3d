use Rattle.std.proofs.Common.{◌+◌, ◌||◌, drop, ap, sym, ◌∙◌}
use Rattle.std.specs.Prelude.{◌==◌, slice_get}
use Rattle.std.specs.List.{list_any, flat_map}
use Rattle.block_code.specs.PlainVars.{PlainVar}
use Rattle.block_code.specs.PlainBlocks.{PlainCatch, plain_blocks, plain_catches}
use Rattle.block_code.specs.EventsFit.{params_if_there}
use Rattle.event_step.proofs.FrameLaws.{param_next}
use Rattle.event_step.proofs.blocks.is_caught_param.Goals as goal

pub returns-then-is_param : goal.returns-then-is_param
returns-then-is_param c =
    ap (λ b. b || list_any (λ (p : PlainVar). p.name == c.args.name.0) (flat_map (λ (k : PlainCatch). params_if_there (slice_get (plain_blocks c.args.blocks.now) k.to)) (plain_catches (drop (c.loop-catch.catch-index + 1) c.args.catches.now)))) c.if-is_param.ensures
    ∙ sym (param_next (λ (p : PlainVar). p.name == c.args.name.0) (λ (k : PlainCatch). params_if_there (slice_get (plain_blocks c.args.blocks.now) k.to)) c.args.catches.now c.loop-catch.catch-index c.catch-item.result c.loop-catch-test.true c.catch-item.is)
    ∙ c.loop-catch.invariant

pub loop-catch-preserved : goal.loop-catch-preserved
loop-catch-preserved c =
    ap (λ b. b || list_any (λ (p : PlainVar). p.name == c.args.name.0) (flat_map (λ (k : PlainCatch). params_if_there (slice_get (plain_blocks c.args.blocks.now) k.to)) (plain_catches (drop (c.loop-catch.catch-index + 1) c.args.catches.now)))) c.if-is_param.ensures
    ∙ sym (param_next (λ (p : PlainVar). p.name == c.args.name.0) (λ (k : PlainCatch). params_if_there (slice_get (plain_blocks c.args.blocks.now) k.to)) c.args.catches.now c.loop-catch.catch-index c.catch-item.result c.loop-catch-test.true c.catch-item.is)
    ∙ c.loop-catch.invariant

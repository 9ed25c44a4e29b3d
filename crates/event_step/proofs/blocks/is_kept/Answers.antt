use Rattle.std.proofs.Common.{◌||◌, ap, sym, ◌∙◌}
use Rattle.std.specs.Prelude.{◌==◌, slice_get}
use Rattle.std.specs.List.{list_any, flat_map}
use Rattle.block_code.specs.PlainVars.{PlainVar}
use Rattle.block_code.specs.PlainBlocks.{PlainCatch, plain_block, plain_blocks, plain_catches}
use Rattle.block_code.specs.EventsFit.{params_if_there}
use Rattle.event_step.specs.Frames.{plain_awaits}
use Rattle.event_step.proofs.FrameLaws.{kept_name}
use Rattle.event_step.proofs.blocks.is_kept.Goals as goal

pub returns-then-is_read_after : goal.returns-then-is_read_after
returns-then-is_read_after c =
    ap (λ b. b || list_any (λ (p : PlainVar). p.name == c.args.name.0) (flat_map (λ (k : PlainCatch). params_if_there (slice_get (plain_blocks c.args.blocks.now) k.to)) (plain_catches c.args.block.now.catches))) c.if-is_read_after.ensures
    ∙ sym (kept_name c.args.name.0 (plain_blocks c.args.blocks.now) (plain_block c.args.block.now) (plain_awaits c.args.awaits))

pub returns : goal.returns
returns c =
    c.is_caught_param.ensures
    ∙ ap (λ l. list_any (λ (p : PlainVar). p.name == c.args.name.0) (flat_map (λ (k : PlainCatch). params_if_there (slice_get (plain_blocks c.args.blocks.now) k.to)) (plain_catches l))) c.as_slice.ensures
    ∙ ap (λ b. b || list_any (λ (p : PlainVar). p.name == c.args.name.0) (flat_map (λ (k : PlainCatch). params_if_there (slice_get (plain_blocks c.args.blocks.now) k.to)) (plain_catches c.args.block.now.catches))) c.if-is_read_after.ensures
    ∙ sym (kept_name c.args.name.0 (plain_blocks c.args.blocks.now) (plain_block c.args.block.now) (plain_awaits c.args.awaits))

use Rattle.std.proofs.Common.{◌≡◌, drop}
use Rattle.block_code.specs.PlainBlocks.{plain_catches}
use Rattle.live_vars.specs.Saved.{sets_of, caught_by}
use Rattle.live_vars.proofs.live_sets.caught_by.Given as goal

abbrev pub invariant-loop-catch : goal.invariant-loop-catch
invariant-loop-catch l = caught_by (sets_of l.sets) (plain_catches (drop l.catch-index l.catches)) l.name.0 ≡ caught_by (sets_of l.sets) (plain_catches l.catches) l.name.0

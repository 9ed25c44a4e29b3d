-- Where a store is behind a checkpoint.
use Rattle.std.specs.Prelude.{length, drop}
use Rattle.std.specs.List.{sum_by}
use Rattle.byte_sizes.specs.Sizes.{entry_size}
use Rattle.store_meaning.specs.Vocabulary.{Core}
use Rattle.store_meaning.specs.declared.position.Position.{Position}
use Rattle.store_meaning.specs.Checkpoints.{next_of}

-- behind the head of this core, with all of its history
abbrev pub kept_at : Position → Core → Position
kept_at position core = next_of position (sum_by entry_size (drop position.kept core.history)) (length core.history)

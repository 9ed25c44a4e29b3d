-- Where a store of a core is, as its entries and batches say it. It asks nothing of a disk, so it says the place also of one that tells nothing.
use Rattle.std.specs.Prelude.{ℕ, ◌≡◌, ◌+◌, List, length}
use Rattle.std.specs.List.{sum_by}
use Rattle.sf_value.specs.declared.BatchRecord.{BatchRecord}
use Rattle.byte_sizes.specs.Sizes.{batch_size, entry_size}
use Rattle.store_meaning.specs.Vocabulary.{Core}
use Rattle.store_meaning.specs.declared.position.Position.{Position}
use Rattle.store_meaning.specs.StandsFor.{Program, Replays}

-- the gate, the length and the batch
abbrev pub record_size : BatchRecord → ℕ
record_size batch = 5 + batch_size batch

-- Behind the history of an earlier core, which the head keeps, with its entries and the bytes that these take; and in the log behind the records of
-- the batches that made this core of that one.
pub record IsPlaced (p : Program) (core : Core) (position : Position) : Type 0 where
  pub kept : Core
  pub batches : List BatchRecord
  pub replays : Replays p kept batches core
  pub count : position.kept ≡ length kept.history
  pub bytes : position.bytes ≡ sum_by entry_size kept.history
  pub at : position.at ≡ sum_by record_size batches

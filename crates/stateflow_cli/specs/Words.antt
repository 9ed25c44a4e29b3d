-- What the words of a call ask for.
use Rattle.std.specs.Prelude.{◌≤◌}
use Rattle.operator_graph.specs.Partitions.{IsParts}
use Rattle.command_words.specs.Commands as words
pub use Rattle.command_words.specs.Commands.{Asked, Check, Compile, Local, Run, Gen, Export, Audit}

-- batches of 1 to 256 requests, as many partitions as there may be, and a checkpoint behind each so many batches
pub record AreInRange (settings : words.RunSettings) : Type 0 where
  pub some : 1 ≤ settings.batch
  pub few : settings.batch ≤ 256
  pub partitions : IsParts settings.partitions
  pub every : 1 ≤ settings.every

-- at most 100,000 requests, in batches of 1 to 256, and as many partitions as there may be
pub record IsWorkInRange (settings : words.GenSettings) : Type 0 where
  pub size : settings.size ≤ 100000
  pub some : 1 ≤ settings.batch
  pub few : settings.batch ≤ 256
  pub partitions : IsParts settings.partitions

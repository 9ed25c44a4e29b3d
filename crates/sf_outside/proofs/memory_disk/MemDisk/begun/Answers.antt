use Rattle.std.proofs.Common.{◌+◌, arith}
use Rattle.sf_outside.proofs.ImageLaws.{longest_fits}
use Rattle.sf_outside.proofs.memory_disk.MemDisk.begun.Goals as goal

pub copied-requires : goal.copied-requires
copied-requires c = longest_fits c.args.start.image (c.longest.result + 1048576) (omega (arith, c.longest.ensures.is))

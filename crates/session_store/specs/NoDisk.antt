-- What is told of the mounts of a disk that was never mounted.
use Rattle.std.specs.Prelude.{None}
use Rattle.sf_outside.specs.DiskModel.{Mounts}

abbrev pub no_mounts : Mounts
no_mounts = record { count = 0; name = None; moment = 0; refused = λ name. 0 }

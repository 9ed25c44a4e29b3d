use Rattle.std.proofs.Common.{◌≡◌, ◌-◌, ◌^◌, ◌≤◌, IfSome}
use Rattle.sf_outside.specs.DiskModel.{of_file, Stays}
use Rattle.recovery.specs.Answers.{AreLogged}
use Rattle.recovery.specs.StoreImage.{RecordsTo}
use Rattle.recovery.proofs.log.read_log.Given as goal

-- the records up to the place were read, and nothing was changed
abbrev pub invariant-loop-batches : goal.invariant-loop-batches
invariant-loop-batches g l = record {
  logged : AreLogged l.batches l.at;
  seen : IfSome (g.D.Disk.facts l.fn.disk).seen (λ now. RecordsTo (of_file l.fn.file now) 0 l.batches l.at);
  stays : Stays (g.D.Disk.facts l.fn.disk) (g.D.Disk.facts l.disk);
  later : g.D.Disk.faults l.fn.disk ≤ g.D.Disk.faults l.disk;
  mounts : g.D.Disk.mounts l.disk ≡ g.D.Disk.mounts l.fn.disk;
}

-- each record moves the place on, and places have an end
abbrev pub decreases-loop-batches : goal.decreases-loop-batches
decreases-loop-batches g l = 2 ^ 64 - l.at

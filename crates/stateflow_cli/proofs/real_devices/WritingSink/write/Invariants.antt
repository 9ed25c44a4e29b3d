use Rattle.std.proofs.Common.{length, ◌-◌, ◌≤◌, take}
use Rattle.std.specs.Io.KnownBytes.{Appends}
use Rattle.stateflow_cli.proofs.real_devices.WritingSink.write.Given as goal

-- the first bytes were written
abbrev pub invariant-loop-written : goal.invariant-loop-written
invariant-loop-written g l = record {
  wrote : Appends (g.W.Write.contents l.fn.self.inner) (g.W.Write.contents l.self.inner) (take l.written l.bytes);
  within : l.written ≤ length l.bytes;
  later : l.fn.self.faults ≤ l.self.faults;
}

abbrev pub decreases-loop-written : goal.decreases-loop-written
decreases-loop-written g l = length l.bytes - l.written

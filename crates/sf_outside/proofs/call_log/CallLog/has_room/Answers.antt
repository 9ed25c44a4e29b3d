use Rattle.std.proofs.Common.{arith}
use Rattle.std.proofs.lemmas.Grind.{common_steps}
use Rattle.std.proofs.lemmas.Bool.Decides.{nat_tests}
use Rattle.sf_outside.proofs.LogLaws.{bytes_written-calls_of}
use Rattle.sf_outside.proofs.call_log.CallLog.has_room.Goals as goal

pub returns-then-used-self : goal.returns-then-used-self
returns-then-used-self c =
    let used = bytes_written-calls_of c.self.inside.notes.items c.self.inside.bytes.items c.self.invariant.0 in
    rw (← c.self.view_is) (grind (arith, nat_tests, common_steps))

pub returns-else-used-self : goal.returns-else-used-self
returns-else-used-self c =
    let used = bytes_written-calls_of c.self.inside.notes.items c.self.inside.bytes.items c.self.invariant.0 in
    rw (← c.self.view_is) (grind (arith, nat_tests, common_steps))

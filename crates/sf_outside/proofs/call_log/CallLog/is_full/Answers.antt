use Rattle.std.proofs.Common.{arith}
use Rattle.std.proofs.lemmas.Grind.{common_steps}
use Rattle.sf_outside.proofs.LogLaws.{length-calls_of}
use Rattle.sf_outside.proofs.call_log.CallLog.is_full.Goals as goal

pub returns : goal.returns
returns c = rw (← c.self.view_is) (grind (arith, common_steps, length-calls_of c.self.inside.notes.items c.self.inside.bytes.items))

use Rattle.std.proofs.Common.{take}
use Rattle.sf_outside.specs.Replays.{Played}
use Rattle.sf_outside.proofs.call_log.CallLog.replay.Given as goal

abbrev pub invariant-loop-note : goal.invariant-loop-note
invariant-loop-note l = Played l.fill l.self-inside.bytes.items l.fn.now l.fn.left (take l.note-index l.notes) l.used l.now l.left

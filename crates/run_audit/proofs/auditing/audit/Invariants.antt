use Rattle.std.proofs.Common.{◌≡◌, ◌≤◌, ◌+◌, ℕ, List, length}
use Rattle.program_meaning.specs.Sources.{source_of}
use Rattle.run_audit.specs.Standings.{judged_by, Stands}
use Rattle.run_audit.proofs.AuditLaws.{Audited}
use Rattle.run_audit.proofs.auditing.audit.Given as goal

-- each line has a byte at least, its end
abbrev pub decreases-lines : goal.decreases-lines
decreases-lines g l = l.lines.room + length l.lines.piece

abbrev pub invariant-lines : goal.invariant-lines
invariant-lines g l = record {
  audited : Audited (source_of l.program) l.limit (g.F.Files.content l.fn.files l.name) l.lines (judged_by l.judge);
  stands : Stands l.judge;
  room : l.lines.room ≤ l.limit;
  kept : (q : List ℕ) → g.F.Files.content l.files q ≡ g.F.Files.content l.fn.files q;
  later : (q : List ℕ) → g.F.Files.faults l.fn.files q ≤ g.F.Files.faults l.files q;
}

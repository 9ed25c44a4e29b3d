-- What an audit of a file answers.
use Rattle.std.specs.Prelude.{◌≡◌, ℕ, ◌≤◌, ◌<◌, ◌⊎◌, List, length, take, Some, None, Ok, Err, ⊤}
use Rattle.std.specs.declared.result.Result.{Result}
use Rattle.program_meaning.specs.ClassTables.{Source}
use Rattle.run_audit.specs.declared.verdict.Verdict.{Verdict}
use Rattle.run_audit.specs.declared.fault.AuditFault.{AuditFault}
use Rattle.run_audit.specs.declared.fault.AuditFault.TheVariants.{ReadFault, InputTooLong, NoMemory}
use Rattle.run_audit.specs.Verdict.{verdict_of}
use Rattle.run_audit.specs.Fronts.{decided}

-- A file of so many bytes at most has its verdict. A longer one has it where its first so many bytes decide it, and is too long where they don't.
abbrev pub Audits : Source → ℕ → List ℕ → Result Verdict AuditFault → Type 0
Audits src limit all (Ok v) = (verdict_of src all ≡ v) × ((length all ≤ limit) ⊎ (decided src (take limit all) ≡ Some v))
Audits src limit all (Err ReadFault) = ⊤
Audits src limit all (Err InputTooLong) = (limit < length all) × (decided src (take limit all) ≡ None)
Audits src limit all (Err NoMemory) = ⊤

-- What is exported of a sound history is serial, and no reply of it is too long to be audited.
use Rattle.std.specs.Prelude.{◌≡◌, ◌≤◌, ℕ, List, length}
use Rattle.std.specs.List.{AllByRecursion}
use Rattle.py_tree.specs.PlainProgram.{PlainProgram}
use Rattle.sf_value.specs.declared.Entry.{Entry}
use Rattle.sf_value.specs.declared.Outcome.{Outcome}
use Rattle.sf_outside.specs.Gains.{joined}
use Rattle.byte_sizes.specs.Spelt.{IsRealEntry, IsRealOutcome}
use Rattle.program_meaning.specs.ClassTables.{Source}
use Rattle.program_meaning.specs.LightValues.{OutcomeIsLight}
use Rattle.program_meaning.specs.NothingGoesWrong.{IsKnownAccepted}
use Rattle.program_meaning.specs.Serial.{Core}
use Rattle.request_history.specs.SoundHistory.{IdFits, IsSoundHistory}
use Rattle.request_json.specs.RequestLines.{longest}
use Rattle.request_json.specs.RequestTexts.{request_text}
use Rattle.run_audit.specs.declared.verdict.Verdict.TheVariants as verdict
use Rattle.run_audit.specs.Verdict.{longest_reply, last_entry, reply_text, verdict_of}
use Rattle.export_laws.specs.Exports.{history_lines}

-- the reply to what an expression or a failure gives has no more bytes than an audit reads of a line
abbrev pub RepliesAreShort : Type 0
RepliesAreShort =
    (id : List ℕ) (o : Outcome) (place : ℕ) → IdFits id → OutcomeIsLight o → IsRealOutcome o → place ≤ last_entry → length (reply_text id o place) ≤ longest_reply

-- the text of an entry's request has no more bytes than a line may have
abbrev pub IsAskedInLine : Source → Entry → Type 0
IsAskedInLine src e = length (request_text src e.request) ≤ longest

-- the history of a core can be exported so that it is read again: what it holds is real, no line is too long, and no place is too high
pub record CanBeAudited (src : Source) (core : Core) : Type 0 where
  pub sound : IsSoundHistory src core
  pub real : AllByRecursion IsRealEntry core.history
  pub lines : AllByRecursion (IsAskedInLine src) core.history
  pub few : length core.history ≤ last_entry

abbrev pub ExportsAreSerial : Type 0
ExportsAreSerial =
    (names : List (List ℕ)) (program : PlainProgram) → IsKnownAccepted names program → (core : Core) → CanBeAudited (record { program = program; names = names }) core
    → verdict_of (record { program = program; names = names }) (joined (history_lines (record { program = program; names = names }) core.history)) ≡ verdict.Serial (length core.history)

-- What is printed of a verdict on a run, and how a call ends by it.
use Rattle.std.specs.Prelude.{ℕ, List, [], ◌∷◌, codes, decimal}
use Rattle.std.specs.List.{concat}
use Rattle.run_audit.specs.declared.verdict.Verdict.{Verdict}
use Rattle.run_audit.specs.declared.verdict.Verdict.TheVariants.{Serial, Differs, BadRun}
use Rattle.stateflow_cli.specs.declared.ending.Finding.TheVariants as of_found
use Rattle.stateflow_cli.specs.declared.ending.Ending.{Ending}
use Rattle.stateflow_cli.specs.declared.ending.Ending.TheVariants.{Printed, Found}

-- `serial: N entries`
abbrev pub serial_line : List ℕ → List ℕ
serial_line digits = concat (codes "serial: " ∷ digits ∷ codes " entries\n" ∷ [])

-- `entry K expected: LINE`, and `entry K found: LINE`
abbrev pub differing_lines : List ℕ → List ℕ → List ℕ → List ℕ
differing_lines digits wanted said =
    concat (codes "entry " ∷ digits ∷ codes " expected: " ∷ wanted ∷ codes "\nentry " ∷ digits ∷ codes " found: " ∷ said ∷ codes "\n" ∷ [])

-- of a line that is bad nothing is printed
abbrev pub verdict_text : Verdict → List ℕ
verdict_text (Serial entries) = serial_line (decimal entries)
verdict_text (Differs place wanted said) = differing_lines (decimal place) wanted said
verdict_text (BadRun line) = []

abbrev pub verdict_ending : Verdict → Ending
verdict_ending (Serial entries) = Printed
verdict_ending (Differs place wanted said) = Found (of_found.NotSerial place)
verdict_ending (BadRun line) = Found (of_found.BadRun line)

-- That a transaction's step runs enough blocks.
use Rattle.std.specs.Prelude.{◌≡◌, ℕ, List, Some}
use Rattle.std.specs.declared.option.Option.{Option}
use Rattle.py_tree.specs.PlainProgram.{PlainProgram}
use Rattle.py_tree.specs.ClassRules.{tables_of}
use Rattle.sf_value.specs.declared.value.Value.{Value}
use Rattle.program_meaning.specs.NothingGoesWrong.{IsKnownAccepted}
use Rattle.block_code.specs.declared.event.Event.{Event}
use Rattle.block_code.specs.PlainBlocks.{PlainBlock}
use Rattle.block_code.specs.GraphFits.{GraphFits}
use Rattle.block_code.specs.EventsFit.{EventFits}
use Rattle.block_runs.specs.EventStep.{Step, StepsTo}
use Rattle.quiet_methods.specs.MarksKeepWithin.{source}
use Rattle.transaction_steps.specs.Transactions.{step_with_enough}

-- an event that fits, and comes to a step at all, comes to it with enough blocks
abbrev pub EnoughBlocks : Type 0
EnoughBlocks = (names : List (List ℕ)) (program : PlainProgram) → IsKnownAccepted names program → (graph : List (List PlainBlock)) → GraphFits names program graph
    → (e : Event) → EventFits (tables_of names program) graph e → (held : Option (List Value)) (s : Step) → StepsTo (source names program) (tables_of names program) graph e held s
    → step_with_enough (source names program) (tables_of names program) graph e held ≡ Some s

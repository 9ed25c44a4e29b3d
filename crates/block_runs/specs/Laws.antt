-- That blocks and events come to one thing.
use Rattle.std.specs.Prelude.{◌≡◌, ℕ, List}
use Rattle.std.specs.declared.option.Option.{Option}
use Rattle.py_tree.specs.ClassRules.{PlainTable}
use Rattle.sf_value.specs.declared.value.Value.{Value}
use Rattle.program_meaning.specs.declared.vars.Var.{Var}
use Rattle.program_meaning.specs.ClassTables.{Source}
use Rattle.program_meaning.specs.World.{World, Gives}
use Rattle.program_meaning.specs.Evaluation.{Site}
use Rattle.block_code.specs.declared.event.Event.{Event}
use Rattle.block_code.specs.PlainBlocks.{PlainBlock}
use Rattle.block_runs.specs.BlockRuns.{ComesTo}
use Rattle.block_runs.specs.EventStep.{Step, StepsTo}

-- an event comes to one step
abbrev pub StepsAreOne : Type 0
StepsAreOne = (src : Source) (tables : List PlainTable) (graph : List (List PlainBlock)) (e : Event) (held : Option (List Value)) (s t : Step) → StepsTo src tables graph e held s → StepsTo src tables graph e held t → s ≡ t

-- the blocks of a method come to one thing on the state
abbrev pub RunsAreOne : Type 0
RunsAreOne = (s : Site World) (blocks : List PlainBlock) (vars : List Var) (w : World) (n : ℕ) (g h : Gives World Value) → ComesTo s blocks vars w n g → ComesTo s blocks vars w n h → g ≡ h

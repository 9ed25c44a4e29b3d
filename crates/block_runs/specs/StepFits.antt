-- An event that fits comes to a step, and what it leaves fits again.
use Rattle.std.specs.Prelude.{◌≡◌, ℕ, List, Some, None}
use Rattle.std.specs.declared.option.Option.{Option}
use Rattle.py_tree.specs.PlainProgram.{PlainProgram}
use Rattle.py_tree.specs.ClassRules.{PlainTable, tables_of}
use Rattle.sf_value.specs.declared.value.Value.{Value}
use Rattle.sf_value.specs.declared.value.Ref.{Ref}
use Rattle.program_meaning.specs.ClassTables.{Source}
use Rattle.program_meaning.specs.Fits.{RecordFits}
use Rattle.program_meaning.specs.NothingGoesWrong.{IsKnownAccepted}
use Rattle.quiet_methods.specs.MarksKeepWithin.{source}
use Rattle.block_code.specs.declared.event.Event.{Event}
use Rattle.block_code.specs.declared.event.EventKind.{EventKind}
use Rattle.block_code.specs.declared.event.EventKind.TheVariants as kind
use Rattle.block_code.specs.PlainBlocks.{PlainBlock}
use Rattle.block_code.specs.GraphFits.{GraphFits}
use Rattle.block_code.specs.EventsFit.{EventFits}
use Rattle.block_runs.specs.EventStep.{Step, StepsTo, lasts, target_of}

-- a record, where there is one, fits its class
abbrev pub HeldFits : List PlainTable → ℕ → Option (List Value) → Type 0
HeldFits tables class None = Unit {0}
HeldFits tables class (Some fields) = RecordFits tables class fields

-- a frame goes on with the record of its entity, so there has to be one
abbrev pub IsThere : EventKind → Option (List Value) → Type 0
IsThere (kind.Resume o) None = ⊥
IsThere k held = Unit {0}

-- an event that is to be handled, with the record of its entity, or none
pub record IsReady (tables : List PlainTable) (graph : List (List PlainBlock)) (e : Event) (held : Option (List Value)) : Type 0 where
  pub fits : EventFits tables graph e
  pub target : Ref
  pub is_target : target_of e.kind (lasts e.frames) ≡ Some target
  pub held_fits : HeldFits tables target.class held
  pub there : IsThere e.kind held

-- it comes to a step; the record that this leaves fits its class, and the next event fits the graph
pub record StepsWell (src : Source) (tables : List PlainTable) (graph : List (List PlainBlock)) (e : Event) (held : Option (List Value)) (class : ℕ) : Type 0 where
  pub step : Step
  pub by : StepsTo src tables graph e held step
  pub held_fits : HeldFits tables class step.held
  pub next_fits : EventFits tables graph step.next

abbrev pub EventsStepWell : Type 0
EventsStepWell = (names : List (List ℕ)) (program : PlainProgram) → IsKnownAccepted names program → (graph : List (List PlainBlock)) → GraphFits names program graph → (e : Event) (held : Option (List Value))
    → (r : IsReady (tables_of names program) graph e held) → StepsWell (source names program) (tables_of names program) graph e held r.target.class

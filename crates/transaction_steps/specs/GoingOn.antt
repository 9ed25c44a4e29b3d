-- That a transaction that fits goes on until it is over.
use Rattle.std.specs.Prelude.{◌≡◌, ◌<◌, ◌≤◌, ℕ, true, false, List, Some, is_some}
use Rattle.std.specs.List.{AllByRecursion}
use Rattle.std.specs.FinMap as map
use Rattle.py_tree.specs.PlainProgram.{PlainProgram}
use Rattle.py_tree.specs.ClassRules.{PlainTable, tables_of}
use Rattle.sf_value.specs.Keys.{key_of}
use Rattle.sf_value.specs.declared.value.Ref.{Ref}
use Rattle.sf_value.specs.declared.Act.{Act}
use Rattle.program_meaning.specs.ClassTables.{Source}
use Rattle.program_meaning.specs.World.{State}
use Rattle.program_meaning.specs.Fits.{StateFits, ActFits}
use Rattle.program_meaning.specs.NothingGoesWrong.{IsKnownAccepted}
use Rattle.block_code.specs.declared.event.Frame.{Frame}
use Rattle.block_code.specs.declared.event.Event.{Event}
use Rattle.block_code.specs.PlainBlocks.{PlainBlock}
use Rattle.block_code.specs.GraphFits.{GraphFits}
use Rattle.block_code.specs.EventsFit.{EventFits}
use Rattle.block_runs.specs.EventStep.{Step, StepsTo, lasts, target_of}
use Rattle.block_runs.specs.StepFits.{IsReady}
use Rattle.block_runs.specs.StepFalls.{weight, FewWait}
use Rattle.quiet_methods.specs.MarksKeepWithin.{source}
use Rattle.request_events.specs.RequestEvents.{behind}
use Rattle.transaction_steps.specs.Transactions.{Transaction, first_of, handled, is_done}

-- each frame waits at an entity that is there
abbrev pub IsThereIn : State → Frame → Type 0
IsThereIn s f = is_some (map.get s (key_of f.at)) ≡ true

abbrev pub FramesThere : State → List Frame → Type 0
FramesThere s frames = AllByRecursion (IsThereIn s) frames

-- a transaction fits: its state and its next event do, with few frames, each at an entity that is there
pub record TransactionFits (tables : List PlainTable) (graph : List (List PlainBlock)) (t : Transaction) : Type 0 where
  pub state : StateFits tables t.world.state
  pub event : EventFits tables graph t.next
  pub few : FewWait t.next
  pub there : FramesThere t.world.state t.next.frames

-- it goes on: its next event has a target, and comes to a step there; what this leaves fits again, and weighs less
pub record GoesOn (src : Source) (tables : List PlainTable) (graph : List (List PlainBlock)) (t : Transaction) : Type 0 where
  pub target : Ref
  pub is_target : target_of t.next.kind (lasts t.next.frames) ≡ Some target
  pub ready : IsReady tables graph t.next (map.get t.world.state (key_of target))
  pub step : Step
  pub by : StepsTo src tables graph t.next (map.get t.world.state (key_of target)) step
  pub is : handled src tables graph t ≡ record { world = behind t.world (key_of target) step; next = step.next }
  pub kept : TransactionFits tables graph (handled src tables graph t)
  pub lighter : weight step.next < weight t.next
  pub written_is_there : step.wrote ≡ true → is_some step.held ≡ true

-- one that fits and isn't over goes on
abbrev pub TransactionsGoOn : Type 0
TransactionsGoOn = (names : List (List ℕ)) (program : PlainProgram) → IsKnownAccepted names program → (graph : List (List PlainBlock)) → GraphFits names program graph
    → (t : Transaction) → TransactionFits (tables_of names program) graph t → is_done t.next.kind ≡ false
    → GoesOn (source names program) (tables_of names program) graph t

-- the first event of a request weighs no more than this: it has at most 100,000 steps, and no frame
abbrev pub most_weight : ℕ
most_weight = 6500000

-- a request that fits begins as a transaction that fits, on a snapshot that fits
abbrev pub TransactionsBegin : Type 0
TransactionsBegin = (names : List (List ℕ)) (program : PlainProgram) (graph : List (List PlainBlock)) (snapshot : State) → StateFits (tables_of names program) snapshot
    → (tx : ℕ) (asked : Act) → ActFits (tables_of names program) asked
    → TransactionFits (tables_of names program) graph (first_of (source names program) snapshot tx asked)
    × (weight (first_of (source names program) snapshot tx asked).next ≤ most_weight)

-- the class of a target is one of the program's, of which there are at most 256
abbrev pub TargetsAreOfFewClasses : Type 0
TargetsAreOfFewClasses = (names : List (List ℕ)) (program : PlainProgram) → IsKnownAccepted names program → (graph : List (List PlainBlock)) (e : Event) → EventFits (tables_of names program) graph e
    → (target : Ref) → target_of e.kind (lasts e.frames) ≡ Some target → target.class < 256

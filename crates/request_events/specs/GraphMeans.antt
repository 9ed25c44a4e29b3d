-- When a graph means its program: the events of each request end as the source's run of it.
use Rattle.std.specs.Prelude.{◌≡◌, ◌≤◌, ℕ, List, Some, slice_get}
use Rattle.py_tree.specs.PlainProgram.{PlainMethod, PlainProgram}
use Rattle.py_tree.specs.ClassRules.{PlainTable, params_of, tables_of}
use Rattle.sf_value.specs.Keys.{Key}
use Rattle.sf_value.specs.Weight.{weight_of}
use Rattle.sf_value.specs.declared.value.Value.{Value}
use Rattle.sf_value.specs.declared.Act.{Act}
use Rattle.program_meaning.specs.ClassTables.{Source, methods_of}
use Rattle.program_meaning.specs.World.{State, World}
use Rattle.program_meaning.specs.Evaluation.{entity}
use Rattle.program_meaning.specs.Calls.{calls_at, in_state, bound, run_body}
use Rattle.program_meaning.specs.Fits.{StateFits, ActFits}
use Rattle.program_meaning.specs.RequestRun.{at_first, run}
use Rattle.program_meaning.specs.NothingGoesWrong.{IsKnownAccepted}
use Rattle.quiet_methods.specs.MarksKeepWithin.{source}
use Rattle.block_code.specs.declared.event.Event.{Event}
use Rattle.block_code.specs.PlainBlocks.{PlainBlock}
use Rattle.block_code.specs.Places.{blocks_of}
use Rattle.block_code.specs.GraphFits.{GraphFits}
use Rattle.block_runs.specs.BlockRuns.{ComesTo}
use Rattle.request_events.specs.RequestEvents.{first_event, Comes, ended_as}

-- the events of a request come to an end, which is that of the source's run on the same state
pub record EndsAsRun (src : Source) (tables : List PlainTable) (graph : List (List PlainBlock)) (tx : ℕ) (s : State) (asked : Act) : Type 0 where
  pub events : List Event
  pub world : World
  pub last : Event
  pub by : Comes src tables graph (at_first s) (first_event src tx asked) events world last
  pub is : ended_as s world last.steps last.kind ≡ Some (run src s asked)

-- so it is for each state and each request that fit
abbrev pub GraphMeans : List (List ℕ) → PlainProgram → List (List PlainBlock) → Type 0
GraphMeans names program graph = (s : State) → StateFits (tables_of names program) s → (asked : Act) → ActFits (tables_of names program) asked
    → (tx : ℕ) → EndsAsRun (source names program) (tables_of names program) graph tx s asked

-- the blocks of each method come on the whole state to what its body does there, at each entity that isn't too heavy, whatever the
-- arguments and the world
abbrev pub MethodsMean : List (List ℕ) → PlainProgram → List (List PlainBlock) → Type 0
MethodsMean names program graph = (at : Key) → weight_of (entity at) ≤ 65536 → (number : ℕ) (m : PlainMethod) → slice_get (methods_of (source names program) at.0) number ≡ Some m
    → (d : ℕ) (args : List Value) (w : World) (n : ℕ)
    → ComesTo (in_state (source names program) (calls_at (source names program) d) at) (blocks_of (tables_of names program) graph at.0 number) (bound (params_of (Some m)) args) w n
    (run_body (in_state (source names program) (calls_at (source names program) d) at) (Some m) args w n)

-- where the blocks of a graph fit, and mean the methods, the graph means the program
abbrev pub EventsMeanTheirSource : Type 0
EventsMeanTheirSource = (names : List (List ℕ)) (program : PlainProgram) → IsKnownAccepted names program
    → (graph : List (List PlainBlock)) → GraphFits names program graph → MethodsMean names program graph → GraphMeans names program graph

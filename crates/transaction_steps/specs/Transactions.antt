-- The transactions of a batch, and a step of one.
--
-- Each request is a transaction with a world of its own, which begins as the snapshot. Its next event is handled on the record that its own
-- world has of the event's target.
use Rattle.std.specs.Prelude.{◌*◌, ℕ, suc, Bool, true, false, List, [], ◌∷◌, Some, None}
use Rattle.std.specs.declared.option.Option.{Option}
use Rattle.std.specs.FinMap as map
use Rattle.py_tree.specs.ClassRules.{PlainTable}
use Rattle.sf_value.specs.Keys.{Key, key_of}
use Rattle.sf_value.specs.declared.value.Value.{Value}
use Rattle.sf_value.specs.declared.value.Ref.{Ref}
use Rattle.sf_value.specs.declared.Act.{Act}
use Rattle.program_meaning.specs.ClassTables.{Source}
use Rattle.program_meaning.specs.World.{State, World}
use Rattle.program_meaning.specs.RequestRun.{at_first}
use Rattle.block_code.specs.declared.event.Event.{Event}
use Rattle.block_code.specs.declared.event.EventKind.{EventKind}
use Rattle.block_code.specs.declared.event.EventKind.TheVariants as kind
use Rattle.block_code.specs.PlainBlocks.{PlainBlock}
use Rattle.block_runs.specs.EventStep.{Step, lasts, target_of, step_of}
use Rattle.request_events.specs.RequestEvents.{first_event, behind}
use Rattle.interleaving.specs.AsAlone.{sum_of}

-- the world of a request, and its next event
pub record Transaction : Type 0 where
  pub world : World
  pub next : Event

-- Where they begin

-- a request on the snapshot, by the number of its transaction
abbrev pub first_of : Source → State → ℕ → Act → Transaction
first_of src snapshot tx asked = record { world = at_first snapshot; next = first_event src tx asked }

-- each request on the snapshot; the first of them has this number
unfoldable pub begun : Source → State → ℕ → List Act → List Transaction
begun src snapshot tx [] = []
begun src snapshot tx (asked ∷ later) = first_of src snapshot tx asked ∷ begun src snapshot (suc tx) later

abbrev pub firsts : Source → State → List Act → List Transaction
firsts src snapshot batch = begun src snapshot 0 batch

-- A step

-- more than the rank of each block
abbrev pub above_ranks : List (List PlainBlock) → ℕ
above_ranks = sum_of (sum_of (λ (b : PlainBlock). suc b.rank))

-- with so many steps left so many blocks are enough: from block to block a step is taken, or the rank falls
abbrev pub enough : List (List PlainBlock) → ℕ → ℕ
enough graph steps = suc steps * above_ranks graph

-- an event that comes to no step stays as it is
abbrev pub moved : Transaction → Key → Option Step → Transaction
moved t at None = t
moved t at (Some s) = record { world = behind t.world at s; next = s.next }

module _ (src : Source) (tables : List PlainTable) (graph : List (List PlainBlock)) where
  -- what an event comes to on this record with enough blocks
  abbrev pub step_with_enough : Event → Option (List Value) → Option Step
  step_with_enough e held = step_of src tables graph (enough graph e.steps) e.kind e.tx e.frames e.steps held

  -- the next event is handled on the record of its target
  abbrev pub handled_at : Transaction → Option Ref → Transaction
  handled_at t None = t
  handled_at t (Some target) = moved t (key_of target) (step_with_enough t.next (map.get t.world.state (key_of target)))

  abbrev pub handled : Transaction → Transaction
  handled t = handled_at t (target_of t.next.kind (lasts t.next.frames))

-- one that has come to something is over
abbrev pub is_done : EventKind → Bool
is_done (kind.Done outcome) = true
is_done k = false

-- The events of the requests of a batch, which take turns as picks say.
--
-- Each request is a transaction. A pick takes one of those that aren't over, and its next event is handled. What is told of this is the
-- operator that serves the event's target, and the event.
use Rattle.std.specs.Prelude.{ℕ, List, Some, None}
use Rattle.std.specs.declared.option.Option.{Option}
use Rattle.py_tree.specs.ClassRules.{PlainTable}
use Rattle.sf_value.specs.declared.value.Ref.{Ref}
use Rattle.sf_value.specs.declared.Act.{Act}
use Rattle.program_meaning.specs.ClassTables.{Source}
use Rattle.program_meaning.specs.World.{State}
use Rattle.block_code.specs.declared.event.Event.{Event}
use Rattle.block_code.specs.PlainBlocks.{PlainBlock}
use Rattle.block_runs.specs.EventStep.{lasts, target_of}
use Rattle.interleaving.specs.Turns.{Parts, running, after, along, counts}
use Rattle.transaction_steps.specs.Transactions.{Transaction, firsts, handled, is_done}
use Rattle.operator_graph.specs.Routing.{operator_of}
use Rattle.operator_graph.specs.Telling.{Told, StepTold}

-- What is told

-- an event that is handled has a target; one without counts as of the first operator
abbrev pub operator_for : Option Ref → ℕ → ℕ
operator_for None parts = 0
operator_for (Some target) parts = operator_of target parts

abbrev pub event_told : ℕ → Event → Told
event_told parts e = StepTold (operator_for (target_of e.kind (lasts e.frames)) parts) e

-- Along picks

-- the transactions take turns, on operators of which there are so many for each class
abbrev pub transactions : Source → List PlainTable → List (List PlainBlock) → ℕ → Parts Transaction Told
transactions src tables graph parts = record {
  step = handled src tables graph;
  is_over = λ t. is_done t.next.kind;
  note = λ t. event_told parts t.next;
}

module _ (src : Source) (tables : List PlainTable) (graph : List (List PlainBlock)) (snapshot : State) (batch : List Act) (parts : ℕ) (picks : List ℕ) where
  -- what they have come to, with so many partitions and after these picks
  abbrev pub batch_after : List Transaction
  batch_after = after (transactions src tables graph parts) picks (firsts src snapshot batch)

  -- what was told
  abbrev pub batch_told : List Told
  batch_told = along (transactions src tables graph parts) picks (firsts src snapshot batch)

  -- of how many each pick was one
  abbrev pub batch_counts : List ℕ
  batch_counts = counts (transactions src tables graph parts) picks (firsts src snapshot batch)

  -- how many of them aren't over
  abbrev pub batch_running : ℕ
  batch_running = running (transactions src tables graph parts) batch_after

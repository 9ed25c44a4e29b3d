-- What a watch is told: graphs, and the events that operators handle.
use Rattle.std.specs.Prelude.{◌≡◌, ℕ, List, ◌++◌, Some, None}
use Rattle.std.specs.declared.option.Option.{Option}
use Rattle.py_tree.specs.ClassRules.{PlainTable}
use Rattle.block_code.specs.declared.event.Event.{Event}
use Rattle.block_code.specs.PlainBlocks.{PlainBlock}

pub data Told : Type 0 where
  -- a graph, by the tables of its program and its blocks
  GraphTold : (tables : List PlainTable) → (blocks : List (List PlainBlock)) → Told
  -- an event that the operator of this number is to handle
  StepTold : (operator : ℕ) → (event : Event) → Told

-- this was told besides; who tells nothing any more never tells anything again
abbrev pub AlsoTold : Option (List Told) → Option (List Told) → List Told → Type 0
AlsoTold old None more = Unit {0}
AlsoTold None (Some new) more = ⊥
AlsoTold (Some old) (Some new) more = new ≡ old ++ more

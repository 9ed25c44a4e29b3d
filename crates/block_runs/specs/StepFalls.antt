-- What falls from event to event, so that the events of a transaction end.
use Rattle.std.specs.Prelude.{◌≡◌, ◌+◌, ◌*◌, ◌<◌, ◌≤◌, ℕ, List, length}
use Rattle.std.specs.declared.option.Option.{Option}
use Rattle.py_tree.specs.ClassRules.{PlainTable}
use Rattle.sf_value.specs.declared.value.Value.{Value}
use Rattle.program_meaning.specs.ClassTables.{Source}
use Rattle.block_code.specs.declared.event.Frame.{Frame}
use Rattle.block_code.specs.declared.event.Event.{Event}
use Rattle.block_code.specs.declared.event.EventKind.{EventKind}
use Rattle.block_code.specs.declared.event.EventKind.TheVariants as kind
use Rattle.block_code.specs.PlainBlocks.{PlainBlock}
use Rattle.block_runs.specs.EventStep.{Step, StepsTo}

-- how many events may still come where no step is taken: one for each frame that goes on, and one for a method that is entered
abbrev pub left_by_frames : EventKind → List Frame → ℕ
left_by_frames (kind.Enter at method args) frames = length frames + 1
left_by_frames (kind.Make at args) frames = length frames + 1
left_by_frames (kind.Resume o) frames = length frames
left_by_frames (kind.Done o) frames = 0

-- a step that is taken is worth more than all frames that there may be
abbrev pub weight : Event → ℕ
weight e = 65 * e.steps + left_by_frames e.kind e.frames

-- at most 63 methods wait
abbrev pub FewWait : Event → Type 0
FewWait e = length e.frames ≤ 63

-- each step of an event with few frames makes it lighter, and few frames stay
abbrev pub StepsFall : Type 0
StepsFall = (src : Source) (tables : List PlainTable) (graph : List (List PlainBlock)) (e : Event) (held : Option (List Value)) (s : Step) → FewWait e → StepsTo src tables graph e held s → (weight s.next < weight e) × FewWait s.next × (s.next.tx ≡ e.tx)
